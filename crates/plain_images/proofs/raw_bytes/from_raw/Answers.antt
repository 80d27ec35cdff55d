use Rattle.std.proofs.Common.{◌≡◌, IfOk, Result, Ok, Err, ap, ◌∙◌}
use Rattle.model_images.specs.Image.{Image}
use Rattle.model_images.specs.Raw.{raw}
use Rattle.model_images.proofs.FromRawLaws.{are_bytes, raw-image_from_raw}
use Rattle.model_images.specs.FromRaw.{image_from_raw}
use Rattle.plain_images.proofs.raw_bytes.from_raw.Goals as goal

-- what follows from a fact of the value in an Ok
if_ok : {A E : Type 0} (r : Result A E) (P Q : A → Type 0) → ((a : A) → P a → Q a) → IfOk r P → IfOk r Q
if_ok (Ok a) P Q follows h = follows a h
if_ok (Err e) P Q follows h = h

pub returns-clause-raw : goal.returns-clause-raw
returns-clause-raw c =
    let rect = c.args.rect in
    let bytes = c.args.bytes.now in
    if_ok c.draw.result (λ (p : Image). p ≡ image_from_raw rect c.args.format bytes) (λ (p : Image). raw p rect ≡ bytes)
    (λ p is. ap (λ (image : Image). raw image rect) is ∙ raw-image_from_raw rect c.args.format bytes (are_bytes bytes c.type_inv.bytes) c.requires.size)
    c.draw.ensures
