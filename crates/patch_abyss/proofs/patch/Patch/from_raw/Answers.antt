use Rattle.std.proofs.Common.{◌≡◌, ◌∙◌, ap, rules, length}
use Rattle.model_images.specs.Raw.{raw}
use Rattle.model_images.specs.FromRaw.{byte_count, image_from_raw}
use Rattle.model_images.proofs.FromRawLaws.{raw-image_from_raw, are_bytes}
use Rattle.patch_abyss.proofs.patch.Patch.from_raw.Goals as goal

pub returns-clause-raw : goal.returns-clause-raw
returns-clause-raw c =
    let bytes = c.args.bytes.now in
    let copied : c.in_ok-from_slice.field-0.items ≡ bytes = search rules in
    let whole : length bytes ≡ byte_count c.args.rect c.args.format = search rules in
    ap (λ bytes. raw (image_from_raw c.args.rect c.args.format bytes) c.args.rect) copied
    ∙ raw-image_from_raw c.args.rect c.args.format bytes (are_bytes bytes c.type_inv.bytes) whole
