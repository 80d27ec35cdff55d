use Rattle.std.proofs.Common.{◌≡◌, ap, sym, ◌∙◌, rules, length, subst}
use Rattle.std.proofs.lemmas.List.{with_items_is}
use Rattle.plane_rect.specs.Rectangle.{Rectangle, InLimits, halved}
use Rattle.model_images.specs.Image.{image_from_fn}
use Rattle.model_images.specs.Level.{mean_at}
use Rattle.model_images.specs.FromRaw.{image_from_raw}
use Rattle.patch_abyss.proofs.FilledRows.{RowsFilled-all}
use Rattle.model_images.proofs.LevelLaws.{InLimits-halved}
use Rattle.patch_abyss.proofs.halving.halve.Goals as goal

pub byte_count-requires : goal.byte_count-requires
byte_count-requires c =
    subst InLimits (sym c.halved-rect.ensures.value) (InLimits-halved c.rect.result c.rect.ensures.rectangle c.rect.ensures.limits)

pub from_vec-requires-clause-limits : goal.from_vec-requires-clause-limits
from_vec-requires-clause-limits c =
    subst InLimits (sym c.halved-rect.ensures.value) (InLimits-halved c.rect.result c.rect.ensures.rectangle c.rect.ensures.limits)

pub returns : goal.returns
returns c =
    let image = c.args.image.now in
    let rect = c.halved-rect.result in
    let new = c.halve_rows.new.bytes in
    let fits : length new ≡ c.in_ok-bytes.bytes.len = search rules in
    rw c.format-format.ensures at c.from_vec.ensures
    ∙ ap (image_from_raw rect image.format) (with_items_is c.in_ok-bytes.bytes new fits)
    ∙ RowsFilled-all rect image.format (mean_at image) new c.halve_rows.ensures.generated
    ∙ ap (λ (r : Rectangle). image_from_fn r image.format (mean_at image)) c.halved-rect.ensures.value
    ∙ ap (λ (r : Rectangle). image_from_fn (halved r) image.format (mean_at image)) c.rect.ensures.value
