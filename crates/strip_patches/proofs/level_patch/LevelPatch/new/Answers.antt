use Rattle.std.proofs.Common.{◌≡◌, Some, ap, sym, ◌∙◌, subst}
use Rattle.plane_rect.specs.Rectangle.{scaled}
use Rattle.model_images.specs.Image.{Image, IsImage}
use Rattle.model_images.specs.Level.{level_box}
use Rattle.model_images.proofs.Laws.{IsImage-image_from_fn}
use Rattle.strip_patches.specs.LevelStrips.{strip_level}
use Rattle.strip_patches.proofs.Adding.{none-added, request-first}
use Rattle.strip_patches.proofs.level_patch.LevelPatch.new.Goals as goal

pub invariant_of-result : goal.invariant_of-result
invariant_of-result c =
    let source : scaled c.args.level c.args.rect ≡ Some c.unwrap-source.result = sym c.scaled.ensures.value ∙ c.unwrap-source.ensures in
    let over : c.halved_rect-over.result ≡ level_box c.unwrap-source.result (strip_level c.args.level) =
    c.halved_rect-over.ensures.value ∙ ap (level_box c.unwrap-source.result) c.min.ensures in
    request-first c.args.rect c.unwrap-source.result c.args.level c.in_ok-patch.patch c.requires.level source
    c.area.ensures.rectangle c.area-2.ensures.rectangle (ap (λ (x : Image). x.box) c.in_ok-patch.ensures ∙ over)
    (subst IsImage (sym c.in_ok-patch.ensures) (IsImage-image_from_fn c.halved_rect-over.result c.args.format (λ u v c. 0)))

pub returns-clause-none : goal.returns-clause-none
returns-clause-none c = λ image rectangle format.
    none-added image (record { rect = c.args.rect; at_level = c.args.level; patch = c.in_ok-patch.patch }) rectangle
    (ap (λ (x : Image). x.format) c.in_ok-patch.ensures ∙ sym format)
