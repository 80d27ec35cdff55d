use Rattle.std.proofs.Common.{◌≡◌, ◌*◌, All, refl, sym, ap, ◌∙◌, subst}
use Rattle.pixel_formats.specs.Format.{pixel_bytes}
use Rattle.model_images.specs.Image.{Image, IsImage}
use Rattle.model_images.specs.Paint.{blank}
use Rattle.model_images.proofs.Laws.{IsImage-image_from_fn}
use Rattle.op_contracts.specs.TileList.{HasLength}
use Rattle.strip_patches.specs.Nodes.{HasPart}
use Rattle.strip_patches.proofs.Banded.{all-bands}
use Rattle.strip_patches.proofs.Filling.{part-cut}
use Rattle.strip_patches.proofs.patching.patch_of_tiles.Goals as goal

pub put_by_bands-requires-clause-lengths : goal.put_by_bands-requires-clause-lengths
put_by_bands-requires-clause-lengths c =
    subst (λ (x : Image). All (HasLength (4096 * pixel_bytes x.format)) c.args.tiles.now) (sym c.in_ok-patch.ensures) c.requires.lengths

pub put_by_bands-requires-clause-whole : goal.put_by_bands-requires-clause-whole
put_by_bands-requires-clause-whole c =
    subst IsImage (sym c.in_ok-patch.ensures) (IsImage-image_from_fn c.args.rect c.args.format (λ u v c. 0))

pub returns-clause-image : goal.returns-clause-image
returns-clause-image c = λ image same over.
    let new = c.put_by_bands.new.patch in
    let is : c.in_ok-patch.patch ≡ blank c.args.rect c.args.format = c.in_ok-patch.ensures in
    let format : image.format ≡ c.in_ok-patch.patch.format = same ∙ sym (ap (λ (x : Image). x.format) is) in
    let part : HasPart image c.args.rect c.in_ok-patch.patch new =
    all-bands image c.in_ok-patch.patch new c.args.rect image.box c.args.tiles.now refl over.all (c.put_by_bands.ensures.image image format over.tiles) in
    part-cut image new c.args.rect c.put_by_bands.ensures.whole
    (c.put_by_bands.ensures.rect ∙ ap (λ (x : Image). x.box) is)
    (c.put_by_bands.ensures.format ∙ sym format)
    (subst (λ (old : Image). HasPart image c.args.rect old new) (is ∙ ap (blank c.args.rect) (sym same)) part)
