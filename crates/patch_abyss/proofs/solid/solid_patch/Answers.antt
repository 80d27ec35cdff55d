use Rattle.std.proofs.Common.{◌≡◌, ap, ◌∙◌, get_or}
use Rattle.plane_rect.specs.Rectangle.{Rectangle}
use Rattle.pixel_formats.specs.declared.abyss.Abyss.TheVariants.{Clamp}
use Rattle.model_images.specs.Abyss.{abyss_at}
use Rattle.model_images.specs.FromRaw.{image_from_raw}
use Rattle.model_images.specs.Image.{Image, image_from_fn}
use Rattle.patch_abyss.proofs.Encoded.{unit, unit-count, unit-everywhere}
use Rattle.patch_abyss.proofs.solid.solid_patch.Goals as goal

pub from_vec-one-requires-clause-count : goal.from_vec-one-requires-clause-count
from_vec-one-requires-clause-count c =
    rw c.spanning.ensures (unit-count c.args.format c.args.samples.now c.in_ok-pixel.pixel.items c.requires.count c.in_ok-pixel.ensures)

pub returns : goal.returns
returns c =
    let one = c.from_vec-one.result in
    let out = c.args.out in
    let format = c.args.format in
    let pixel = c.in_ok-pixel.pixel.items in
    let is : one ≡ image_from_raw unit format pixel = c.from_vec-one.ensures ∙ ap (λ (r : Rectangle). image_from_raw r format pixel) c.spanning.ensures in
    let same : image_from_fn out one.format (abyss_at one Clamp) ≡ image_from_fn out format (λ u v k. get_or c.args.samples.now k 0) =
    ap (λ (image : Image). image_from_fn out image.format (abyss_at image Clamp)) is
    ∙ unit-everywhere format c.args.samples.now pixel out c.in_ok-pixel.ensures in
    rw same at c.fetch.ensures
