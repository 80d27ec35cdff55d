use Rattle.std.proofs.Common.{◌≡◌, ◌∙◌, map}
use Rattle.std.specs.List.{range_with_len}
use Rattle.pixel_formats.specs.Format.{channels}
use Rattle.point_ops.specs.Generated.{opaque_pixel}
use Rattle.patch_abyss.proofs.Encoded.{all-encoded}
use Rattle.point_ops.proofs.checker.raw_opaque.Goals as goal

pub returns-clause-pixel : goal.returns-clause-pixel
returns-clause-pixel c =
    let pixel = opaque_pixel c.args.format c.args.value in
    let is : c.deref.result.now ≡ map pixel (range_with_len 0 (channels c.args.format)) = c.deref.ensures.value ∙ c.in_ok-samples.ensures.samples in
    all-encoded c.args.format pixel c.raw_pixel.result (rw is at c.raw_pixel.ensures)
