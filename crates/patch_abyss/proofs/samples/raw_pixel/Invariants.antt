use Rattle.std.proofs.Common.{◌≡◌, take}
use Rattle.std.specs.List.{flat_map}
use Rattle.pixel_formats.specs.Format.{depth}
use Rattle.model_images.specs.Raw.{sample_bytes}
use Rattle.patch_abyss.proofs.samples.raw_pixel.Given as goal

abbrev pub invariant-loop-sample : goal.invariant-loop-sample
invariant-loop-sample l = l.bytes.items ≡ flat_map (sample_bytes (depth l.format)) (take l.sample-index l.samples)
