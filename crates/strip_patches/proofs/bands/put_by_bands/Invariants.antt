use Rattle.std.proofs.Common.{◌≡◌}
use Rattle.model_images.specs.Image.{Image, IsImage}
use Rattle.strip_patches.specs.Bands.{AreOfImage, HasBands}
use Rattle.strip_patches.proofs.bands.put_by_bands.Given as goal

abbrev pub invariant-loop-band : goal.invariant-loop-band
invariant-loop-band l = record {
  box : l.patch.box ≡ l.initial.patch.box;
  format : l.patch.format ≡ l.initial.patch.format;
  whole : IsImage l.patch;
  image : (image : Image) → image.format ≡ l.initial.patch.format → AreOfImage image l.fn.tiles → HasBands image l.initial.patch l.fn.tiles l.band l.patch;
}
