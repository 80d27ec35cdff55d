use Rattle.std.proofs.Common.{◌≡◌, drop}
use Rattle.model_images.specs.Image.{Image, IsImage}
use Rattle.strip_patches.specs.Bands.{AreOfImage, HasBands}
use Rattle.strip_patches.proofs.Banded.{IsInBand}
use Rattle.strip_patches.proofs.bands.put_band.Given as goal

abbrev pub invariant-loop-entry : goal.invariant-loop-entry
invariant-loop-entry l = record {
  box : l.patch.box ≡ l.initial.patch.box;
  format : l.patch.format ≡ l.initial.patch.format;
  whole : IsImage l.patch;
  image : (image first : Image) → image.format ≡ l.initial.patch.format → AreOfImage image l.fn.tiles → HasBands image first l.fn.tiles l.fn.band l.initial.patch
      → IsInBand image first l.fn.tiles l.fn.band (drop l.entry-index l.fn.tiles) l.patch;
}
