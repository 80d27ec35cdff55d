-- The raw bytes of parts of what windows show.
use Rattle.std.specs.Prelude.{◌≡◌, ℕ, ◌<◌, List, length}
use Rattle.plane_rect.specs.Rectangle.{Inside, Rectangle}
use Rattle.pixel_formats.specs.Format.{channels}
use Rattle.model_images.specs.FromRaw.{byte_count, pixels_from_raw}
use Rattle.model_images.specs.Image.{Image, at}
use Rattle.model_images.specs.Raw.{raw}
use Rattle.op_contracts.specs.declared.part_bytes.PartBytes.{PartBytes}
use Rattle.op_contracts.specs.declared.part_bytes.PartBytes.TheVariants.{Lent, Copied}

-- the bytes, lent or copied
abbrev pub bytes_of : PartBytes → List ℕ
bytes_of (Lent bytes) = bytes.now
bytes_of (Copied patch) = raw patch patch.box

-- The bytes are those of an image over a rectangle: as many as it has there, and the samples that are decoded from them
-- are the image's.
pub record AreRawBytesOf (image : Image) (r : Rectangle) (bytes : List ℕ) : Type 0 where
  pub whole : length bytes ≡ byte_count r image.format
  pub samples : (u v c : ℕ) → Inside u v r → c < channels image.format → pixels_from_raw r image.format bytes u v c ≡ at image u v c
