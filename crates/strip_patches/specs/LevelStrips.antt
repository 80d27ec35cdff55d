-- Requests of levels, and the patches that their strips make.
use Rattle.std.specs.Prelude.{◌≡◌, ℕ, zero, suc, ◌+◌, ◌≤◌, ◌<◌, min, IsSome, unwrap_or}
use Rattle.plane_rect.specs.Rectangle.{Inside, IsRectangle, Rectangle, empty, half, scaled}
use Rattle.plane_rect.specs.Tile.{tile_of}
use Rattle.pixel_formats.specs.Format.{channels}
use Rattle.model_images.specs.Image.{Image, IsImage, at}
use Rattle.model_images.specs.Level.{level, level_box}

-- A rectangle of a level, and the patch that the strips make which were added: one of a level whose strips have no row in
-- common.
pub record LevelStrips : Type 0 where
  pub rect : Rectangle
  pub at_level : ℕ
  pub patch : Image

-- how many times a strip of level 0 is halved by itself: it begins and ends at multiples of 64 rows
abbrev pub strip_level : ℕ → ℕ
strip_level z = min z 6

-- the rectangle of level 0 that is averaged for the request
abbrev pub source_of : LevelStrips → Rectangle
source_of strips = unwrap_or (scaled strips.at_level strips.rect) empty

-- The request is a rectangle of a level that an image may have, and the patch is over its rectangle of the strips' level.
pub record IsRequest (strips : LevelStrips) : Type 0 where
  pub small : strips.at_level ≤ 8
  pub source : IsSome (scaled strips.at_level strips.rect)
  pub rectangle : IsRectangle strips.rect
  pub source_rectangle : IsRectangle (source_of strips)
  pub box : strips.patch.box ≡ level_box (source_of strips) (strip_level strips.at_level)
  pub whole : IsImage strips.patch

-- strips of one request
pub record AreOfOne (old new : LevelStrips) : Type 0 where
  pub rect : new.rect ≡ old.rect
  pub at_level : new.at_level ≡ old.at_level
  pub format : new.patch.format ≡ old.patch.format

-- the column of an x halved so many times, or the row of a y
unfoldable pub halves : ℕ → ℕ → ℕ
halves n zero = n
halves n (suc z) = half (halves n z)

-- So many strips of an image were added: the patch has the samples of the image's level at each position that is averaged
-- of positions of these strips.
pub record HasStrips (image : Image) (count : ℕ) (strips : LevelStrips) : Type 0 where
  pub rectangle : IsRectangle image.box
  pub format : strips.patch.format ≡ image.format
  pub samples : (u v c : ℕ) → Inside u v (source_of strips) → tile_of v < tile_of (source_of strips).first_row + count → c < channels image.format →
      at strips.patch (halves u (strip_level strips.at_level)) (halves v (strip_level strips.at_level)) c
      ≡ at (level image (strip_level strips.at_level)) (halves u (strip_level strips.at_level)) (halves v (strip_level strips.at_level)) c
