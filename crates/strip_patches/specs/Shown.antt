-- What pictures show, and the strips of which they are made.
use Rattle.std.specs.Prelude.{◌≡◌, ℕ, Bool, false, length, true}
use Rattle.plane_rect.specs.Rectangle.{Rectangle}
use Rattle.pixel_formats.specs.declared.format.Format.{Format}
use Rattle.model_images.specs.Image.{Image}
use Rattle.model_images.specs.Paint.{cut}
use Rattle.plane_rect.specs.Tile.{strip_rectangles}
use Rattle.strip_patches.specs.LevelStrips.{HasStrips, source_of}
use Rattle.strip_patches.specs.Pictures.{HasRows}
use Rattle.strip_patches.specs.declared.picture.Picture.{Picture}
use Rattle.strip_patches.specs.declared.picture.Picture.TheVariants as pictures
use Rattle.strip_patches.specs.declared.picture_strips.PictureStrips.{PictureStrips}
use Rattle.strip_patches.specs.declared.picture_strips.PictureStrips.TheVariants as strips

-- ---- pictures

abbrev pub picture_box : Picture → Rectangle
picture_box (pictures.Patch patch) = patch.box
picture_box (pictures.Tiles tiled) = tiled.rect

abbrev pub picture_format : Picture → Format
picture_format (pictures.Patch patch) = patch.format
picture_format (pictures.Tiles tiled) = tiled.format

-- the picture is a patch
abbrev pub is_patch : Picture → Bool
is_patch (pictures.Patch patch) = true
is_patch (pictures.Tiles tiled) = false

-- The picture is a rectangle of an image: the patch over it, or the image's tiles.
abbrev pub Shows : Image → Rectangle → Picture → Type 0
Shows image rect (pictures.Patch patch) = patch ≡ cut image rect
Shows image rect (pictures.Tiles tiled) = (tiled.rect ≡ rect) × HasRows image (length (strip_rectangles rect)) tiled

-- ---- pictures that are being made

-- the rectangle and the level of the request, the rectangle of level 0 for it, and the format
abbrev pub rect_in : PictureStrips → Rectangle
rect_in (strips.Patch patch) = patch.rect
rect_in (strips.Tiles tiled) = tiled.rect

abbrev pub level_in : PictureStrips → ℕ
level_in (strips.Patch patch) = patch.at_level
level_in (strips.Tiles tiled) = 0

abbrev pub source_in : PictureStrips → Rectangle
source_in (strips.Patch patch) = source_of patch
source_in (strips.Tiles tiled) = tiled.rect

abbrev pub format_in : PictureStrips → Format
format_in (strips.Patch patch) = patch.patch.format
format_in (strips.Tiles tiled) = tiled.format

-- a patch is made
abbrev pub makes_patch : PictureStrips → Bool
makes_patch (strips.Patch patch) = true
makes_patch (strips.Tiles tiled) = false

-- strips of one request
pub record AreOfOneRequest (old new : PictureStrips) : Type 0 where
  pub rect : rect_in new ≡ rect_in old
  pub at_level : level_in new ≡ level_in old
  pub source : source_in new ≡ source_in old
  pub format : format_in new ≡ format_in old
  pub patch : makes_patch new ≡ makes_patch old

-- So many strips of an image were added.
abbrev pub HasStripsOf : Image → ℕ → PictureStrips → Type 0
HasStripsOf image count (strips.Patch patch) = HasStrips image count patch
HasStripsOf image count (strips.Tiles tiled) = HasRows image count tiled
