-- Tiles that make a rectangle of an image, by rows of tiles.
use Rattle.std.specs.Prelude.{◌≡◌, ℕ, ◌*◌, All, Contains, List, Some, length, slice_get}
use Rattle.plane_rect.specs.Rectangle.{Includes, InLimits, IsRectangle, Rectangle}
use Rattle.plane_rect.specs.Tile.{IsWhole, Meets, Tile, strip_rectangles}
use Rattle.pixel_formats.specs.Format.{pixel_bytes}
use Rattle.pixel_formats.specs.declared.format.Format.{Format}
use Rattle.model_images.specs.Image.{Image}
use Rattle.op_contracts.specs.TileList.{HasLength, tiles_in}
use Rattle.strip_patches.specs.Bands.{AreOfImage}

-- A rectangle, a format, and tiles with their bytes: those of each row of tiles, from the top.
pub record TiledRect : Type 0 where
  pub rect : Rectangle
  pub format : Format
  pub rows : List (List (Tile × List ℕ))

-- Whole tiles of the plane, with as many bytes as the format's have.
pub record IsTiled (tiled : TiledRect) : Type 0 where
  pub rectangle : IsRectangle tiled.rect
  pub limits : InLimits tiled.rect
  pub in_plane : All (λ (row : List (Tile × List ℕ)). All (λ (entry : Tile × List ℕ). IsWhole entry.0) row) tiled.rows
  pub lengths : All (λ (row : List (Tile × List ℕ)). All (HasLength (4096 * pixel_bytes tiled.format)) row) tiled.rows

-- tiles of an image, among them each that meets a rectangle
pub record AreTilesOver (image : Image) (rect : Rectangle) (row : List (Tile × List ℕ)) : Type 0 where
  pub tiles : AreOfImage image row
  pub all : (tile : Tile) → Meets tile rect → Contains (tiles_in row) tile

-- So many rows were added, of an image's tiles; the rectangle is in the image's box.
pub record HasRows (image : Image) (count : ℕ) (tiled : TiledRect) : Type 0 where
  pub rectangle : IsRectangle image.box
  pub format : tiled.format ≡ image.format
  pub inside : Includes image.box tiled.rect
  pub count_is : length tiled.rows ≡ count
  pub each : (k : ℕ) (row : List (Tile × List ℕ)) (strip : Rectangle) → slice_get tiled.rows k ≡ Some row → slice_get (strip_rectangles tiled.rect) k ≡ Some strip
      → AreTilesOver image strip row
