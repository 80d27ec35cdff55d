-- Windows: what a part of a result is handed of one of its inputs, as tiles.
use Rattle.std.specs.Prelude.{◌≡◌, ℕ, ◌*◌, List, map, length, slice_get, All, IsSome, Some}
use Rattle.std.specs.List.{IsDistinct}
use Rattle.std.specs.Map.{lookup}
use Rattle.plane_rect.specs.Rectangle.{Includes, Rectangle}
use Rattle.plane_rect.specs.Tile.{Meets, Tile, same_tile}
use Rattle.pixel_formats.specs.Format.{pixel_bytes}
use Rattle.pixel_formats.specs.declared.format.Format.{Format}
use Rattle.model_images.specs.Image.{Image}
use Rattle.model_images.specs.Raw.{tile_bytes}
use Rattle.model_images.specs.Tiles.{HeldTiles, held_image}
use Rattle.model_graphs.specs.Meanings.{Meanings, boxes_of}

-- the rectangle of the input that is needed, the input's format and box, and tiles with their raw bytes
pub record Window : Type 0 where
  pub need : Rectangle
  pub format : Format
  pub bounds : Rectangle
  pub tiles : List (Tile × List ℕ)

-- the bytes of a tile, where the window has it
abbrev pub tiles_of : Window → HeldTiles
tiles_of window tile = lookup (same_tile tile) window.tiles

-- The image that a window shows, over its whole box. Outside its need it shows what tiles it happens to have.
abbrev pub window_image : Window → Image
window_image window = held_image window.bounds window.format (tiles_of window)

-- the bytes are as many as those of a tile of the format
abbrev pub HasTileLength : Format → Tile × List ℕ → Type 0
HasTileLength format entry = length entry.1 ≡ 4096 * pixel_bytes format

-- A window is whole: it has each tile that meets its need, none twice, and each with as many bytes as a tile has.
pub record IsWholeWindow (window : Window) : Type 0 where
  pub complete : (tile : Tile) → Meets tile window.need → IsSome (tiles_of window tile)
  pub distinct : IsDistinct same_tile (map (λ (entry : Tile × List ℕ). entry.0) window.tiles)
  pub lengths : All (HasTileLength window.format) window.tiles

-- A window is of an image: it has its format and its box, and each of its tiles is one of the image's.
pub record IsWindowOf (image : Image) (window : Window) : Type 0 where
  pub format : window.format ≡ image.format
  pub bounds : window.bounds ≡ image.box
  pub tiles : (tile : Tile) (bytes : List ℕ) → tiles_of window tile ≡ Some bytes → bytes ≡ tile_bytes image tile

-- Each window is of the image of the same number, whole, and needed at all that a part of a result requires of it.
pub record AreWindowsOf {Op : Type 0} (meanings : Meanings Op) (operation : Op) (images : List Image) (windows : List Window) (part : Rectangle) : Type 0 where
  pub count : length windows ≡ length images
  pub each : (i : ℕ) (image : Image) (window : Window) → slice_get images i ≡ Some image → slice_get windows i ≡ Some window
      → IsWindowOf image window × IsWholeWindow window × Includes window.need (meanings.required operation (boxes_of images) i part)
