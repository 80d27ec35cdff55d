-- Tables whose roots are held by tiles.
use Rattle.std.specs.Prelude.{◌≡◌, ◌≢◌, ℕ, List, map}
use Rattle.plane_rect.specs.Tile.{Meets, Tile}
use Rattle.pixel_formats.specs.Row.{Pixel}
use Rattle.plane_rect.specs.Rectangle.{Rectangle}
use Rattle.model_images.specs.Image.{Image}
use Rattle.model_images.specs.Paint.{painted}
use Rattle.model_images.specs.Raw.{tile_bytes}
use Rattle.model_images.specs.Tiles.{HeldTiles, held_image, tile_or_zeros}
use Rattle.model_graphs.specs.Shapes.{Shape}
use Rattle.model_buffers.specs.Layout.{TableLayout}
use Rattle.model_buffers.specs.Table.{Table}

-- the tiles of each root, by its name
abbrev pub HeldRoots : Type 0
HeldRoots = List ℕ → HeldTiles

-- the image of a root of this shape
abbrev pub held_root : HeldRoots → List ℕ → Shape → Image
held_root held root shape = held_image shape.box shape.format (held root)

-- The table of a layout whose roots are held by tiles.
abbrev pub held_table : TableLayout → HeldRoots → Table
held_table layout held = record {
  roots = map (λ (entry : List ℕ × Shape). (entry.0, held_root held entry.0 entry.1)) layout.roots;
  buffers = layout.buffers;
}

-- each root but one has the same tiles
abbrev pub AreSameBut : List ℕ → HeldRoots → HeldRoots → Type 0
AreSameBut root held later = (other : List ℕ) (tile : Tile) → other ≢ root → later other tile ≡ held other tile

-- the tiles of a root of this shape are those of its image once f's samples are over a rectangle
abbrev pub ArePainted : HeldRoots → HeldRoots → List ℕ → Shape → Rectangle → (ℕ → ℕ → Pixel) → Type 0
ArePainted held later root shape rectangle f =
    (tile : Tile) → Meets tile shape.box →
    tile_or_zeros shape.format (later root) tile ≡ tile_bytes (painted (held_root held root shape) rectangle f) tile
