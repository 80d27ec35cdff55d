-- Tiles that are cut from what is written over a rectangle, with nothing of what was there.
use Rattle.std.specs.Prelude.{◌≡◌, ℕ, All, IfSome, List, None, length}
use Rattle.level_tables.specs.Over.{tile_length}
use Rattle.model_images.specs.FromRaw.{byte_count, pixels_from_raw}
use Rattle.model_images.specs.Tiles.{HeldTiles}
use Rattle.pixel_formats.specs.Row.{Pixel}
use Rattle.pixel_formats.specs.declared.format.Format.{Format}
use Rattle.plane_rect.specs.Rectangle.{Inside, Rectangle}
use Rattle.plane_rect.specs.Tile.{IsWhole, Tile, tile_square}
use Rattle.root_tiles.specs.Paints.{IsPainted, paint_pixels}
use Rattle.root_tiles.specs.Roots.{RootTiles}
use Rattle.root_tiles.specs.declared.cutting.CutTile.{CutTile}
use Rattle.root_tiles.specs.declared.cutting.Raster.{Raster}
use Rattle.root_tiles.specs.declared.paint.Paint.{Paint}

-- the samples that are written over a rectangle of a box
pub record Cutting : Type 0 where
  pub format : Format
  pub box : Rectangle
  pub rect : Rectangle
  pub pixels : ℕ → ℕ → Pixel

-- no tile is held
abbrev pub no_tiles : HeldTiles
no_tiles tile = None

-- all that a tile has of a box is in a rectangle
abbrev pub Covers : Rectangle → Rectangle → Tile → Type 0
Covers box r tile = (u v : ℕ) → Inside u v (tile_square tile) → Inside u v box → Inside u v r

-- Bytes are those of a tile that is covered: it has what is written, and else zeros.
pub record IsCut (cutting : Cutting) (tile : Tile) (bytes : List ℕ) : Type 0 where
  pub length : length bytes ≡ tile_length cutting.format
  pub covered : Covers cutting.box cutting.rect tile
  pub painted : IsPainted cutting.format no_tiles cutting.rect cutting.pixels tile bytes

-- what is written over a rectangle of a root
abbrev pub cutting_of : RootTiles → Rectangle → Paint → Cutting
cutting_of root r paint =
    record { format = root.tiles.format; box = root.box; rect = r; pixels = paint_pixels root.tiles.format r paint }

-- what a raster writes
abbrev pub raster_cutting : Raster → Cutting
raster_cutting raster = record {
  format = raster.format;
  box = raster.bounds;
  rect = raster.rect;
  pixels = pixels_from_raw raster.rect raster.format raster.bytes.now;
}

-- a raster has the bytes of its rectangle
abbrev pub IsRaster : Raster → Type 0
IsRaster raster = length raster.bytes.now ≡ byte_count raster.rect raster.format

-- a position has the bytes of its tile, where it is covered
abbrev pub IsCutTile : Cutting → CutTile → Type 0
IsCutTile cutting cut = IfSome cut.tile (IsCut cutting cut.at)

-- what was cut for a position is of that position
pub record IsCutAt (raster : Raster) (position : Tile) (cut : CutTile) : Type 0 where
  pub at : cut.at ≡ position
  pub tile : IsCutTile (raster_cutting raster) cut

-- Positions whose tiles are still to be cut from a raster, and tiles that are cut from it.
pub record AreCutFrom (raster : Raster) (left : List Tile) (batch : List CutTile) : Type 0 where
  pub bytes : IsRaster raster
  pub whole : All IsWhole left
  pub cut : All (IsCutTile (raster_cutting raster)) batch
