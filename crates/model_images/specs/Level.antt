-- Images at reduced levels: each level halves the one before it.
use Rattle.std.specs.Prelude.{ℕ, zero, suc, ◌+◌, ◌-◌, ◌*◌, ◌/◌}
use Rattle.plane_rect.specs.Rectangle.{Rectangle, end_column, end_row, halved, origin}
use Rattle.plane_rect.specs.Tile.{Tile, tile_origin}
use Rattle.pixel_formats.specs.Average.{mean_of_four}
use Rattle.model_images.specs.Image.{Image, at, image_from_fn}

-- the column of twice an x, or the row of twice a y; the first of the plane where twice it is outside
abbrev pub doubled : ℕ → ℕ
doubled n = 2 * n - origin

-- the mean of the samples at 2x and 2x + 1 by 2y and 2y + 1, each of which is 0 outside the box
abbrev pub mean_at : Image → ℕ → ℕ → ℕ → ℕ
mean_at image u v c =
    mean_of_four
    (at image (doubled u) (doubled v) c)
    (at image (doubled u + 1) (doubled v) c)
    (at image (doubled u) (doubled v + 1) c)
    (at image (doubled u + 1) (doubled v + 1) c)

-- the image over half its box, each sample the mean of four
abbrev pub halved_image : Image → Image
halved_image image = image_from_fn (halved image.box) image.format (mean_at image)

-- the image halved so many times
unfoldable pub level : Image → ℕ → Image
level image zero = image
level image (suc z) = halved_image (level image z)

-- the box of a level of an image over this box
abbrev pub level_box : Rectangle → ℕ → Rectangle
level_box box zero = box
level_box box (suc z) = halved (level_box box z)

-- the positions of a level that are averaged for a rectangle of the next level
abbrev pub below : Rectangle → Rectangle
below r = record {
  first_column = doubled r.first_column;
  first_row = doubled r.first_row;
  width = doubled (end_column r) - doubled r.first_column;
  height = doubled (end_row r) - doubled r.first_row;
}

-- the positions of an image that are averaged for a rectangle of its level z
abbrev pub source_of_level : Rectangle → ℕ → Rectangle
source_of_level r zero = r
source_of_level r (suc z) = source_of_level (below r) z

-- the tile of the next level for which a tile is averaged
abbrev pub tile_above : Tile → Tile
tile_above tile = record { column = tile.column / 2 + tile_origin / 2; row = tile.row / 2 + tile_origin / 2 }

-- the tile of level z for which a tile of level 0 is averaged
abbrev pub tile_at_level : Tile → ℕ → Tile
tile_at_level tile zero = tile
tile_at_level tile (suc z) = tile_above (tile_at_level tile z)
