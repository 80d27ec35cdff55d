-- How many tiles images and their levels have.
use Rattle.std.specs.Prelude.{ℕ, zero, suc, ◌+◌, length}
use Rattle.plane_rect.specs.Rectangle.{Rectangle}
use Rattle.plane_rect.specs.Tile.{tiles}
use Rattle.model_images.specs.Level.{level_box}

-- how many tiles meet a rectangle
abbrev pub tile_count : Rectangle → ℕ
tile_count rectangle = length (tiles rectangle)

-- How many tiles of levels 1 to z meet the boxes of these levels of an image over this box: as many may be made for a
-- read of level z.
abbrev pub level_tiles : Rectangle → ℕ → ℕ
level_tiles box zero = 0
level_tiles box (suc z) = level_tiles box z + tile_count (level_box box (suc z))

-- How many names a chain has at most after a read of a level of a root over this box, where it had so many.
abbrev pub names_after_read : ℕ → Rectangle → ℕ → ℕ
names_after_read names box level = names + level_tiles box level
