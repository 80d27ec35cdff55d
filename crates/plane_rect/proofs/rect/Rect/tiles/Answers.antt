use Rattle.plane_rect.specs.Rectangle.{end_column, end_row}
use Rattle.plane_rect.specs.Tile.{tile_of, tile_end}
use Rattle.plane_rect.proofs.TileLists.{tiles-meeting, tiles-in_order, tiles_left-all, tiles-whole, length-tiles, tiles-few}
use Rattle.plane_rect.proofs.rect.Rect.tiles.Goals as goal

pub returns-clause-value : goal.returns-clause-value
returns-clause-value c =
    let r = c.args.self.now in
    rw (c.div_ceil.ensures, c.div_ceil-2.ensures, c.first_column-first_tile_column.ensures.value, c.end_column.ensures.value, c.first_row.ensures.value, c.end_row.ensures.value)
    (tiles_left-all (tile_of r.first_column) (tile_end (end_column r)) (tile_of r.first_row) (tile_end (end_row r)))

pub returns-clause-meeting : goal.returns-clause-meeting
returns-clause-meeting c t = rw (returns-clause-value c) (tiles-meeting c.args.self.now c.end_column.ensures.rectangle t)

pub returns-clause-in_order : goal.returns-clause-in_order
returns-clause-in_order c = rw (returns-clause-value c) (tiles-in_order c.args.self.now)

pub returns-clause-whole : goal.returns-clause-whole
returns-clause-whole c = rw (returns-clause-value c) (tiles-whole c.args.self.now c.end_column.ensures.rectangle)

pub returns-clause-count : goal.returns-clause-count
returns-clause-count c = rw (returns-clause-value c) (length-tiles c.args.self.now)

pub returns-clause-few : goal.returns-clause-few
returns-clause-few c = rw (returns-clause-value c) (tiles-few c.args.self.now c.end_column.ensures.rectangle)
