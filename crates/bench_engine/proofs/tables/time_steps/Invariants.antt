use Rattle.std.proofs.Common.{◌≡◌, length}
use Rattle.tile_cow.specs.Tile.{IsTileLength}
use Rattle.level_tables.specs.Over.{IsOver, tile_length}
use Rattle.bench_engine.proofs.tables.time_steps.Given as goal

abbrev pub invariant-loop-name : goal.invariant-loop-name
invariant-loop-name g l =
    IsOver l.work.table.tiles (g.C.ChainMeaning.held l.work.chain)
    × (length l.work.bytes.items ≡ tile_length l.work.table.tiles.format)
    × IsTileLength (length l.work.bytes.items)
