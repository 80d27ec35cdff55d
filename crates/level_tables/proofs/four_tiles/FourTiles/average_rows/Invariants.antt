use Rattle.level_tables.specs.Means.{HasMeans}
use Rattle.level_tables.proofs.four_tiles.FourTiles.average_rows.Given as goal

abbrev pub invariant-loop-row : goal.invariant-loop-row
invariant-loop-row l = HasMeans l.format l.self l.row l.bytes
