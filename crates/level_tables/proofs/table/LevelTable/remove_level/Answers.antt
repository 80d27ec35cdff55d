use Rattle.level_tables.specs.LevelTiles.{same_level_tile}
use Rattle.level_tables.proofs.Entries.{removed, same_level_tile-true}
use Rattle.level_tables.proofs.table.LevelTable.remove_level.Goals as goal

pub returns-clause-removed : goal.returns-clause-removed
returns-clause-removed c = rw (← c.self.view_is)
    (
    removed same_level_tile same_level_tile-true c.self.inside.levels.entries c.swap_remove.new.self.entries c.args.at
    c.swap_remove.result c.swap_remove.ensures.value c.swap_remove.ensures.entries)
