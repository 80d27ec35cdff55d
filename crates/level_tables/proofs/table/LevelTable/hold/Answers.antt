use Rattle.std.proofs.Common.{ℕ, List, ap, ◌∙◌}
use Rattle.indexmap.proofs.CallerLemmas.{insert_entry-new}
use Rattle.level_tables.specs.LevelTiles.{same_level_tile}
use Rattle.level_tables.specs.declared.level_tile.LevelTile.{LevelTile}
use Rattle.level_tables.proofs.Entries.{taken}
use Rattle.level_tables.proofs.table.LevelTable.hold.Goals as goal

pub returns-clause-held : goal.returns-clause-held
returns-clause-held c =
    let room = rw (← c.self.view_is) at c.requires.room in
    let absent = rw (← c.self.view_is) at c.requires.absent in
    let entries = taken c.insert.result (c.insert.ensures.succeeds room) c.insert.ensures.entries in
    rw (← c.self.view_is)
    (ap (λ (levels : List (LevelTile × ℕ)). record { format = c.self.inside.format; put = c.self.inside.put.entries; levels = levels })
    (entries ∙ insert_entry-new same_level_tile c.self.inside.levels c.args.at c.args.name absent))
