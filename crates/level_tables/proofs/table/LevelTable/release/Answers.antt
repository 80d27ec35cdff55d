use Rattle.level_tables.specs.LevelTiles.{LevelTiles}
use Rattle.level_tables.proofs.Owning.{levels-left, levels-owned, put-owned, put-there, released-others}
use Rattle.level_tables.proofs.table.LevelTable.release.Goals as goal

pub disown_each-requires-clause-owned : goal.disown_each-requires-clause-owned
disown_each-requires-clause-owned g c =
    let held = g.C.ChainMeaning.held c.args.chain.now in
    let tiles : LevelTiles = record { format = c.self.inside.format; put = c.self.inside.put.entries; levels = c.self.inside.levels.entries } in
    put-owned tiles held (rw (← c.self.view_is) at c.requires)

pub disown_each-requires-clause-there : goal.disown_each-requires-clause-there
disown_each-requires-clause-there g c =
    let held = g.C.ChainMeaning.held c.args.chain.now in
    let tiles : LevelTiles = record { format = c.self.inside.format; put = c.self.inside.put.entries; levels = c.self.inside.levels.entries } in
    put-there tiles held (rw (← c.self.view_is) at c.requires)

pub disown_each-requires-2-clause-owned : goal.disown_each-requires-2-clause-owned
disown_each-requires-2-clause-owned g c =
    let held = g.C.ChainMeaning.held c.args.chain.now in
    let tiles : LevelTiles = record { format = c.self.inside.format; put = c.self.inside.put.entries; levels = c.self.inside.levels.entries } in
    levels-owned tiles held (rw (← c.self.view_is) at c.requires) (g.C.ChainMeaning.held c.disown_each.new.chain) c.disown_each.ensures.others

pub disown_each-requires-2-clause-there : goal.disown_each-requires-2-clause-there
disown_each-requires-2-clause-there g c =
    let held = g.C.ChainMeaning.held c.args.chain.now in
    let tiles : LevelTiles = record { format = c.self.inside.format; put = c.self.inside.put.entries; levels = c.self.inside.levels.entries } in
    levels-left tiles held (rw (← c.self.view_is) at c.requires) (g.C.ChainMeaning.held c.disown_each.new.chain) c.disown_each.ensures.others

pub returns-clause-others : goal.returns-clause-others
returns-clause-others g c =
    let held = g.C.ChainMeaning.held c.args.chain.now in
    let tiles : LevelTiles = record { format = c.self.inside.format; put = c.self.inside.put.entries; levels = c.self.inside.levels.entries } in
    rw (← c.self.view_is)
    (released-others tiles held (rw (← c.self.view_is) at c.requires) (g.C.ChainMeaning.held c.disown_each.new.chain) c.disown_each.ensures.others
    (g.C.ChainMeaning.held c.disown_each-2.new.chain) c.disown_each-2.ensures.others)
