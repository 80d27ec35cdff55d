use Rattle.std.proofs.Common.{◌∙◌}
use Rattle.level_tables.specs.LevelTiles.{LevelTiles}
use Rattle.level_tables.proofs.Owning.{levels-there, put-there, shared-others, shared-over, shared-owns}
use Rattle.level_tables.proofs.table.LevelTable.own.Goals as goal

pub own_each-requires : goal.own_each-requires
own_each-requires g c =
    let held = g.C.ChainMeaning.held c.args.chain.now in
    let tiles : LevelTiles = record { format = c.self.inside.format; put = c.self.inside.put.entries; levels = c.self.inside.levels.entries } in
    put-there tiles held (rw (← c.self.view_is) at c.requires)

pub own_each-requires-2 : goal.own_each-requires-2
own_each-requires-2 g c =
    let held = g.C.ChainMeaning.held c.args.chain.now in
    let tiles : LevelTiles = record { format = c.self.inside.format; put = c.self.inside.put.entries; levels = c.self.inside.levels.entries } in
    rw c.own_each.ensures.lengths (levels-there tiles held (rw (← c.self.view_is) at c.requires))

pub returns-clause-over : goal.returns-clause-over
returns-clause-over g c =
    let held = g.C.ChainMeaning.held c.args.chain.now in
    let tiles : LevelTiles = record { format = c.self.inside.format; put = c.self.inside.put.entries; levels = c.self.inside.levels.entries } in
    rw (← c.self.view_is)
    (shared-over tiles held (rw (← c.self.view_is) at c.requires) (g.C.ChainMeaning.held c.own_each.new.chain) (g.C.ChainMeaning.held c.own_each-2.new.chain)
    c.own_each.ensures.others c.own_each-2.ensures.others
    (c.own_each-2.ensures.lengths ∙ c.own_each.ensures.lengths) (c.own_each-2.ensures.content ∙ c.own_each.ensures.content))

pub returns-clause-owned : goal.returns-clause-owned
returns-clause-owned g c =
    let held = g.C.ChainMeaning.held c.args.chain.now in
    let tiles : LevelTiles = record { format = c.self.inside.format; put = c.self.inside.put.entries; levels = c.self.inside.levels.entries } in
    rw (← c.self.view_is)
    (shared-owns tiles held (rw (← c.self.view_is) at c.requires) (g.C.ChainMeaning.held c.own_each.new.chain) (g.C.ChainMeaning.held c.own_each-2.new.chain)
    c.own_each.ensures.others c.own_each-2.ensures.others)

pub returns-clause-others : goal.returns-clause-others
returns-clause-others g c =
    let held = g.C.ChainMeaning.held c.args.chain.now in
    let tiles : LevelTiles = record { format = c.self.inside.format; put = c.self.inside.put.entries; levels = c.self.inside.levels.entries } in
    rw (← c.self.view_is)
    (shared-others tiles held (rw (← c.self.view_is) at c.requires) (g.C.ChainMeaning.held c.own_each.new.chain) (g.C.ChainMeaning.held c.own_each-2.new.chain)
    c.own_each.ensures.others c.own_each-2.ensures.others)
