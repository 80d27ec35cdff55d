use Rattle.std.proofs.Common.{◌∷◌, ◌∙◌}
use Rattle.chain_owners.specs.Owners.{Respects}
use Rattle.chain_owners.proofs.Ownership.{respects-both}
use Rattle.level_tables.specs.LevelTiles.{names}
use Rattle.level_tables.specs.Steps.{state}
use Rattle.level_tables.proofs.Fresh.{fresh-image, fresh-named, fresh-over, fresh-owns, fresh-beside, switched-image}
use Rattle.level_tables.proofs.table.LevelTable.put.Goals as goal

pub switch_one-requires-clause-over : goal.switch_one-requires-clause-over
switch_one-requires-clause-over g c =
    let held = g.C.ChainMeaning.held c.args.chain.now in
    rw (c.reserve.ensures.tiles, c.in_ok-name.ensures.named)
    (fresh-over held c.in_ok-name.name c.args.tile c.in_ok-name.ensures.unowned c.args.self.now.tiles c.requires.over)

pub switch_one-requires-clause-owned : goal.switch_one-requires-clause-owned
switch_one-requires-clause-owned g c =
    let held = g.C.ChainMeaning.held c.args.chain.now in
    rw (c.reserve.ensures.tiles, c.in_ok-name.ensures.named)
    (fresh-owns held c.in_ok-name.name c.args.tile c.in_ok-name.ensures.unowned (names c.args.self.now.tiles) c.requires.over.owned)

pub switch_one-requires-clause-named : goal.switch_one-requires-clause-named
switch_one-requires-clause-named g c =
    let held = g.C.ChainMeaning.held c.args.chain.now in
    rw (c.reserve.ensures.tiles, c.in_ok-name.ensures.named)
    (fresh-named held c.in_ok-name.name c.args.tile c.in_ok-name.ensures.unowned c.args.self.now.tiles.format c.requires.length c.bytes_of.ensures.small)

pub returns-clause-image : goal.returns-clause-image
returns-clause-image g c =
    let held = g.C.ChainMeaning.held c.args.chain.now in
    let mid = state c.reserve.new.self.tiles (g.C.ChainMeaning.held c.new_name.new.self) (g.C.ChainMeaning.counts c.new_name.new.self) in
    let new = state c.switch_one.new.self.tiles (g.C.ChainMeaning.held c.switch_one.new.chain) (g.C.ChainMeaning.counts c.switch_one.new.chain) in
    switched-image c.args.at c.in_ok-name.name mid new c.switch_one.ensures.switched
    ∙ rw (c.reserve.ensures.tiles, c.in_ok-name.ensures.named)
    (fresh-image held c.in_ok-name.name c.args.tile c.in_ok-name.ensures.unowned c.args.self.now.tiles c.args.at c.requires.over)

pub returns-clause-others : goal.returns-clause-others
returns-clause-others g c =
    let old = c.args.self.now.tiles in
    let held = g.C.ChainMeaning.held c.args.chain.now in
    let mid = g.C.ChainMeaning.held c.new_name.new.self in
    let fresh : Respects held mid (names old) (c.in_ok-name.name ∷ names old) =
    rw c.in_ok-name.ensures.named
    (fresh-beside held c.in_ok-name.name c.args.tile c.in_ok-name.ensures.unowned (names old)) in
    respects-both held mid (names old) (c.in_ok-name.name ∷ names old) fresh (g.C.ChainMeaning.held c.switch_one.new.chain) (names c.switch_one.new.self.tiles)
    (rw c.reserve.ensures.tiles at c.switch_one.ensures.switched.others)
