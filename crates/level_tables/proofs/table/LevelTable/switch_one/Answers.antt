use Rattle.std.proofs.Common.{sym, subst, ◌∙◌}
use Rattle.level_tables.specs.LevelTiles.{LevelTiles}
use Rattle.level_tables.specs.Steps.{Switches, state}
use Rattle.level_tables.proofs.Switching.{gone-there, put-again, put-fresh}
use Rattle.level_tables.proofs.table.LevelTable.switch_one.Goals as goal

pub disown-requires : goal.disown-requires
disown-requires g c =
    let old = state c.args.self.now.tiles (g.C.ChainMeaning.held c.args.chain.now) (g.C.ChainMeaning.counts c.args.chain.now) in
    let mid = state c.void_above.new.self.tiles (g.C.ChainMeaning.held c.void_above.new.chain) (g.C.ChainMeaning.counts c.void_above.new.chain) in
    gone-there c.args.at c.args.name old mid c.void_above.ensures.voided c.requires.owned c.requires.named c.requires.whole c.in-Some.old (sym c.in-Some.ensures.old)

pub returns-in-Some-clause-switched : goal.returns-in-Some-clause-switched
returns-in-Some-clause-switched g c =
    let old = state c.args.self.now.tiles (g.C.ChainMeaning.held c.args.chain.now) (g.C.ChainMeaning.counts c.args.chain.now) in
    let mid = state c.void_above.new.self.tiles (g.C.ChainMeaning.held c.void_above.new.chain) (g.C.ChainMeaning.counts c.void_above.new.chain) in
    let held = g.C.ChainMeaning.held c.disown.new.self in
    let counts = g.C.ChainMeaning.counts c.disown.new.self in
    let P : LevelTiles → Type 0 = λ t. Switches c.args.at c.args.name old (state t held counts) in
    subst P (sym c.replace.ensures.put)
    (put-again c.args.at c.args.name old mid c.void_above.ensures.voided c.requires.owned c.requires.named c.requires.whole c.in-Some.old (sym c.in-Some.ensures.old)
    held counts c.disown.ensures.held c.disown.ensures.counts)

pub returns-in_default-clause-switched : goal.returns-in_default-clause-switched
returns-in_default-clause-switched g c =
    let old = state c.args.self.now.tiles (g.C.ChainMeaning.held c.args.chain.now) (g.C.ChainMeaning.counts c.args.chain.now) in
    let mid = state c.void_above.new.self.tiles (g.C.ChainMeaning.held c.void_above.new.chain) (g.C.ChainMeaning.counts c.void_above.new.chain) in
    let P : LevelTiles → Type 0 = λ t. Switches c.args.at c.args.name old (state t mid.held mid.counts) in
    subst P (sym c.replace.ensures.put)
    (put-fresh c.args.at c.args.name old mid c.void_above.ensures.voided c.requires.owned c.requires.named c.requires.whole mid.counts
    (sym c.replace.ensures.old ∙ c.in_default.is))
