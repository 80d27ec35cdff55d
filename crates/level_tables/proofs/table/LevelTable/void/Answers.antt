use Rattle.std.proofs.Common.{◌≡◌, ap, sym, subst, ◌∙◌}
use Rattle.std.specs.Map.{lookup}
use Rattle.level_tables.specs.LevelTiles.{LevelTiles, same_level_tile}
use Rattle.level_tables.specs.Steps.{VoidsOne, state}
use Rattle.level_tables.proofs.Keeping.{there-named, void-none, void-one}
use Rattle.level_tables.proofs.table.LevelTable.void.Goals as goal

pub disown-requires : goal.disown-requires
disown-requires g c =
    there-named c.args.self.now.tiles (g.C.ChainMeaning.held c.args.chain.now) c.args.at c.in-Some.name c.remove_level.new.self.tiles.levels
    c.in-Some.ensures.removed c.requires

pub returns-in-Some-clause-voided : goal.returns-in-Some-clause-voided
returns-in-Some-clause-voided g c =
    let old = c.args.self.now.tiles in
    let held = g.C.ChainMeaning.held c.args.chain.now in
    let held' = g.C.ChainMeaning.held c.disown.new.self in
    let counts = g.C.ChainMeaning.counts c.args.chain.now in
    let counts' = g.C.ChainMeaning.counts c.disown.new.self in
    let P : LevelTiles → Type 0 = λ t. VoidsOne c.args.at (state old held counts) (state t held' counts') in
    subst P (sym c.remove_level.ensures.others)
    (void-one old held held' counts counts' c.args.at c.in-Some.name c.remove_level.new.self.tiles.levels
    c.requires c.in-Some.ensures.removed c.remove_level.ensures.gone c.remove_level.ensures.once c.disown.ensures.held c.disown.ensures.counts)

pub returns-in_default-clause-voided : goal.returns-in_default-clause-voided
returns-in_default-clause-voided g c =
    let old = c.args.self.now.tiles in
    let held = g.C.ChainMeaning.held c.args.chain.now in
    let counts = g.C.ChainMeaning.counts c.args.chain.now in
    let same : c.remove_level.new.self.tiles ≡ old = rw c.in_default.is at c.remove_level.ensures.unchanged in
    let P : LevelTiles → Type 0 = λ t. VoidsOne c.args.at (state old held counts) (state t held counts) in
    subst P (sym same)
    (void-none old held counts c.args.at c.requires
    (ap (λ (t : LevelTiles). lookup (same_level_tile c.args.at) t.levels) (sym same) ∙ c.remove_level.ensures.gone))
