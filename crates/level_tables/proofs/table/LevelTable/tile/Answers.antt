use Rattle.std.proofs.Common.{ℕ, replicate, ap, ◌∙◌}
use Rattle.std.proofs.lemmas.Result.{err_from_is_err_and}
use Rattle.level_tables.specs.Over.{tile_length}
use Rattle.level_tables.specs.Steps.{state}
use Rattle.level_tables.proofs.Finding.{zero-exact}
use Rattle.level_tables.proofs.Keeping.{kept-format, kept-image}
use Rattle.level_tables.proofs.table.LevelTable.tile.Goals as goal

pub returns-clause-bytes : goal.returns-clause-bytes
returns-clause-bytes g c =
    let old = state c.args.self.now.tiles (g.C.ChainMeaning.held c.args.chain.now) (g.C.ChainMeaning.counts c.args.chain.now) in
    let now = state c.find.new.self.tiles (g.C.ChainMeaning.held c.find.new.chain) (g.C.ChainMeaning.counts c.find.new.chain) in
    zero-exact old.tiles old.held c.args.level c.args.at c.in_ok-zero-in-None.field-0
    (rw c.in-None.is at c.in_ok-tile.ensures.finds.found)
    (c.in_ok-zero-in-None.ensures.zero
    ∙ ap (λ (n : ℕ). replicate n 0) (c.tile_len.ensures.value ∙ ap tile_length (kept-format old now c.find.ensures.finds.more.kept)))

pub returns-in_err-tile-clause-causes : goal.returns-in_err-tile-clause-causes
returns-in_err-tile-clause-causes g c = λ top low.
    let p = err_from_is_err_and c.from_residual.result c.from_residual.ensures.1 in
    rw (p.1, p.2) (c.in_err-tile.ensures.finds.cause top low)

pub returns-in-Some-clause-image : goal.returns-in-Some-clause-image
returns-in-Some-clause-image g c =
    let old = state c.args.self.now.tiles (g.C.ChainMeaning.held c.args.chain.now) (g.C.ChainMeaning.counts c.args.chain.now) in
    let now = state c.find.new.self.tiles (g.C.ChainMeaning.held c.find.new.chain) (g.C.ChainMeaning.counts c.find.new.chain) in
    kept-image old now c.find.ensures.finds.more.kept
