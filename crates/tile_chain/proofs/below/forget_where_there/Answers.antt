use Rattle.std.proofs.Common.{sym, ◌∙◌}
use Rattle.tile_chain.proofs.Moves.{is-none}
use Rattle.tile_chain.proofs.Tiles.{out-absent}
use Rattle.tile_chain.proofs.below.forget_where_there.Goals as goal

pub returns-else-has-clause-held : goal.returns-else-has-clause-held
returns-else-has-clause-held g c =
    sym (out-absent (g.H.ChainMeaning.held c.args.below.now) c.args.name (g.H.ChainMeaning.same_names c.args.below.now)
    (is-none _ (sym c.has.ensures ∙ c.if-has.false)))
