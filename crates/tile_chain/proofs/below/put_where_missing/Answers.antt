use Rattle.std.proofs.Common.{sym, ◌∙◌}
use Rattle.tile_chain.proofs.below.put_where_missing.Goals as goal

pub returns-then-has-clause-put : goal.returns-then-has-clause-put
returns-then-has-clause-put g c = sym (c.requires (sym c.has.ensures ∙ c.if-has.true))
