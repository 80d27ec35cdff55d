use Rattle.std.proofs.Common.{sym, ◌∙◌}
use Rattle.test_basics.proofs.tests.layouts.sub.Goals as goal

pub sub-requires-clause-carried_out : goal.sub-requires-clause-carried_out
sub-requires-clause-carried_out g c = sym (c.sub_refused.ensures c.args.rect) ∙ c.in-None.is
