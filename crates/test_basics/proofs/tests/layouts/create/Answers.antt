use Rattle.std.proofs.Common.{sym, ◌∙◌}
use Rattle.test_basics.proofs.tests.layouts.create.Goals as goal

pub create-requires-clause-carried_out : goal.create-requires-clause-carried_out
create-requires-clause-carried_out g c = sym (c.create_refused.ensures c.args.format c.args.extent) ∙ c.in-None.is
