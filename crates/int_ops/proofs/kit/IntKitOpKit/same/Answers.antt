use Rattle.std.proofs.Common.{◌∙◌}
use Rattle.model_operations.proofs.Equality.{eq-operation}
use Rattle.int_ops.proofs.kit.IntKitOpKit.same.Goals as goal

pub returns : goal.returns
returns c = c.eq.ensures ∙ eq-operation c.args.a.now c.args.b.now
