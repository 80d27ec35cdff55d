use Rattle.op_contracts.proofs.Limits.{InLimits-in_tile}
use Rattle.op_contracts.proofs.laws.parts_are_in_limits.Goals as goal

pub returns : goal.returns
returns c = λ part is one. InLimits-in_tile part one.0 is one.1
