use Rattle.std.proofs.Common.{arith}
use Rattle.work_batches.proofs.Rules.{forks}
use Rattle.work_batches.proofs.sharing.+share.Goals as goal

pub another-pass-requires : goal.another-pass-requires
another-pass-requires g t c = forks _ _ (omega (arith, c.requires.parts, c.if-thieves-eq0.false))
