use Rattle.std.proofs.Common.{◌<◌, subst, sym}
use Rattle.work_batches.proofs.Rules.{takes}
use Rattle.work_batches.specs.declared.pieces.Hand.{Hand}
use Rattle.work_batches.proofs.takers.try_often.Goals as goal

pub steal_as-requires-clause-takes : goal.steal_as-requires-clause-takes
steal_as-requires-clause-takes g c = takes _ _ (subst (λ (v : Hand _). 0 < v.parts) (sym c.loop.invariant.1) c.requires.pass.1)
