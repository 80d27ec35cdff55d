use Rattle.std.proofs.Common.{ap, ◌∙◌, arith, length-append, ◌∷◌, []}
use Rattle.work_batches.specs.declared.pieces.Hand.{Hand}
use Rattle.work_batches.proofs.Rules.{pushes, pushed_more, pushed_length}
use Rattle.work_batches.proofs.takers.push_all.Goals as goal

pub push_as-requires-clause-pushes : goal.push_as-requires-clause-pushes
push_as-requires-clause-pushes g c = let i = c.loop-value.invariant in pushes _ _ _ (ap (λ (u : Hand _). u.parts) i.2) (pushed_length _ c.loop-value.yielded c.loop-value.number i.2 i.3)

pub loop-value-preserved : goal.loop-value-preserved
loop-value-preserved g c = let i = c.loop-value.invariant in let e = c.in_default.ensures in
    (tt, tt, pushed_more _ _ c.loop-value.yielded _ c.loop-value.number i.2 i.3 e.rule.0, omega (arith, i.3, length-append c.loop-value.yielded (c.in-Some.value ∷ [])), e.same.0 ∙ i.4, e.same.1 ∙ i.5)
