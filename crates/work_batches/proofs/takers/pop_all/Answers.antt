use Rattle.std.proofs.Common.{ap, ◌∙◌, sym, add-zero}
use Rattle.work_batches.proofs.Rules.{answers_next, can, taken_more, takes, learns}
use Rattle.work_batches.specs.declared.pieces.Hand.{Hand}
use Rattle.work_batches.proofs.takers.pop_all.Goals as goal

pub pop_as-requires-clause-fifo : goal.pop_as-requires-clause-fifo
pop_as-requires-clause-fifo g c _ = takes _ _ (rw (ap (λ (v : Hand _). v.parts) c.loop.invariant.seen) c.requires.view.1)

pub pop_as-requires-clause-empty : goal.pop_as-requires-clause-empty
pop_as-requires-clause-empty g c views h at whole = sym (add-zero _) ∙ (learns _ _ whole _ views h at).0

pub answer-requires : goal.answer-requires
answer-requires g c = can (goal.F-pre g c.args.work.now) _ _ _ _ _ c.loop.invariant.seen c.requires.callable c.in-Some.ensures.rule.1.0

pub loop-preserved : goal.loop-preserved
loop-preserved g c =
    let more = taken_more _ _ _ _ _ c.loop.invariant.seen c.in-Some.ensures.rule.0 in record {
      same = (c.pop_as.ensures.same.0.0 ∙ c.loop.invariant.same.0, c.pop_as.ensures.same.0.1 ∙ c.loop.invariant.same.1);
      seen = more.0;
      answers = answers_next _ _ _ _ _ _ _ _ c.loop.invariant.answers more.1 c.push_reserved.ensures.items c.reserve.ensures.items c.answer.ensures.number c.answer.ensures.value;
    }
