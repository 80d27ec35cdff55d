use Rattle.work_batches.proofs.Rules.{answers_next, can, taken_more}
use Rattle.work_batches.proofs.takers.steal_all.Goals as goal

pub answer-requires : goal.answer-requires
answer-requires g c = can (goal.F-pre g c.args.work.now) _ _ _ _ _ c.loop.invariant.seen c.requires.callable c.in-Some.ensures.pushed

pub loop-preserved : goal.loop-preserved
loop-preserved g c =
    let more = taken_more _ _ _ _ _ c.loop.invariant.seen c.in-Some.ensures.some in
    let i = c.push_reserved.ensures.items in
    let r = c.reserve.ensures.items in record {
      pass = c.in-Some.ensures.pass;
      seen = more.0;
      answers = answers_next _ _ _ _ _ _ _ _ c.loop.invariant.answers more.1 i r c.answer.ensures.number c.answer.ensures.value;
    }
