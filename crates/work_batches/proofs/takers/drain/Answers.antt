use Rattle.std.proofs.Common.{◌∙◌, sym, add-zero}
use Rattle.work_batches.proofs.Rules.{answers_next, answers_length, can, taken_more, takes, has_part, learns, all_taken, not_all}
use Rattle.work_batches.proofs.takers.drain.Goals as goal

pub pop_as-requires-clause-fifo : goal.pop_as-requires-clause-fifo
pop_as-requires-clause-fifo g c _ = takes _ _ (has_part _ _ _ _ c.loop-done.invariant.seen)

pub pop_as-requires-clause-empty : goal.pop_as-requires-clause-empty
pop_as-requires-clause-empty g c views h at whole = sym (add-zero _) ∙ (learns _ _ whole _ views h at).0

pub answer-requires : goal.answer-requires
answer-requires g c = can (goal.F-pre g c.args.work.now) _ _ _ _ _ c.loop-done.invariant.seen c.requires.callable c.in-Some.ensures.rule.1.0

pub loop-done-preserved : goal.loop-done-preserved
loop-done-preserved g c =
    let more = taken_more _ _ _ _ _ c.loop-done.invariant.seen c.in-Some.ensures.rule.0 in record {
      flavor = c.pop_as.ensures.same.0.1 ∙ c.loop-done.invariant.flavor;
      seen = more.0;
      answers = answers_next _ _ _ _ _ _ _ _ c.loop-done.invariant.answers more.1 c.push_reserved.ensures.items c.reserve.ensures.items c.answer.ensures.number c.answer.ensures.value;
    }

pub unreachable-requires : goal.unreachable-requires
unreachable-requires g c = not_all _ _ _ _ c.loop-done.invariant.seen c.requires.count c.loop-done-test.true (c.len.ensures ∙ (c.loop-done.done.ok.0 ∙ answers_length _ _ _ c.loop-done.invariant.answers)) c.in-None.ensures.rule.1

pub len_as-requires : goal.len_as-requires
len_as-requires g c items views h at whole = learns _ _ whole items views h at

pub returns-clause-all : goal.returns-clause-all
returns-clause-all g c = let r = c.len_as.ensures.rule in
    all_taken _ _ _ r.0 _ _ c.loop-done.invariant.seen c.len_as.ensures.same.2 c.requires.count c.loop-done-test.false (c.len.ensures ∙ (c.loop-done.done.ok.0 ∙ answers_length _ _ _ c.loop-done.invariant.answers)) r.2
