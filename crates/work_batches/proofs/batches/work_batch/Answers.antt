use Rattle.std.proofs.Common.{ap, ◌∙◌, sym, length, subst, ◌≡◌, map, Some}
use Rattle.std.specs.List.{AllZip}
use Rattle.crossbeam_deque.specs.Handles.{worker_view}
use Rattle.work_batches.specs.Pool.{AllTaken, CanDo}
use Rattle.work_batches.specs.Placing.{HaveAnswers}
use Rattle.work_batches.specs.declared.pieces.Hand.{Hand}
use Rattle.work_batches.proofs.Rules.{begins, numbered_length}
use Rattle.work_batches.proofs.Places.{below, can_all, full, ok_more, placed}
use Rattle.work_batches.proofs.batches.work_batch.Goals as goal

pub fifo_as-requires : goal.fifo_as-requires
fifo_as-requires g c = begins

pub share_out-owner-requires-clause-callable : goal.share_out-owner-requires-clause-callable
share_out-owner-requires-clause-callable g c _ _ = subst (CanDo (goal.F-pre g c.args.work.now)) (sym (ap (λ (u : Hand _). u.pushed) c.in_ok-push_all.ensures.pushed)) (can_all (goal.F-pre g c.args.work.now) c.args.pieces.items c.requires.callable)

pub drain-requires-clause-callable : goal.drain-requires-clause-callable
drain-requires-clause-callable g c = subst (CanDo (goal.F-pre g c.args.work.now))
    (sym (ap (λ (u : Hand _). u.pushed) c.share_out-owner.ensures.view ∙ ap (λ (u : Hand _). u.pushed) c.in_ok-push_all.ensures.pushed))
    (can_all (goal.F-pre g c.args.work.now) c.args.pieces.items c.requires.callable)

pub drain-requires-clause-count : goal.drain-requires-clause-count
drain-requires-clause-count g c =
    ap (λ (u : Hand _). length u.pushed) c.share_out-owner.ensures.view
    ∙ (ap (λ (u : Hand _). length u.pushed) c.in_ok-push_all.ensures.pushed
    ∙ (numbered_length 0 c.args.pieces.items ∙ sym (c.len-count.ensures ∙ c.args.pieces.ok.0)))

pub slots_of-requires : goal.slots_of-requires
slots_of-requires g c =
    let count = ap (λ (u : Hand _). length u.pushed) c.share_out-owner.ensures.view
    ∙ (ap (λ (u : Hand _). length u.pushed) c.in_ok-push_all.ensures.pushed
    ∙ (numbered_length 0 c.args.pieces.items ∙ sym (c.len-count.ensures ∙ c.args.pieces.ok.0))) in
    below (goal.F-post g c.args.work.now) (worker_view c.share_out-owner.result.0).pushed c.len-count.result (worker_view c.drain.new.owner).taken c.drain.new.done.items count c.in_ok-drain.ensures.answers c.in_ok-drain.ensures.all.are

pub values_of-requires : goal.values_of-requires
values_of-requires g c =
    let pushed_is = ap (λ (u : Hand _). u.pushed) c.share_out-owner.ensures.view ∙ ap (λ (u : Hand _). u.pushed) c.in_ok-push_all.ensures.pushed in
    let all = subst (λ ps. AllTaken ps (worker_view c.drain.new.owner).taken) pushed_is c.in_ok-drain.ensures.all in
    let have = subst (λ n. HaveAnswers n c.in_ok-slots.slots.items c.drain.new.done.items) (c.len-count.ensures ∙ c.args.pieces.ok.0) c.in_ok-slots.ensures in
    full (goal.F-post g c.args.work.now) c.args.pieces.items (worker_view c.drain.new.owner).taken c.drain.new.done.items c.in_ok-slots.slots.items all c.in_ok-drain.ensures.answers have

pub returns : goal.returns
returns g c =
    let pushed_is = ap (λ (u : Hand _). u.pushed) c.share_out-owner.ensures.view ∙ ap (λ (u : Hand _). u.pushed) c.in_ok-push_all.ensures.pushed in
    let all = subst (λ ps. AllTaken ps (worker_view c.drain.new.owner).taken) pushed_is c.in_ok-drain.ensures.all in
    let have = subst (λ n. HaveAnswers n c.in_ok-slots.slots.items c.drain.new.done.items) (c.len-count.ensures ∙ c.args.pieces.ok.0) c.in_ok-slots.ensures in
    ok_more c.values_of.result (λ values. map Some values.items ≡ c.in_ok-slots.slots.items) (λ made. AllZip (goal.F-post g c.args.work.now) c.args.pieces.items made.items)
    (λ values is. placed (goal.F-post g c.args.work.now) c.args.pieces.items (worker_view c.drain.new.owner).taken c.drain.new.done.items c.in_ok-slots.slots.items values.items all c.in_ok-drain.ensures.answers have is)
    c.values_of.ensures
