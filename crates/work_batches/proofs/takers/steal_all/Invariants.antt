use Rattle.std.proofs.Common.{◌≡◌}
use Rattle.crossbeam_deque.specs.Handles.{view, IsPassOf, stealer_deque}
use Rattle.work_batches.specs.Pool.{hand, Answers}
use Rattle.work_batches.proofs.takers.steal_all.Given as goal

abbrev pub invariant-loop : goal.invariant-loop
invariant-loop g l = record {
  pass : IsPassOf (stealer_deque l.thief) l.pass;
  seen : view l.pass ≡ hand 1 (view l.initial.pass).pushed (view l.pass).taken;
  answers : Answers (goal.F-post g l.work) (view l.pass).taken l.done.items;
}
