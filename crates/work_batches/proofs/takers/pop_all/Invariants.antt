use Rattle.std.proofs.Common.{◌≡◌}
use Rattle.crossbeam_deque.specs.Handles.{worker_view, worker_deque, worker_flavor}
use Rattle.work_batches.specs.Pool.{hand, Answers}
use Rattle.work_batches.proofs.takers.pop_all.Given as goal

abbrev pub invariant-loop : goal.invariant-loop
invariant-loop g l = record {
  same : (worker_deque l.owner ≡ worker_deque l.initial.owner) × (worker_flavor l.owner ≡ 0);
  seen : worker_view l.owner ≡ hand (worker_view l.initial.owner).parts (worker_view l.initial.owner).pushed (worker_view l.owner).taken;
  answers : Answers (goal.F-post g l.work) (worker_view l.owner).taken l.done.items;
}
