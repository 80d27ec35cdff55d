use Rattle.std.proofs.Common.{◌≡◌, ◌-◌, vec_len}
use Rattle.crossbeam_deque.specs.Handles.{worker_view, worker_flavor}
use Rattle.work_batches.specs.Pool.{hand, Answers}
use Rattle.work_batches.proofs.takers.drain.Given as goal

abbrev pub invariant-loop-done : goal.invariant-loop-done
invariant-loop-done g l = record {
  flavor : worker_flavor l.owner ≡ 0;
  seen : worker_view l.owner ≡ hand 1024 (worker_view l.fn.owner).pushed (worker_view l.owner).taken;
  answers : Answers (goal.F-post g l.work) (worker_view l.owner).taken l.done.items;
}

abbrev pub decreases-loop-done : goal.decreases-loop-done
decreases-loop-done g l = l.count - vec_len l.done
