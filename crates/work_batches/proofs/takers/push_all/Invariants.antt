use Rattle.std.proofs.Common.{◌≡◌, [], length}
use Rattle.crossbeam_deque.specs.Handles.{worker_view, worker_deque, worker_flavor}
use Rattle.work_batches.specs.Pool.{hand, numbered}
use Rattle.work_batches.proofs.takers.push_all.Given as goal

abbrev pub invariant-loop-value : goal.invariant-loop-value
invariant-loop-value g l =
    (goal.iterator-loop-value g).can_next l.value-iterator ×
    (goal.iterator-loop-value g).is_finite l.value-iterator ×
    (worker_view l.owner ≡ hand 1024 (numbered 0 l.yielded) []) ×
    (l.number ≡ length l.yielded) ×
    (worker_deque l.owner ≡ worker_deque l.fn.owner) × (worker_flavor l.owner ≡ worker_flavor l.fn.owner)
