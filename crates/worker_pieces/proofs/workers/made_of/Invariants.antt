use Rattle.std.proofs.Common.{◌≡◌, map, Ok}
use Rattle.worker_pieces.proofs.workers.made_of.Given as goal

-- the answers so far are what was made
abbrev pub invariant-loop-answer : goal.invariant-loop-answer
invariant-loop-answer g l = map Ok l.made.items ≡ l.yielded
