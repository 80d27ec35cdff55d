use Rattle.std.proofs.Common.{Ok}
use Rattle.std.specs.List.{AllZip}
use Rattle.worker_pieces.proofs.workers.in_turn.Given as goal

-- what the jobs so far made
abbrev pub invariant-loop-next : goal.invariant-loop-next
invariant-loop-next g l = AllZip (λ x y. g.F.Fn.post l.job (x, tt) (Ok y)) l.yielded l.made.items
