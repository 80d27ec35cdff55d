use Rattle.std.proofs.Common.{◌≡◌, max, drop}
use Rattle.swap_store.specs.Run.{longest}
use Rattle.swap_store.proofs.runs.longest_run.Given as goal

abbrev pub invariant-loop-run : goal.invariant-loop-run
invariant-loop-run l = max l.most (longest (drop l.run-index l.runs)) ≡ longest l.runs
