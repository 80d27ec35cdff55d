use Rattle.std.proofs.Common.{◌^◌}
use Rattle.swap_store.proofs.RunLists.{IsRunList-below}
use Rattle.swap_store.proofs.laws.free_runs_are_used.Goals as goal

pub returns : goal.returns
returns c = λ placement laws. IsRunList-below 0 (2 ^ 20) placement.used placement.free laws.runs (λ b h. ((laws.exact b).0 h).0)
