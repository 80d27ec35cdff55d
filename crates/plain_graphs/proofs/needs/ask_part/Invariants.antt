use Rattle.std.proofs.Common.{◌≡◌, ◌++◌, ℕ, map, drop}
use Rattle.std.specs.List.{enumerate_from}
use Rattle.model_operations.specs.Regions.{required}
use Rattle.plain_graphs.specs.Needs.{asked_within}
use Rattle.plain_graphs.proofs.needs.ask_part.Given as goal

abbrev pub invariant-loop-input : goal.invariant-loop-input
invariant-loop-input l =
    l.asked.items
    ++ map (λ (input : ℕ × ℕ). (input.1, required l.op l.boxes input.0 l.part)) (enumerate_from l.input (drop l.input l.indices))
    ≡ l.initial.asked.items ++ asked_within l.op l.boxes l.indices l.part
