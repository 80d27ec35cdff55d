use Rattle.std.proofs.Common.{◌≡◌, ℕ, [], get_or, length}
use Rattle.roi_planner.proofs.asks.no_regions.Given as goal

abbrev pub invariant-loop : goal.invariant-loop
invariant-loop l =
    record {
      count : length l.regions.items ≡ l.counter;
      none : (n : ℕ) → get_or l.regions.items n [] ≡ [];
    }
