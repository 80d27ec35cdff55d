use Rattle.std.proofs.Common.{◌≡◌}
use Rattle.test_sessions.proofs.strips.frozen_tiles.frozen.Given as goal

abbrev pub invariant-loop-at : goal.invariant-loop-at
invariant-loop-at l =
    record {
      can : (goal.iterator-loop-at).can_next l.at-iterator;
      finite : (goal.iterator-loop-at).is_finite l.at-iterator;
      box : l.frozen.box ≡ l.fn.patch.box;
      format : l.frozen.format ≡ l.fn.patch.format;
    }
