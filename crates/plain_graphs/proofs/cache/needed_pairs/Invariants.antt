use Rattle.std.proofs.Common.{◌≡◌, ◌++◌, length, drop}
use Rattle.model_graphs.specs.Facts.{specs_of}
use Rattle.model_states.specs.Cache.{needed_pairs}
use Rattle.plain_graphs.specs.Needs.{AreStripsBelow}
use Rattle.plain_graphs.proofs.cache.needed_pairs.Given as goal

abbrev pub invariant-loop-strip : goal.invariant-loop-strip
invariant-loop-strip l =
    record {
      pairs : l.pairs.items ++ needed_pairs (specs_of l.facts) (drop l.strip-index l.strips) ≡ needed_pairs (specs_of l.facts) l.strips;
      below : AreStripsBelow (length l.facts) (drop l.strip-index l.strips);
    }
