use Rattle.std.proofs.Common.{◌≡◌, ◌++◌, length, map, drop}
use Rattle.model_graphs.specs.Facts.{specs_of}
use Rattle.model_states.specs.Cache.{pair_of}
use Rattle.plain_graphs.specs.Needs.{AreBelow}
use Rattle.plain_graphs.proofs.cache.add_pairs.Given as goal

abbrev pub invariant-loop-node : goal.invariant-loop-node
invariant-loop-node l =
    record {
      pairs : l.pairs.items ++ map (pair_of (specs_of l.facts)) (drop l.node-index l.needed) ≡ l.initial.pairs.items ++ map (pair_of (specs_of l.facts)) l.needed;
      below : AreBelow (length l.facts) (drop l.node-index l.needed);
    }
