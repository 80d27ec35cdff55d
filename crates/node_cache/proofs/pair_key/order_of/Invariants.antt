use Rattle.std.proofs.Common.{◌≡◌, ◌++◌}
use Rattle.node_cache.specs.NodeNames.{pairs_in}
use Rattle.node_cache.specs.Stores.{pairs_at}
use Rattle.node_cache.proofs.pair_key.order_of.Given as goal

abbrev pub invariant-loop-key : goal.invariant-loop-key
invariant-loop-key g l = record {
  can_next : (goal.iterator-loop-key g).can_next l.key-iterator;
  finite : (goal.iterator-loop-key g).is_finite l.key-iterator;
  left : pairs_at l.order.items ++ pairs_in l.key-iterator ≡ pairs_in l.fn.entries.entries;
}
