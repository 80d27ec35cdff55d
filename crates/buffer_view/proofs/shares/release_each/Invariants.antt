use Rattle.std.specs.Vec.Iter.{into_iter_items}
use Rattle.root_tiles.specs.Chains.{chain_state}
use Rattle.buffer_view.proofs.Sharing.{Releases}
use Rattle.buffer_view.proofs.shares.release_each.Given as goal

abbrev pub invariant-loop-root : goal.invariant-loop-root
invariant-loop-root g l =
    (goal.iterator-loop-root g).can_next l.root-iterator × (goal.iterator-loop-root g).is_finite l.root-iterator
    × Releases l.fn.roots.items (into_iter_items l.root-iterator)
    (chain_state g.C.ChainMeaning l.initial.chain) (chain_state g.C.ChainMeaning l.chain)
