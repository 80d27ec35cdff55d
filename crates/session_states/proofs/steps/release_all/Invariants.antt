use Rattle.std.proofs.Common.{◌≡◌, length}
use Rattle.std.specs.VecDeque.{deque_capacity}
use Rattle.chain_owners.specs.Owners.{Owns}
use Rattle.root_tiles.specs.Chains.{Leaves, chain_state}
use Rattle.session_states.specs.OverChains.{AreAllOver, names_of_all}
use Rattle.session_states.proofs.steps.release_all.Given as goal

abbrev pub invariant-loop-states : goal.invariant-loop-states
invariant-loop-states g l = record {
  over : AreAllOver l.states.items (g.C.ChainMeaning.held l.chain);
  owned : Owns (g.C.ChainMeaning.held l.chain) (names_of_all l.states.items);
  capacity : deque_capacity l.states ≡ deque_capacity l.initial.states;
  left : Leaves 0 (names_of_all l.initial.states.items) (names_of_all l.states.items)
      (chain_state g.C.ChainMeaning l.initial.chain) (chain_state g.C.ChainMeaning l.chain);
}

abbrev pub decreases-loop-states : goal.decreases-loop-states
decreases-loop-states g l = length l.states.items
