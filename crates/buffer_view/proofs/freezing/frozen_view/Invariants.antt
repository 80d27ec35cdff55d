use Rattle.std.proofs.Common.{All}
use Rattle.plane_rect.specs.Tile.{IsWhole}
use Rattle.root_tiles.specs.Chains.{IsRead, chain_state}
use Rattle.buffer_view.specs.Freezing.{IsFrozenOver}
use Rattle.buffer_view.proofs.FrozenParts.{AreFrozenBut}
use Rattle.buffer_view.proofs.freezing.frozen_view.Given as goal

abbrev pub invariant-loop-at : goal.invariant-loop-at
invariant-loop-at g l =
    (goal.iterator-loop-at g).can_next l.at-iterator × (goal.iterator-loop-at g).is_finite l.at-iterator
    × record {
      shape : IsFrozenOver (record { box = l.fn.extent; format = l.fn.root.tiles.format }) l.frozen;
      read : IsRead
          (chain_state g.C.ChainMeaning l.initial.chain) (chain_state g.C.ChainMeaning l.chain);
      whole : All IsWhole l.at-iterator;
      but : AreFrozenBut l.fn.root l.fn.extent (g.C.ChainMeaning.held l.initial.chain) l.frozen l.at-iterator;
    }
