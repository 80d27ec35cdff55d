use Rattle.std.proofs.Common.{◌≡◌, ◌+◌, ◌*◌}
use Rattle.plane_rect.specs.Rectangle.{Includes}
use Rattle.root_tiles.specs.Growth.{HoldsMoreTiles, root_state}
use Rattle.root_tiles.specs.Roots.{HasShape, IsRootOver, part_shape}
use Rattle.view_reads.proofs.LevelParts.{LaidLevel}
use Rattle.view_reads.proofs.levels.+levels.Given as goal

abbrev pub decreases-level_part : goal.decreases-level_part
decreases-level_part g l = 2 * l.level + 1

abbrev pub decreases-level_tile : goal.decreases-level_tile
decreases-level_tile g l = 2 * l.level

abbrev pub invariant-level_part-loop-at : goal.invariant-level_part-loop-at
invariant-level_part-loop-at g l =
    (goal.iterator-level_part-loop-at g).can_next l.at-iterator × (goal.iterator-level_part-loop-at g).is_finite l.at-iterator
    × record {
      shape : HasShape (part_shape l.initial.root l.fn.rect) l.patch;
      more : HoldsMoreTiles l.fn.level (root_state l.initial.root (g.C.ChainMeaning.held l.initial.chain) (g.C.ChainMeaning.counts l.initial.chain))
          (root_state l.root (g.C.ChainMeaning.held l.chain) (g.C.ChainMeaning.counts l.chain));
      over : IsRootOver l.root (g.C.ChainMeaning.held l.chain);
      inside : Includes l.root.box l.fn.extent;
      loans : g.C.ChainMeaning.loans l.chain ≡ g.C.ChainMeaning.loans l.initial.chain;
      valid : g.C.ChainMeaning.is_valid l.initial.chain → g.C.ChainMeaning.is_valid l.chain;
      laid : LaidLevel l.initial.root l.fn.extent (g.C.ChainMeaning.held l.initial.chain) l.fn.level l.patch l.at-iterator;
    }
