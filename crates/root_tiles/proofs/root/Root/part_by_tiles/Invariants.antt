use Rattle.std.specs.Prelude.{IsSome}
use Rattle.level_tables.specs.LevelTiles.{bytes_in}
use Rattle.root_tiles.specs.Chains.{IsRead, chain_state}
use Rattle.root_tiles.specs.Roots.{HasShape, part_shape}
use Rattle.root_tiles.proofs.Blitting.{Blitted}
use Rattle.root_tiles.proofs.root.Root.part_by_tiles.Given as goal

abbrev pub invariant-loop-at : goal.invariant-loop-at
invariant-loop-at g l =
    (goal.iterator-loop-at g).can_next l.at-iterator × (goal.iterator-loop-at g).is_finite l.at-iterator
    × record {
      shape : HasShape (part_shape l.fn.self l.fn.rect) l.patch;
      read : IsRead
          (chain_state g.C.ChainMeaning l.initial.chain) (chain_state g.C.ChainMeaning l.chain);
      blitted : IsSome (g.C.ChainMeaning.held l.initial.chain).content
          → Blitted (bytes_in (g.C.ChainMeaning.held l.initial.chain) l.fn.self.tiles.put) l.patch l.at-iterator;
    }
