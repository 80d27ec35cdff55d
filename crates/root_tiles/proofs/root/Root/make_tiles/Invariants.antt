use Rattle.std.proofs.Common.{◌≡◌, ℕ, ◌+◌, ◌⊎◌, Contains, length}
use Rattle.std.specs.Map.{keys_of}
use Rattle.model_images.specs.TileCounts.{tile_count}
use Rattle.plane_rect.specs.Tile.{IsWhole, Meets, Tile}
use Rattle.root_tiles.specs.Chains.{chain_state}
use Rattle.root_tiles.specs.Cutting.{cutting_of}
use Rattle.root_tiles.specs.Made.{MakesMore}
use Rattle.root_tiles.specs.Paints.{paint_pixels}
use Rattle.root_tiles.proofs.root.Root.make_tiles.Given as goal

abbrev pub invariant-loop-at : goal.invariant-loop-at
invariant-loop-at g l =
    (goal.iterator-loop-at g).can_next l.at-iterator × (goal.iterator-loop-at g).is_finite l.at-iterator
    × record {
      ready : g.T.ReadyTiles.are_cut l.ready (cutting_of l.fn.self l.fn.rect l.fn.paint);
      format : l.made.format ≡ l.fn.self.tiles.format;
      added : ℕ;
      grown : length l.made.entries ≡ length l.initial.made.entries + added;
      makes : MakesMore l.fn.self l.fn.part l.fn.rect (paint_pixels l.fn.self.tiles.format l.fn.rect l.fn.paint) added
          (chain_state g.C.ChainMeaning l.initial.chain) (chain_state g.C.ChainMeaning l.chain)
          l.initial.made.entries l.made.entries;
      count : added + length l.at-iterator ≡ tile_count l.fn.part;
      left : (tile : Tile) → Contains l.at-iterator tile → Meets tile l.fn.part × IsWhole tile;
      all : (tile : Tile) → Meets tile l.fn.part → Contains (keys_of l.made.entries) tile ⊎ Contains l.at-iterator tile;
    }
