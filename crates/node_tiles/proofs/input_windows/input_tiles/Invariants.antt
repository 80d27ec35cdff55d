use Rattle.std.proofs.Common.{◌≡◌, ◌++◌, Contains}
use Rattle.plane_rect.specs.Tile.{Meets, Tile, tiles}
use Rattle.op_contracts.specs.TileList.{tiles_in}
use Rattle.node_tiles.specs.Inputs.{AreInputTiles}
use Rattle.node_tiles.specs.Reads.{Reads, seen}
use Rattle.node_tiles.proofs.input_windows.input_tiles.Given as goal

abbrev pub invariant-loop-at : goal.invariant-loop-at
invariant-loop-at g l =
    record {
      can : (goal.iterator-loop-at g).can_next l.at-iterator;
      finite : (goal.iterator-loop-at g).is_finite l.at-iterator;
      meeting : (tile : Tile) → Contains l.at-iterator tile → Meets tile l.fn.need;
      rest : tiles_in l.entries.items ++ l.at-iterator ≡ tiles l.fn.need;
      each : AreInputTiles (g.S.SourceTiles.facts l.fn.sources) (g.S.SourceTiles.images l.fn.sources (g.H.ChainMeaning.held l.fn.chain)) l.held l.fn.body l.node l.entries.items;
      over : g.S.SourceTiles.is_over l.sources (g.H.ChainMeaning.held l.chain);
      reads : Reads
          (seen (g.S.SourceTiles.facts l.fn.sources) (g.S.SourceTiles.images l.fn.sources (g.H.ChainMeaning.held l.fn.chain)) (g.S.SourceTiles.names l.fn.sources) (g.H.ChainMeaning.held l.fn.chain) (g.H.ChainMeaning.counts l.fn.chain) (g.H.ChainMeaning.loans l.fn.chain))
          (seen (g.S.SourceTiles.facts l.sources) (g.S.SourceTiles.images l.sources (g.H.ChainMeaning.held l.chain)) (g.S.SourceTiles.names l.sources) (g.H.ChainMeaning.held l.chain) (g.H.ChainMeaning.counts l.chain) (g.H.ChainMeaning.loans l.chain));
      valid : g.H.ChainMeaning.is_valid l.fn.chain → g.H.ChainMeaning.is_valid l.chain;
    }
