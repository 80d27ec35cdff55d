use Rattle.std.proofs.Common.{◌≡◌, ℕ, ◌≤◌, length, get_or, Some}
use Rattle.std.specs.Prelude.{slice_get}
use Rattle.model_graphs.specs.declared.node.NodeFact.{NodeFact}
use Rattle.model_graphs.specs.Windows.{Window}
use Rattle.node_tiles.specs.Inputs.{IsInputWindow, required_of}
use Rattle.node_tiles.specs.Reads.{Reads, seen}
use Rattle.node_tiles.proofs.input_windows.input_windows.Given as goal

abbrev pub invariant-loop-input : goal.invariant-loop-input
invariant-loop-input g l =
    let positions = l.inputs.positions in
    record {
      count : length l.windows.items ≡ l.input;
      within : l.input ≤ length positions;
      each : (i : ℕ) (window : Window) → slice_get l.windows.items i ≡ Some window → (fact : NodeFact g.row.K-Op.Denot) → slice_get l.nodes (get_or positions i 0) ≡ Some fact
          → IsInputWindow (g.S.SourceTiles.facts l.fn.sources) (g.S.SourceTiles.images l.fn.sources (g.H.ChainMeaning.held l.fn.chain)) l.held fact (get_or positions i 0)
          (required_of g.K.Op.OpMeaning.meanings l.op l.inputs l.part i) window;
      over : g.S.SourceTiles.is_over l.sources (g.H.ChainMeaning.held l.chain);
      reads : Reads
          (seen (g.S.SourceTiles.facts l.fn.sources) (g.S.SourceTiles.images l.fn.sources (g.H.ChainMeaning.held l.fn.chain)) (g.S.SourceTiles.names l.fn.sources) (g.H.ChainMeaning.held l.fn.chain) (g.H.ChainMeaning.counts l.fn.chain) (g.H.ChainMeaning.loans l.fn.chain))
          (seen (g.S.SourceTiles.facts l.sources) (g.S.SourceTiles.images l.sources (g.H.ChainMeaning.held l.chain)) (g.S.SourceTiles.names l.sources) (g.H.ChainMeaning.held l.chain) (g.H.ChainMeaning.counts l.chain) (g.H.ChainMeaning.loans l.chain));
      valid : g.H.ChainMeaning.is_valid l.fn.chain → g.H.ChainMeaning.is_valid l.chain;
    }
