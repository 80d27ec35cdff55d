use Rattle.std.proofs.Common.{List}
use Rattle.buffer_view.specs.BufferTables.{AreBuffersOver, buffers_names}
use Rattle.model_graphs.specs.declared.node.NodeFact.{NodeFact}
use Rattle.strip_renders.specs.Strips.{AreSizedPairs}
use Rattle.test_renders.specs.Ready.{AreOver}
use Rattle.test_renders.proofs.changes.void_all.Given as goal

abbrev pub invariant-loop-node : goal.invariant-loop-node
invariant-loop-node g l =
    record {
      over : AreOver (AreBuffersOver l.fn.buffers (g.C.ChainMeaning.held l.chain)) (g.P.PairStore.is_over l.cache (g.C.ChainMeaning.held l.chain))
          (buffers_names l.fn.buffers) (g.P.PairStore.names l.cache) (g.C.ChainMeaning.held l.chain);
      sized : (nodes : List (NodeFact g.row.Op.Denot)) → AreSizedPairs nodes (g.P.PairStore.sizes l.fn.cache (g.C.ChainMeaning.held l.fn.chain))
          → AreSizedPairs nodes (g.P.PairStore.sizes l.cache (g.C.ChainMeaning.held l.chain));
    }
