use Rattle.std.proofs.Common.{◌≡◌, ◌+◌, length, Ok, Some, take}
use Rattle.model_graphs.specs.Evaluation.{Buffers}
use Rattle.node_tiles.specs.Stated.{AreTilesOf}
use Rattle.strip_renders.specs.Ahead.{AreJobs, AreJobsOf}
use Rattle.strip_renders.specs.Moments.{ReadsTiles, source_state}
use Rattle.strip_renders.proofs.jobs.tile_jobs.Given as goal

abbrev pub invariant-loop-entry : goal.invariant-loop-entry
invariant-loop-entry g l =
    let meanings = g.K.Op.OpMeaning.meanings in
    record {
      jobs : AreJobs meanings l.by.nodes.now (g.C.PairStore.pairs l.cache) (take l.entry-index l.batch) l.jobs.items;
      bytes : (images : Buffers) → g.S.SourceTiles.images l.fn.sources (g.H.ChainMeaning.held l.fn.chain) ≡ Some images → AreTilesOf meanings l.by.nodes.now images l.held
          → AreJobsOf meanings l.by.nodes.now images l.jobs.items;
      permits : g.K.OpKit.permits l.purse + length l.jobs.items ≡ g.K.OpKit.permits l.fn.purse;
      read : ReadsTiles {T = Unit {0}} (source_state g.H.ChainMeaning g.S.SourceTiles l.fn.sources l.fn.chain) (source_state g.H.ChainMeaning g.S.SourceTiles l.sources l.chain) (Ok tt);
    }
