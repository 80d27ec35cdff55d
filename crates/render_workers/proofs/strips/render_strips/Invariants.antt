use Rattle.std.proofs.Common.{◌≡◌, [], Some, take, drop}
use Rattle.model_graphs.specs.Evaluation.{Buffers}
use Rattle.strip_renders.specs.Ahead.{AreNext}
use Rattle.strip_renders.specs.Moments.{render_state}
use Rattle.strip_renders.specs.Strips.{AreKnownRight, needs_of}
use Rattle.strip_patches.specs.Nodes.{image_at}
use Rattle.strip_patches.specs.Shown.{AreOfOneRequest, HasStripsOf}
use Rattle.render_workers.specs.Parts.{Leaves, LooksUp}
use Rattle.render_workers.proofs.Needs.{pairs_of}
use Rattle.render_workers.proofs.strips.render_strips.Given as goal

abbrev pub invariant-loop-index : goal.invariant-loop-index
invariant-loop-index g l =
    let meanings = g.K.Op.OpMeaning.meanings in
    let pairs = pairs_of l.nodes (take l.index l.plan) in
    let first = render_state g.H.ChainMeaning g.S.SourceTiles g.C.PairStore l.fn.sources l.fn.cache l.fn.chain (g.K.OpKit.permits l.fn.purse) in
    let now = render_state g.H.ChainMeaning g.S.SourceTiles g.C.PairStore l.sources l.cache l.chain (g.K.OpKit.permits l.purse) in
    record {
      looks : LooksUp meanings l.nodes pairs l.applied l.reused first now [] l.ahead;
      leaves : Leaves meanings l.nodes pairs first now [] l.ahead;
      ahead : AreNext l.nodes now.seen.pairs (needs_of (drop l.index l.plan)) l.ahead;
      request : AreOfOneRequest l.fn.strips l.strips;
      image : (images : Buffers) → first.seen.images ≡ Some images → AreKnownRight meanings l.nodes images first.seen.cached
          → HasStripsOf (image_at meanings l.nodes images l.node) 0 l.fn.strips → HasStripsOf (image_at meanings l.nodes images l.node) l.index l.strips;
    }
