use Rattle.std.proofs.Common.{◌≡◌, ◌+◌, ◌≤◌, List, Some, length, take}
use Rattle.model_graphs.specs.Evaluation.{Buffers}
use Rattle.model_states.specs.Cache.{AreRight, Cached, all_looked_up, itself, uncounted}
use Rattle.node_tiles.specs.Stated.{scene_of}
use Rattle.strip_renders.specs.Ahead.{AreMadeOf, AreNext}
use Rattle.strip_renders.specs.Moments.{IsLeft, render_state}
use Rattle.strip_renders.specs.Strips.{AreKnownRight, AreSizedPairs, HoldsNeed, IsRendered, counted, needed_from, pairs_needed}
use Rattle.strip_renders.proofs.strip.render_strip.Given as goal

abbrev pub invariant-loop-index : goal.invariant-loop-index
invariant-loop-index g l =
    let need = take l.index l.strip.need in
    let meanings = g.K.Op.OpMeaning.meanings in
    let first = render_state g.H.ChainMeaning g.S.SourceTiles g.C.PairStore l.fn.sources l.fn.cache l.fn.chain (g.K.OpKit.permits l.fn.purse) in
    let now = render_state g.H.ChainMeaning g.S.SourceTiles g.C.PairStore l.sources l.cache l.chain (g.K.OpKit.permits l.purse) in
    record {
      index : l.applied + l.reused ≡ l.index;
      left : IsLeft l.index first now;
      sized : AreSizedPairs l.by.nodes.now now.seen.sizes;
      pairs : counted now.seen.pairs l.applied l.reused ≡ all_looked_up itself itself first.seen.capacity (uncounted first.seen.pairs) (pairs_needed l.by.nodes.now need);
      held : HoldsNeed l.by.nodes.now need l.tiles;
      ahead : AreNext l.by.nodes.now now.seen.pairs (needed_from l.strip l.later l.index) l.ahead;
      made : (images : Buffers) → first.seen.images ≡ Some images → AreKnownRight meanings l.by.nodes.now images first.seen.cached → AreMadeOf meanings l.by.nodes.now images l.fn.ahead
          → AreMadeOf meanings l.by.nodes.now images l.ahead;
      permits : now.permits + l.applied + length l.ahead ≡ first.permits + length l.fn.ahead;
      spent : now.permits ≤ first.permits;
      right : (images : Buffers) → first.seen.images ≡ Some images → AreKnownRight meanings l.by.nodes.now images first.seen.cached → AreMadeOf meanings l.by.nodes.now images l.fn.ahead
          → AreKnownRight meanings l.by.nodes.now images now.seen.cached;
      bytes : (images : Buffers) (list : List Cached) → first.seen.images ≡ Some images → first.seen.cached ≡ Some list → AreRight meanings (scene_of l.by.nodes.now images) list
          → AreMadeOf meanings l.by.nodes.now images l.fn.ahead
          → IsRendered meanings l.by.nodes.now images first.seen now.seen list (pairs_needed l.by.nodes.now need) l.tiles;
    }
