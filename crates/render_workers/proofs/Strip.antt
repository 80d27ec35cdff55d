-- What a strip of a render does, in the words of a part of a request.
use Rattle.std.proofs.Common.{◌≡◌, ℕ, ◌+◌, ◌≤◌, List, length, Some, sym, ap, ◌∙◌, subst, arith}
use Rattle.std.proofs.lemmas.List.{length-map}
use Rattle.model_graphs.specs.declared.node.NodeFact.{NodeFact}
use Rattle.model_graphs.specs.Evaluation.{Buffers}
use Rattle.model_graphs.specs.Facts.{specs_of}
use Rattle.model_graphs.specs.Meanings.{Meanings}
use Rattle.model_graphs.specs.Permits.{Spent}
use Rattle.model_states.specs.Cache.{AreRight, Cached, Counted, Pair, all_looked_up, itself, pair_of, uncounted}
use Rattle.model_states.specs.Need.{Needed}
use Rattle.model_states.proofs.CacheLaws.{counts_add_up}
use Rattle.chain_owners.specs.Cause.{HasSwapCause}
use Rattle.chain_owners.specs.declared.swap_refused.SwapRefused.{SwapRefused}
use Rattle.node_cache.specs.Stores.{HaveOneOwner}
use Rattle.node_tiles.specs.Held.{HeldTiles}
use Rattle.node_tiles.specs.Stated.{scene_of}
use Rattle.strip_renders.specs.Ahead.{AreMadeOf, MadeTiles}
use Rattle.strip_renders.specs.Moments.{IsLeft, RenderState}
use Rattle.strip_renders.specs.Strips.{AreKnownRight, AreSizedPairs, IsRendered, counted, most_names, pairs_needed}
use Rattle.strip_renders.proofs.Moments.{left-most}
use Rattle.render_workers.specs.Parts.{IsExcused, Leaves, LooksUp}

module _ {Op : Type 0} (meanings : Meanings Op) (nodes : List (NodeFact Op)) where
  module _ (need : List Needed) (a b : RenderState) (made made' : MadeTiles) where
    count : length (pairs_needed nodes need) ≡ length need
    count = length-map need (pair_of (specs_of nodes))

    pub strip-leaves : IsLeft (length need) a b
        → ((images : Buffers) → a.seen.images ≡ Some images → AreKnownRight meanings nodes images a.seen.cached → AreMadeOf meanings nodes images made
        → AreKnownRight meanings nodes images b.seen.cached × AreMadeOf meanings nodes images made')
        → AreSizedPairs nodes b.seen.sizes → b.permits + length made' ≤ a.permits + length made → a.permits + length made ≤ b.permits + length made' + length need
        → Leaves meanings nodes (pairs_needed nodes need) a b made made'
    strip-leaves left right sized spent few = record {
      left = left-most (length need) (length (pairs_needed nodes need)) a b (omega (arith, count)) left;
      right = right;
      sized = λ before. sized;
      spent = spent;
      few = omega (arith, few, count);
    }

    module _ (applied reused : ℕ) (pairs : counted b.seen.pairs applied reused ≡ all_looked_up itself itself a.seen.capacity (uncounted a.seen.pairs) (pairs_needed nodes need))
        (spent : Spent (a.permits + length made) (b.permits + length made') applied) where
      -- no more permits than pairs
      pub done-few : (b.permits + length made' ≤ a.permits + length made) × (a.permits + length made ≤ b.permits + length made' + length need)
      done-few =
          let sum : applied + reused ≡ 0 + length (pairs_needed nodes need) =
          ap (λ (c : Counted Pair). c.applied + c.reused) pairs ∙ counts_add_up itself itself a.seen.capacity (uncounted a.seen.pairs) (pairs_needed nodes need) in
          (omega (arith, spent), omega (arith, spent, sum, count))

      pub strip-looks : (held : HeldTiles)
          → ((images : Buffers) (list : List Cached) → a.seen.images ≡ Some images → a.seen.cached ≡ Some list → AreRight meanings (scene_of nodes images) list
          → AreMadeOf meanings nodes images made → IsRendered meanings nodes images a.seen b.seen list (pairs_needed nodes need) held)
          → LooksUp meanings nodes (pairs_needed nodes need) applied reused a b made made'
      strip-looks held bytes = record {
        pairs = pairs;
        permits = spent;
        cached = λ images list known is right are. (bytes images list known is right are).cached;
      }

    pub strip-excused : (refused : SwapRefused) → HasSwapCause a.seen.counts b.seen.counts (a.seen.counts.names + length need) refused
        → (HaveOneOwner a.seen.held a.seen.cache_names → HasSwapCause a.seen.counts b.seen.counts (most_names a.seen (pairs_needed nodes need)) refused)
        → IsExcused (pairs_needed nodes need) a b refused
    strip-excused refused each few = record {
      each = subst (λ (n : ℕ). HasSwapCause a.seen.counts b.seen.counts (a.seen.counts.names + n) refused) (sym count) each;
      few = few;
    }
