-- What a part of a render does, which looks some pairs up.
use Rattle.std.specs.Prelude.{◌≡◌, ℕ, ◌+◌, ◌≤◌, List, length, Some}
use Rattle.model_graphs.specs.declared.node.NodeFact.{NodeFact}
use Rattle.model_graphs.specs.Evaluation.{Buffers}
use Rattle.model_graphs.specs.Meanings.{Meanings}
use Rattle.model_graphs.specs.Permits.{Spent}
use Rattle.model_states.specs.Cache.{AreRight, Cached, Pair, all_looked_up, itself, uncounted}
use Rattle.chain_owners.specs.Cause.{HasSwapCause}
use Rattle.chain_owners.specs.declared.swap_refused.SwapRefused.{SwapRefused}
use Rattle.node_cache.specs.Stores.{HaveOneOwner}
use Rattle.node_tiles.specs.Stated.{scene_of}
use Rattle.strip_renders.specs.Ahead.{AreMadeOf, MadeTiles}
use Rattle.strip_renders.specs.Moments.{IsLeft, RenderState}
use Rattle.strip_renders.specs.Strips.{AreKnownRight, AreSizedPairs, counted, list_after, most_names}

-- What it leaves, whatever it answers: what a step leaves that looks so many pairs up, cached pairs that are right where
-- they and the tiles that were made ahead were, and at most one permit is spent for each pair; those of tiles that are
-- ahead are spent already.
pub record Leaves {Op : Type 0} (meanings : Meanings Op) (facts : List (NodeFact Op)) (pairs : List Pair) (old new : RenderState) (before after : MadeTiles) : Type 0 where
  pub left : IsLeft (length pairs) old new
  pub right : (images : Buffers) → old.seen.images ≡ Some images → AreKnownRight meanings facts images old.seen.cached → AreMadeOf meanings facts images before
      → AreKnownRight meanings facts images new.seen.cached × AreMadeOf meanings facts images after
  pub sized : AreSizedPairs facts old.seen.sizes → AreSizedPairs facts new.seen.sizes
  pub spent : new.permits + length after ≤ old.permits + length before
  pub few : old.permits + length before ≤ new.permits + length after + length pairs

-- What it does at Ok: the cached pairs and both counts are those after the pairs were looked up, one permit was spent for
-- each tile that was evaluated, now or ahead, and over known images the cached list is the one after that, where it and the
-- tiles that were made ahead were right.
pub record LooksUp {Op : Type 0} (meanings : Meanings Op) (facts : List (NodeFact Op)) (looked : List Pair) (applied reused : ℕ) (old new : RenderState) (before after : MadeTiles) : Type 0 where
  pub pairs : counted new.seen.pairs applied reused ≡ all_looked_up itself itself old.seen.capacity (uncounted old.seen.pairs) looked
  pub permits : Spent (old.permits + length before) (new.permits + length after) applied
  pub cached : (images : Buffers) (list : List Cached) → old.seen.images ≡ Some images → old.seen.cached ≡ Some list → AreRight meanings (scene_of facts images) list
      → AreMadeOf meanings facts images before → new.seen.cached ≡ Some (list_after meanings facts images old.seen.capacity list looked)

-- Why it is refused by the swap: by the names at its begin and one for each pair, and, where each cached name has one
-- owner, by those that the cached pairs leave.
pub record IsExcused (pairs : List Pair) (old new : RenderState) (refused : SwapRefused) : Type 0 where
  pub each : HasSwapCause old.seen.counts new.seen.counts (old.seen.counts.names + length pairs) refused
  pub few : HaveOneOwner old.seen.held old.seen.cache_names → HasSwapCause old.seen.counts new.seen.counts (most_names old.seen pairs) refused
