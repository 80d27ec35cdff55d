-- What the steps of a strip of a render promise, by the states before and after them.
use Rattle.std.specs.Prelude.{◌≡◌, [], ◌∷◌, ℕ, ◌+◌, ◌≤◌, Bool, IfErr, IfOk, List, MatchResult, Option, Result, Some, length, take}
use Rattle.model_graphs.specs.declared.node.NodeFact.{NodeFact}
use Rattle.model_graphs.specs.Evaluation.{Buffers}
use Rattle.model_graphs.specs.Facts.{specs_of}
use Rattle.model_graphs.specs.Meanings.{Meanings}
use Rattle.model_graphs.specs.Permits.{Spent}
use Rattle.model_states.specs.declared.strip.Strip.{Strip}
use Rattle.model_states.specs.Cache.{AreRight, Cached, all_looked_up, itself, pair_of, uncounted}
use Rattle.model_states.specs.Need.{Needed}
use Rattle.chain_owners.specs.Cause.{HasSwapCause}
use Rattle.chain_owners.specs.declared.swap_refused.SwapRefused.{SwapRefused}
use Rattle.node_cache.specs.Stores.{HaveOneOwner}
use Rattle.node_tiles.specs.Held.{HeldTiles}
use Rattle.node_tiles.specs.Stated.{AreTilesOf, bytes_at, length_at, scene_of}
use Rattle.strip_renders.specs.Ahead.{AreMadeOf, AreNext, IsMadeOf, IsPermitted, IsRefusedAt, IsSpentFor, MadeTiles}
use Rattle.strip_renders.specs.Looks.{HasSameCache, IsLookedUp, IsRecent}
use Rattle.strip_renders.specs.Moments.{AreOver, IsLeft, Keeps, RenderState}
use Rattle.strip_renders.specs.Strips.{AreKnownRight, AreSizedPairs, HoldsNeed, IsRendered, counted, most_names, needed_from, needs_of, pairs_needed}
use Rattle.strip_renders.specs.declared.strip.StripDone.{StripDone}

-- A needed tile is given, and whether the cache had it: its pair is looked up, and where it isn't there the tile is kept.
pub record GivesNeeded {Op : Type 0} (meanings : Meanings Op) (facts : List (NodeFact Op)) (held : HeldTiles) (needed : Needed) (made : Option (List ℕ)) (old new : RenderState)
    (result : Result (List ℕ × Bool) SwapRefused) : Type 0 where
  -- it is as long as one of its node
  pub long : IfOk result (λ given. length given.0 ≡ length_at facts needed.0)
  -- over known images it is that of its node's image, where the held tiles and the cached pairs are right
  pub bytes : (images : Buffers) → old.seen.images ≡ Some images → AreTilesOf meanings facts images held → IsMadeOf meanings facts images needed made
      → AreKnownRight meanings facts images old.seen.cached → IfOk result (λ given. given.0 ≡ bytes_at meanings facts images needed.0 needed.1)
  -- its pair was looked up, or the cached pairs are unchanged
  pub looked : MatchResult result (λ given. IsLookedUp old.seen new.seen (pair_of (specs_of facts) needed) given.0 given.1) (λ _. HasSameCache old.seen new.seen)
  -- a permit is spent, here or ahead, where the cache hadn't it
  pub permits : MatchResult result (λ given. IsPermitted old.permits new.permits made given.1) (λ _. IsRefusedAt old.permits new.permits made)
  -- each cached pair is as long as one of its node
  pub sized : AreSizedPairs facts new.seen.sizes
  -- what is left whatever is answered
  pub left : IsLeft 1 old new
  -- the swap refuses by the names of the chain and one more
  pub cause : IfErr result (HasSwapCause old.seen.counts new.seen.counts (old.seen.counts.names + 1))

-- The tile that is needed at an index of a strip is held, and it is told whether the cache had it.
pub record HoldsNext {Op : Type 0} (meanings : Meanings Op) (facts : List (NodeFact Op)) (strip : Strip) (later : List Strip) (index : ℕ) (needed : Needed) (tiles tiles' : HeldTiles)
    (before after : MadeTiles) (old new : RenderState) (result : Result Bool SwapRefused) : Type 0 where
  -- those of the strip are held up to it
  pub held : IfOk result (λ _. HoldsNeed facts (take (index + 1) strip.need) tiles')
  -- its pair is at the front of the cached ones
  pub recent : IfOk result (λ found. IsRecent old.seen new.seen (pair_of (specs_of facts) needed) found)
  -- over known images, of which cached pairs, held tiles and those that were made ahead are right, so are they again
  pub bytes : (images : Buffers) (list : List Cached) → old.seen.images ≡ Some images → AreTilesOf meanings facts images tiles → AreMadeOf meanings facts images before
      → old.seen.cached ≡ Some list → AreRight meanings (scene_of facts images) list
      → IfOk result (λ _. IsRendered meanings facts images old.seen new.seen list (pair_of (specs_of facts) needed ∷ []) tiles')
  pub right : (images : Buffers) → old.seen.images ≡ Some images → AreTilesOf meanings facts images tiles → AreMadeOf meanings facts images before
      → AreKnownRight meanings facts images old.seen.cached → AreKnownRight meanings facts images new.seen.cached
  -- each cached pair is as long as one of its node
  pub sized : AreSizedPairs facts new.seen.sizes
  -- the tiles that are ahead are of those that are needed after it
  pub ahead : IfOk result (λ _. AreNext facts new.seen.pairs (needed_from strip later (index + 1)) after)
  -- over known images they are those of their nodes' images
  pub made : (images : Buffers) → old.seen.images ≡ Some images → AreTilesOf meanings facts images tiles → AreMadeOf meanings facts images before
      → IfOk result (λ _. AreMadeOf meanings facts images after)
  -- a permit is spent for each tile that was evaluated, now or ahead
  pub permits : MatchResult result (λ found. (new.permits ≤ old.permits) × IsSpentFor (old.permits + length before) (new.permits + length after) found)
      (λ _. (new.permits ≤ old.permits) × (old.permits + length before ≤ new.permits + length (needed_from strip later index)))
  -- what is left whatever is answered
  pub left : IsLeft 1 old new
  -- the swap refuses by the names of the chain and one more
  pub cause : IfErr result (HasSwapCause old.seen.counts new.seen.counts (old.seen.counts.names + 1))

-- A strip is rendered: the pairs of its tiles are looked up in their order, and the tiles are held.
pub record RendersStrip {Op : Type 0} (meanings : Meanings Op) (facts : List (NodeFact Op)) (strip : Strip) (later : List Strip) (before after : MadeTiles) (old new : RenderState)
    (result : Result StripDone SwapRefused) : Type 0 where
  -- the cached pairs and both counts are those after the pairs were looked up
  pub pairs : IfOk result (λ done. counted new.seen.pairs done.applied done.reused
      ≡ all_looked_up itself itself old.seen.capacity (uncounted old.seen.pairs) (pairs_needed facts strip.need))
  -- each tile that it needs is held
  pub held : IfOk result (λ done. HoldsNeed facts strip.need done.tiles)
  -- over known images, of which the cached list and the tiles that were made ahead are right: the list is that after the
  -- pairs were looked up, and the held tiles are those of the nodes' images
  pub bytes : (images : Buffers) (list : List Cached) → old.seen.images ≡ Some images → old.seen.cached ≡ Some list → AreRight meanings (scene_of facts images) list
      → AreMadeOf meanings facts images before
      → IfOk result (λ done. IsRendered meanings facts images old.seen new.seen list (pairs_needed facts strip.need) done.tiles)
  -- cached pairs that were right are right, whatever is answered
  pub right : (images : Buffers) → old.seen.images ≡ Some images → AreKnownRight meanings facts images old.seen.cached → AreMadeOf meanings facts images before
      → AreKnownRight meanings facts images new.seen.cached
  -- each cached pair is as long as a tile of its node
  pub sized : AreSizedPairs facts new.seen.sizes
  -- the tiles that are ahead are of those that the strips after it need
  pub ahead : IfOk result (λ _. AreNext facts new.seen.pairs (needs_of later) after)
  -- over known images they are those of their nodes' images
  pub made : (images : Buffers) → old.seen.images ≡ Some images → AreKnownRight meanings facts images old.seen.cached → AreMadeOf meanings facts images before
      → IfOk result (λ _. AreMadeOf meanings facts images after)
  -- a permit is spent for each tile that was evaluated, now or ahead; where it is refused, at most one for each that is needed
  pub permits : MatchResult result (λ done. Spent (old.permits + length before) (new.permits + length after) done.applied)
      (λ _. (new.permits ≤ old.permits) × (old.permits + length before ≤ new.permits + length (needed_from strip later 0)))
  -- what a render keeps: at most a name more for each tile that is needed
  pub keeps : Keeps (length strip.need) old.seen new.seen
  -- the source and the cache are over the chain again
  pub over : AreOver new
  -- a valid chain is valid again
  pub valid : old.valid → new.valid
  -- the swap refuses by the names of the chain and one more for each tile that is needed
  pub cause : IfErr result (HasSwapCause old.seen.counts new.seen.counts (old.seen.counts.names + length strip.need))
  -- and where each cached name has one owner, by those of a full cache and one more
  pub few_names : HaveOneOwner old.seen.held old.seen.cache_names
      → IfErr result (HasSwapCause old.seen.counts new.seen.counts (most_names old.seen (pairs_needed facts strip.need)))
