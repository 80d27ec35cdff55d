-- What a render of a request promises, and what its steps do, by the states before and after them.
use Rattle.std.specs.Prelude.{◌≡◌, [], ℕ, ◌+◌, ◌≤◌, false, true, IfErr, IfOk, IsErrOf, List, MatchResult, None, OnOk, Result, Some, length, slice_get}
use Rattle.plane_rect.specs.Rectangle.{Rectangle, scaled}
use Rattle.model_images.specs.Level.{level}
use Rattle.model_graphs.specs.declared.node.NodeFact.{NodeFact}
use Rattle.model_graphs.specs.Evaluation.{Buffers}
use Rattle.model_graphs.specs.Facts.{specs_of}
use Rattle.model_graphs.specs.Meanings.{Meanings}
use Rattle.model_graphs.specs.Node.{index_of}
use Rattle.model_graphs.specs.Permits.{Spent}
use Rattle.model_states.specs.declared.strip.Strip.{Strip}
use Rattle.model_states.specs.Cache.{AreRight, Cached, all_looked_up, itself, needed_pairs, uncounted}
use Rattle.model_states.specs.Edits.{has_node}
use Rattle.model_states.specs.Need.{wide}
use Rattle.plane_rect.specs.Tile.{strip_rectangles}
use Rattle.chain_owners.specs.Cause.{HasSwapCause}
use Rattle.chain_owners.specs.declared.swap_refused.SwapRefused.{SwapRefused}
use Rattle.node_cache.specs.Stores.{HaveOneOwner}
use Rattle.node_tiles.specs.Stated.{scene_of, shape_at}
use Rattle.strip_renders.specs.Ahead.{AreMadeOf, AreNext, MadeTiles}
use Rattle.strip_renders.specs.Moments.{Keeps, RenderState}
use Rattle.strip_renders.specs.Strips.{AreKnownRight, AreSizedPairs, counted, most_names, needed_from, needs_of, pairs_needed}
use Rattle.strip_patches.specs.Nodes.{image_at}
use Rattle.strip_patches.specs.Shown.{AreOfOneRequest, HasStripsOf, Shows, is_patch, picture_box, picture_format, source_in}
use Rattle.strip_patches.specs.declared.picture.PictureForm.{PictureForm}
use Rattle.strip_patches.specs.declared.picture.PictureForm.TheVariants as forms
use Rattle.strip_patches.specs.declared.picture_strips.PictureStrips.{PictureStrips}
use Rattle.render_workers.specs.declared.part.LookCounts.{LookCounts}
use Rattle.render_workers.specs.declared.refused.RenderRefused.{RenderRefused}
use Rattle.render_workers.specs.declared.refused.RenderRefused.TheVariants.{Rect, UnknownNode}
use Rattle.render_workers.specs.declared.rendering.Rendered.{Rendered}
use Rattle.render_workers.specs.Parts.{IsExcused, Leaves, LooksUp}
use Rattle.render_workers.specs.Refusals.{ChangesNothing, IsRefusedBy}
use Rattle.render_workers.specs.Requests.{IsShown, Request, pairs_requested, strips_needed}

-- ---- its steps

-- A strip of a request for the node at a position is rendered, and added to the picture.
pub record RendersPart {Op : Type 0} (meanings : Meanings Op) (facts : List (NodeFact Op)) (node : ℕ) (strip : Strip) (later : List Strip) (strips strips' : PictureStrips) (before after : MadeTiles)
    (old new : RenderState) (result : Result LookCounts SwapRefused) : Type 0 where
  -- the pairs of its tiles are looked up
  pub looks : IfOk result (λ counts. LooksUp meanings facts (pairs_needed facts strip.need) counts.applied counts.reused old new before after)
  -- the picture is still that of the request
  pub request : AreOfOneRequest strips strips'
  -- over known images, of which the cached pairs and the tiles that were made ahead are right, it has one strip more
  pub image : (images : Buffers) → old.seen.images ≡ Some images → AreKnownRight meanings facts images old.seen.cached → AreMadeOf meanings facts images before
      → (k : ℕ) → HasStripsOf (image_at meanings facts images node) k strips → slice_get (strip_rectangles (source_in strips)) k ≡ Some strip.rect
      → OnOk result (HasStripsOf (image_at meanings facts images node) (k + 1) strips')
  -- what is left
  pub leaves : IfOk result (λ _. Leaves meanings facts (pairs_needed facts strip.need) old new before after)
  -- what is left where it is refused, and the tiles that were made ahead are given up
  pub left : IfErr result (λ _. Leaves meanings facts (pairs_needed facts (needed_from strip later 0)) old new before [])
  -- the tiles that are ahead are of those that the strips after it need
  pub ahead : IfOk result (λ _. AreNext facts new.seen.pairs (needs_of later) after)
  -- why the swap refuses
  pub excused : IfErr result (IsExcused (pairs_needed facts strip.need) old new)

-- The strips of a request for the node at a position are rendered, and added to the picture.
pub record RendersStrips {Op : Type 0} (meanings : Meanings Op) (facts : List (NodeFact Op)) (node : ℕ) (plan : List Strip) (strips strips' : PictureStrips) (old new : RenderState)
    (result : Result LookCounts SwapRefused) : Type 0 where
  -- the pairs of all strips are looked up
  pub looks : IfOk result (λ counts. LooksUp meanings facts (needed_pairs (specs_of facts) plan) counts.applied counts.reused old new [] [])
  -- the picture is still that of the request
  pub request : AreOfOneRequest strips strips'
  -- over known images, of which the cached pairs are right, it has all strips
  pub image : (images : Buffers) → old.seen.images ≡ Some images → AreKnownRight meanings facts images old.seen.cached → HasStripsOf (image_at meanings facts images node) 0 strips
      → OnOk result (HasStripsOf (image_at meanings facts images node) (length (strip_rectangles (source_in strips))) strips')
  -- what is left whatever is answered
  pub leaves : Leaves meanings facts (needed_pairs (specs_of facts) plan) old new [] []
  -- why the swap refuses
  pub excused : IfErr result (IsExcused (needed_pairs (specs_of facts) plan) old new)

-- A request that can be rendered is: for a rectangle of a level of the node at a position.
pub record RendersPlanned {Op : Type 0} (meanings : Meanings Op) (facts : List (NodeFact Op)) (node : ℕ) (plan : List Strip) (at_level : ℕ) (part : Rectangle) (form : PictureForm)
    (old new : RenderState) (result : Result Rendered SwapRefused) : Type 0 where
  -- the pairs of all strips are looked up
  pub looks : IfOk result (λ done. LooksUp meanings facts (needed_pairs (specs_of facts) plan) done.applied done.reused old new [] [])
  -- the picture is of the rectangle, in the node's format
  pub rect : IfOk result (λ done. picture_box done.picture ≡ part)
  pub format : IfOk result (λ done. picture_format done.picture ≡ (shape_at facts node).format)
  -- over known images, of which the cached pairs are right, it shows the level of the node's image
  pub image : (images : Buffers) → old.seen.images ≡ Some images → AreKnownRight meanings facts images old.seen.cached
      → IfOk result (λ done. Shows (level (image_at meanings facts images node) at_level) part done.picture)
  -- it is a patch where one is asked for
  pub patch : form ≡ forms.Patch → IfOk result (λ done. is_patch done.picture ≡ true)
  -- what is left whatever is answered
  pub leaves : Leaves meanings facts (needed_pairs (specs_of facts) plan) old new [] []
  -- why the swap refuses
  pub excused : IfErr result (IsExcused (needed_pairs (specs_of facts) plan) old new)

-- ---- a render

-- A request for a rectangle of a level of the node of a name is rendered, of whose strips none may need more tiles than the
-- capacity, in the form that is asked for.
pub record Renders {Op : Type 0} (meanings : Meanings Op) (facts : List (NodeFact Op)) (request : Request) (capacity : ℕ) (form : PictureForm) (old new : RenderState)
    (result : Result Rendered RenderRefused) : Type 0 where
  -- no node has the name
  pub unknown : has_node (specs_of facts) request.node ≡ false → IsErrOf result UnknownNode
  -- one has, and the rectangle at level 0 is not in limits
  pub outside : has_node (specs_of facts) request.node ≡ true → scaled request.at_level request.rect ≡ None → IsErrOf result Rect
  -- no strip of what is rendered is too wide
  pub narrow : OnOk result (wide capacity (strips_needed meanings facts request) ≡ None)
  -- where it is refused before anything is looked up nothing has changed
  pub unchanged : IfErr result (ChangesNothing old.seen new.seen old.permits new.permits)
  -- the cached pairs and both counts are those after its pairs were looked up
  pub pairs : IfOk result (λ done. counted new.seen.pairs done.applied done.reused
      ≡ all_looked_up itself itself old.seen.capacity (uncounted old.seen.pairs) (pairs_requested meanings facts request))
  -- the picture is of the rectangle, in the node's format
  pub rect : IfOk result (λ done. picture_box done.picture ≡ request.rect)
  pub format : IfOk result (λ done. picture_format done.picture ≡ (shape_at facts (index_of (specs_of facts) request.node)).format)
  -- over known images, of which the cached list was right, it shows the rectangle of the level of the node's image, and the
  -- list is that after the pairs were looked up
  pub shown : (images : Buffers) (list : List Cached) → old.seen.images ≡ Some images → old.seen.cached ≡ Some list → AreRight meanings (scene_of facts images) list
      → IfOk result (λ done. IsShown meanings facts images request old.seen new.seen list done.picture)
  -- it is a patch where one is asked for
  pub patch : form ≡ forms.Patch → IfOk result (λ done. is_patch done.picture ≡ true)
  -- cached pairs that were right are right, whatever is answered
  pub right : (images : Buffers) → old.seen.images ≡ Some images → AreKnownRight meanings facts images old.seen.cached → AreKnownRight meanings facts images new.seen.cached
  -- each cached pair is as long as a tile of its node
  pub sized : AreSizedPairs facts new.seen.sizes
  -- a permit is spent for each tile that was evaluated; where it is refused, at most one for each pair
  pub permits : MatchResult result (λ done. Spent old.permits new.permits done.applied)
      (λ _. (new.permits ≤ old.permits) × (old.permits ≤ new.permits + length (pairs_requested meanings facts request)))
  -- what a render keeps: at most a name more for each pair
  pub keeps : Keeps (length (pairs_requested meanings facts request)) old.seen new.seen
  -- the source and the cache are over the chain again
  pub sources_over : new.sources_over
  pub cache_over : new.cache_over
  -- a valid chain is valid again
  pub valid : old.valid → new.valid
  -- why it is refused, by the swap with the names of the chain and one more for each pair
  pub cause : IfErr result (IsRefusedBy meanings facts request capacity
      (HasSwapCause old.seen.counts new.seen.counts (old.seen.counts.names + length (pairs_requested meanings facts request))))
  -- and where each cached name has one owner, by those of a full cache and one more
  pub few_names : HaveOneOwner old.seen.held old.seen.cache_names
      → IfErr result (IsRefusedBy meanings facts request capacity (HasSwapCause old.seen.counts new.seen.counts (most_names old.seen (pairs_requested meanings facts request))))
