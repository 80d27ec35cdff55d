-- What a render of a session gives, and what it leaves.
use Rattle.std.specs.Prelude.{◌≡◌, ◌+◌, ◌≤◌, ℕ, Bool, Err, IfErr, IfOk, IsSome, MatchResult, None, OnErr, OnOk, Result, false, length, true}
use Rattle.std.specs.Map.{values_of}
use Rattle.model_buffers.specs.Table.{Table}
use Rattle.model_graphs.specs.Facts.{specs_of}
use Rattle.model_graphs.specs.Meanings.{Meanings}
use Rattle.model_graphs.specs.Node.{index_of}
use Rattle.model_graphs.specs.Permits.{Spent}
use Rattle.model_images.specs.Level.{level}
use Rattle.model_sessions.specs.Sessions.{Session, after_render, last_scene}
use Rattle.model_states.specs.Damage.{IsStated}
use Rattle.model_states.specs.Edits.{has_node}
use Rattle.model_states.specs.State.{image_of}
use Rattle.plane_rect.specs.Rectangle.{scaled}
use Rattle.root_tiles.specs.Chains.{ChainState, Leaves}
use Rattle.chain_owners.specs.Cause.{HasSwapCause}
use Rattle.node_cache.specs.Stores.{AddsNoOther}
use Rattle.node_tiles.specs.Stated.{shape_at}
use Rattle.render_workers.specs.Refusals.{CanBeRendered, IsRefusedBy}
use Rattle.render_workers.specs.Requests.{Request, pairs_requested}
use Rattle.render_workers.specs.declared.refused.RenderRefused.TheVariants.{Rect, UnknownNode}
use Rattle.strip_patches.specs.Shown.{Shows, is_patch, picture_box, picture_format}
use Rattle.strip_patches.specs.declared.picture.PictureForm.{PictureForm}
use Rattle.strip_patches.specs.declared.picture.PictureForm.TheVariants as forms
use Rattle.strip_patches.specs.declared.picture.Picture.{Picture}
use Rattle.commit_session.specs.Parts.{Parts, session_names}
use Rattle.commit_session.specs.Refusals.{IsRefusedAs, by_render}
use Rattle.commit_session.specs.Rendering.{HasSameButCache, IsRecached, IsRendered, OnPlanRefused, looked_up_by, names_in_render}
use Rattle.commit_session.specs.Seen.{IsOver, IsSessionOf}
use Rattle.commit_session.specs.declared.refused.SessionRefused.{SessionRefused}
use Rattle.commit_session.specs.declared.refused.SessionRefused.TheVariants.{Render}

-- What a render of the last state gives, as a picture of a form, and what it makes of what a session holds, of its chain and
-- of the permits of its purse: the request is rendered and its pairs are looked up, or the session is as before but for the
-- cached pairs, which are right.
pub record RendersIn {Op X : Type 0} (equal : Op → Op → Bool) (meanings : Meanings Op) (form : PictureForm) (as_picture : X → Picture) (request : Request) (result : Result X SessionRefused) (old new : Parts Op) (before after : ChainState) (old_permits new_permits : ℕ) : Type 0 where
  -- the picture has the rectangle, in the node's format
  pub rect : IfOk result (λ given. picture_box (as_picture given) ≡ request.rect)
  pub format : IfOk result (λ given. picture_format (as_picture given)
      ≡ (shape_at old.graph.latest.nodes (index_of (specs_of old.graph.latest.nodes) request.node)).format)
  -- and the samples of the level of the node's image, where the chain exposes its bytes
  pub image : (held : Session Table Op) → IsSessionOf equal meanings old before.held held → IsSome before.held.content →
      IfOk result (λ given. Shows (level (image_of meanings (last_scene held) request.node) request.at_level) request.rect (as_picture given))
  pub patch : form ≡ forms.Patch → IfOk result (λ given. is_patch (as_picture given) ≡ true)
  -- the request's pairs were looked up and counted
  pub rendered : OnOk result (IsRendered meanings request old new)
  -- and the session of the definitions that is held makes the render
  pub session : (held : Session Table Op) → IsSessionOf equal meanings old before.held held →
      OnOk result (IsSessionOf equal meanings new after.held (after_render meanings old.capacity held request.node request.at_level request.rect))
  -- only what can be rendered is
  pub can : OnOk result (CanBeRendered meanings old.graph.latest.nodes request old.capacity)
  pub stated : IsStated meanings old.graph.latest
  -- without a node of the name, or past the limits, it is refused by these causes
  pub unknown : has_node (specs_of old.graph.latest.nodes) request.node ≡ false → result ≡ Err (Render UnknownNode)
  pub outside : has_node (specs_of old.graph.latest.nodes) request.node ≡ true → scaled request.at_level request.rect ≡ None → result ≡ Err (Render Rect)
  -- it is refused for these, for a strip that needs too many tiles, by the swap, or where memory runs out
  pub cause : IfErr result (IsRefusedAs by_render (IsRefusedBy meanings old.graph.latest.nodes request old.capacity
      (HasSwapCause before.counts after.counts (names_in_render meanings old request before.counts))))
  -- nothing has changed where the plan of the render refuses it
  pub unchanged : IfErr result (OnPlanRefused ((new ≡ old) × (after.held ≡ before.held) × (after.counts ≡ before.counts) × (new_permits ≡ old_permits)))
  -- and else no more than the cached pairs
  pub refused_session : (held : Session Table Op) → IsSessionOf equal meanings old before.held held → OnErr result (IsRecached equal meanings new after.held held)
  pub states : HasSameButCache old new
  pub uncounted : OnErr result ((new.applied ≡ old.applied) × (new.reused ≡ old.reused))
  -- a permit is spent for each tile that is evaluated
  pub permits : MatchResult result
      (λ _. Spent old_permits new_permits (looked_up_by meanings old request).applied)
      (λ _. (new_permits ≤ old_permits) × (old_permits ≤ new_permits + length (pairs_requested meanings old.graph.latest.nodes request)))
  -- the session is over its chain, which has no names more but those of the cached pairs
  pub over : IsOver equal meanings new after.held
  pub other_names : AddsNoOther before.counts after.counts (values_of old.entries) (values_of new.entries)
  pub left : Leaves (length (pairs_requested meanings old.graph.latest.nodes request)) (session_names old) (session_names new) before after
