-- Rasters of the same length, put into a session whose chain doesn't expose its bytes.
use Rattle.std.proofs.Common.{◌≡◌, ℕ, ◌==◌, Bool, true, false, IsTrue, List, length, Option, Some, None, Result, Ok, Err, IfSome, is_some, refl, sym, ap, ◌∙◌, subst}
use Rattle.std.specs.Option.{option_map}
use Rattle.buffer_view.specs.Causes.{HasEditCause}
use Rattle.buffer_view.specs.declared.refused.BufferRefused.{BufferRefused}
use Rattle.buffer_view.specs.declared.refused.BufferRefused.TheVariants as buffer_refusals
use Rattle.chain_owners.specs.declared.swap_refused.SwapRefused.TheVariants as swap_refusals
use Rattle.chain_owners.specs.Counts.{Counts}
use Rattle.chain_owners.specs.Held.{Held}
use Rattle.commit_session.specs.Parts.{Parts}
use Rattle.commit_session.specs.declared.refused.SessionRefused.{SessionRefused}
use Rattle.model_buffers.proofs.ShapeLaws.{layout-with}
use Rattle.model_buffers.specs.BufferEdit.{Refusal, edit_refused, if_known, unless, written_by}
use Rattle.model_buffers.specs.Edits.{table_with, unless_refused}
use Rattle.model_buffers.specs.Layout.{TableLayout, find, view_shape}
use Rattle.model_buffers.specs.Table.{Table, layout_of}
use Rattle.model_buffers.specs.declared.edit.BufferEdit.TheVariants.{Put}
use Rattle.model_buffers.specs.declared.refused.EditRefused.TheVariants.{OutOfBounds, WrongSize}
use Rattle.model_images.specs.FromRaw.{byte_count}
use Rattle.model_operations.specs.declared.operation.IntOp.{IntOp}
use Rattle.model_sessions.specs.Sessions.{Session}
use Rattle.model_sessions.specs.Steps.{EditBuffer, with_edit, with_working, with_workspace}
use Rattle.plane_rect.specs.Rectangle.{Rectangle, includes}
use Rattle.run_lines.specs.Edited.{IsEdited, IsHeld, SessionOver, layout_in, stepped}

-- ---- working tables of one layout

-- what isn't exposed is any table
unexposed : {X : Type 0} (content : Option X) (table : X → Table) (P : Table → Type 0) → is_some content ≡ false → IfSome (option_map table content) P
unexposed None table P none = tt
unexposed (Some x) table P none = absurd (cc)

module _ (parts : Parts IntOp) (held : Held) (session : Session Table IntOp) (none : is_some held.content ≡ false) where
  -- the session with another working table, and what was written to it
  abbrev working_on : Table → Option (List ℕ × Rectangle) → Session Table IntOp
  working_on table written = record session { history = with_workspace session.history (with_working session.history.workspace table written) }

  held_alike : (a b : Table) (written : Option (List ℕ × Rectangle)) → layout_of a ≡ layout_of b → IsHeld parts held (working_on a written) → IsHeld parts held (working_on b written)
  held_alike a b None same is = record {
    working = record { layout = sym same ∙ is.working.layout; images = unexposed held.content _ _ none };
    pending = is.pending;
    written = is.written;
    retained = is.retained;
    cached = is.cached;
    applied = is.applied;
    reused = is.reused;
  }
  held_alike a b (Some entry) same is = record {
    working = record { layout = sym same ∙ is.working.layout; images = unexposed held.content _ _ none };
    pending = is.pending;
    written = is.written;
    retained = is.retained;
    cached = is.cached;
    applied = is.applied;
    reused = is.reused;
  }

-- ---- rasters of one length

abbrev put_refusal : TableLayout → List ℕ → Rectangle → ℕ → Refusal
put_refusal layout name r count =
    if_known (find layout.buffers name) (λ view.
    let shape = view_shape layout view in
    let wanted = byte_count r shape.format in
    unless (includes shape.box r) OutOfBounds (unless (count == wanted) (WrongSize count wanted) None))

module _ (name : List ℕ) (r : Rectangle) (a b : List ℕ) (same : length a ≡ length b) where
  refusals_alike : (layout : TableLayout) → edit_refused layout (Put name r a) ≡ edit_refused layout (Put name r b)
  refusals_alike layout = ap (put_refusal layout name r) same

  causes_alike : (layout : TableLayout) (old new : Counts) (lower : BufferRefused) → HasEditCause layout (Put name r a) old new lower → HasEditCause layout (Put name r b) old new lower
  causes_alike layout old new (buffer_refusals.Edit cause) is = sym (refusals_alike layout) ∙ is
  causes_alike layout old new (buffer_refusals.Swap swap_refusals.SwapFault) is = is
  causes_alike layout old new (buffer_refusals.Swap (swap_refusals.SwapFull needed longest)) is = is
  causes_alike layout old new (buffer_refusals.Swap swap_refusals.NoMemory) is = absurd is
  causes_alike layout old new buffer_refusals.NoMemory is = tt

  -- the session after a raster that isn't refused
  put_stepped : (session : Session Table IntOp) (bytes : List ℕ) → edit_refused (layout_of session.history.workspace.working) (Put name r bytes) ≡ None →
      (let table = session.history.workspace.working in
      let after : Session Table IntOp = record session { history = with_workspace session.history (with_working session.history.workspace (table_with table (Put name r bytes)) (written_by (layout_of table) (Put name r bytes))) } in
      stepped session (EditBuffer (Put name r bytes)) ≡ after)
  put_stepped session bytes none =
      let workspace = session.history.workspace in
      ap (λ (refusal : Refusal). let s : Session Table IntOp = record session { history = with_workspace session.history (with_edit workspace (Put name r bytes) (unless_refused refusal (table_with workspace.working (Put name r bytes)))) } in s) none

  stepped_alike : (parts : Parts IntOp) (held : Held) (session : Session Table IntOp) (layout : TableLayout) → layout_of session.history.workspace.working ≡ layout →
      is_some held.content ≡ false → edit_refused layout (Put name r a) ≡ None →
      IsHeld parts held (stepped session (EditBuffer (Put name r a))) → IsHeld parts held (stepped session (EditBuffer (Put name r b)))
  stepped_alike parts held session layout of none carried_out is =
      let table = session.history.workspace.working in
      let first : edit_refused (layout_of table) (Put name r a) ≡ None = ap (λ (l : TableLayout). edit_refused l (Put name r a)) of ∙ carried_out in
      let second : edit_refused (layout_of table) (Put name r b) ≡ None = sym (refusals_alike (layout_of table)) ∙ first in
      subst (IsHeld parts held) (sym (put_stepped session b second))
      (held_alike parts held session none (table_with table (Put name r a)) (table_with table (Put name r b)) (written_by (layout_of table) (Put name r b))
      (layout-with table (Put name r a) ∙ sym (layout-with table (Put name r b)))
      (subst (IsHeld parts held) (put_stepped session a first) is))

  -- What is done by raw bytes is done by others of the same length, which are the same where the chain exposes its bytes.
  pub put_alike : (exposed : Bool) (result : Result (Unit {0}) SessionRefused) (old new : SessionOver) → (IsTrue exposed → a ≡ b) → is_some old.held.content ≡ exposed →
      IsEdited (Put name r a) result old new → IsEdited (Put name r b) result old new
  put_alike true result old new equal content is = subst (λ (bytes : List ℕ). IsEdited (Put name r bytes) result old new) (equal refl) is
  put_alike false (Ok done) old new equal content is = record {
    carried_out = sym (refusals_alike (layout_in old)) ∙ is.carried_out;
    session = λ before of. stepped_alike new.parts new.held before (layout_in old) of.working.layout (is.content ∙ content) is.carried_out (is.session before of);
    exact = λ refused e other. is.exact refused (refusals_alike (layout_in old) ∙ e) other;
    cause = tt;
    capacity = is.capacity;
    content = is.content;
    counts = is.counts;
  }
  put_alike false (Err refused) old new equal content is = record {
    carried_out = tt;
    session = λ before of. tt;
    exact = λ cause e other. is.exact cause (refusals_alike (layout_in old) ∙ e) other;
    cause = record { lower = is.cause.lower; is = is.cause.is; by_cause = causes_alike (layout_in old) old.counts new.counts is.cause.lower is.cause.by_cause };
    capacity = is.capacity;
    content = is.content;
    counts = is.counts;
  }
