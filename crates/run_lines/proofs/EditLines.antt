-- Lines that edit the buffers of a session.
use Rattle.std.proofs.Common.{◌≡◌, ◌≢◌, ℕ, ◌+◌, Bool, true, List, Option, Some, None, Result, Ok, Err, is_some, ℤ, FitsSigned, of_z, to_z, w64, refl, sym, ap, ◌∙◌, subst, arith}
use Rattle.std.proofs.lemmas.Int.{to_z-of_z}
use Rattle.buffer_view.specs.Causes.{HasEditCause}
use Rattle.buffer_view.specs.declared.refused.BufferRefused.{BufferRefused}
use Rattle.buffer_view.specs.declared.refused.BufferRefused.TheVariants as buffer_refusals
use Rattle.chain_owners.specs.Counts.{Counts, Grows, IsFullOver, Rose}
use Rattle.chain_owners.specs.Held.{Held}
use Rattle.commit_session.proofs.Working.{edit-number, valid-edited}
use Rattle.commit_session.specs.Parts.{Parts}
use Rattle.commit_session.specs.Refusals.{IsRefusedAs, by_buffers}
use Rattle.commit_session.specs.declared.refused.SessionRefused.{SessionRefused}
use Rattle.commit_session.specs.declared.refused.SessionRefused.TheVariants.{Buffer, NoMemory}
use Rattle.model_buffers.specs.BufferEdit.{IsProperEdit, Refusal, edit_refused}
use Rattle.model_buffers.specs.Counts.{tiles_added}
use Rattle.model_buffers.specs.Edits.{table_with, unless_refused}
use Rattle.model_buffers.specs.Layout.{TableLayout}
use Rattle.model_buffers.specs.Table.{Table, layout_of}
use Rattle.model_buffers.specs.declared.edit.BufferEdit.{BufferEdit}
use Rattle.model_buffers.specs.declared.edit.BufferEdit.TheVariants.{Copy}
use Rattle.model_buffers.specs.declared.refused.EditRefused.{EditRefused}
use Rattle.model_graphs.specs.Laws.{KeepsLaws}
use Rattle.model_operations.specs.Lawful.MeaningLaws.{is_boxed, is_dual, is_local}
use Rattle.model_operations.specs.Lawful.SameLaws.{is_equality}
use Rattle.model_operations.specs.Meanings.{int_meanings, same_operation}
use Rattle.model_operations.specs.declared.operation.IntOp.{IntOp}
use Rattle.model_runs.specs.Effects.{edit_gives, edits}
use Rattle.model_runs.specs.State.{Effect, RunState, in_workspace, workspace_of}
use Rattle.model_runs.specs.declared.ending.End.{End}
use Rattle.model_runs.specs.declared.ending.End.TheVariants as ends
use Rattle.model_sessions.specs.Sessions.{IsSession, Session}
use Rattle.model_sessions.specs.Steps.{EditBuffer, HistoryEdit, IsProper, after_step, with_edit, with_workspace}
use Rattle.model_states.specs.History.{number_of}
use Rattle.outside_io.specs.Files.{Files}
use Rattle.plane_rect.specs.Rectangle.{Rectangle}
use Rattle.root_tiles.specs.Chains.{ChainState}
use Rattle.run_lines.proofs.Carrying.{Exceeds-more, nothing_carried}
use Rattle.run_lines.proofs.Faults.{continues_same, faults_of_swap, only_swap}
use Rattle.run_lines.proofs.Texts.{put_none}
use Rattle.run_lines.specs.Carried.{Exceeds, most_of_line, outcome_of_line}
use Rattle.run_lines.specs.Moments.{HasFaults, Moment}
use Rattle.run_lines.proofs.Bounds.{full_exceeds, names_grow, names_within}
use Rattle.run_lines.specs.Edited.{IsEdited, IsHeld, SessionOver, layout_in, stepped}
use Rattle.run_lines.specs.States.{Holds}
use Rattle.run_lines.specs.Stops.{CarriesOverChain, Did, IsDone, IsEnded, end_of, stop_of}
use Rattle.run_lines.specs.declared.stop.Stop.{Stop}
use Rattle.run_lines.specs.declared.stop.Stop.TheVariants as stops
use Rattle.chain_owners.specs.declared.swap_refused.SwapRefused.TheVariants as swap_refusals

-- ---- sessions

laws : KeepsLaws int_meanings
laws = record { local = is_local; dual = is_dual }

pub step_valid : (capacity : ℕ) (session : Session Table IntOp) (step : HistoryEdit IntOp) → IsSession int_meanings capacity session → IsProper step →
    number_of (after_step int_meanings session.history step) ≡ number_of session.history → IsSession int_meanings capacity (stepped session step)
step_valid capacity session step = valid-edited same_operation int_meanings laws is_boxed is_equality.apart capacity session step

abbrev refusal : SessionRefused → Result (Unit {0}) SessionRefused
refusal refused = Err refused

-- an edit that is refused does nothing else than is said of its refusal
pub refused_edit : (edit : BufferEdit) (refused : SessionRefused) (old new : SessionOver) →
    ((cause : EditRefused) → edit_refused (layout_in old) edit ≡ Some cause → refusal refused ≢ refusal NoMemory → refusal refused ≡ refusal (Buffer (buffer_refusals.Edit cause))) →
    IsRefusedAs by_buffers (HasEditCause (layout_in old) edit old.counts new.counts) refused →
    new.parts.capacity ≡ old.parts.capacity → is_some new.held.content ≡ is_some old.held.content → Grows (tiles_added edit) old.counts new.counts → IsEdited edit (Err refused) old new
refused_edit edit refused old new exact cause capacity content counts = record {
  carried_out = tt;
  session = λ before of. tt;
  exact = exact;
  cause = cause;
  capacity = capacity;
  content = content;
  counts = counts;
}

-- one that is carried out has no cause
pub carried_edit : (edit : BufferEdit) (old new : SessionOver) → edit_refused (layout_in old) edit ≡ None →
    ((before : Session Table IntOp) → IsHeld old.parts old.held before → IsHeld new.parts new.held (stepped before (EditBuffer edit))) →
    new.parts.capacity ≡ old.parts.capacity → is_some new.held.content ≡ is_some old.held.content → Grows (tiles_added edit) old.counts new.counts → IsEdited edit (Ok tt) old new
carried_edit edit old new none session capacity content counts = record {
  carried_out = none;
  session = session;
  exact = λ cause is. absurd (cc);
  cause = tt;
  capacity = capacity;
  content = content;
  counts = counts;
}

-- ---- running out of memory

-- before anything was done
pub out_of_memory : (exposed : Bool) (capacity line : ℕ) (state : RunState) (files : Files) (done : Effect) (now : Moment) (parts : Parts IntOp) (held : Held) →
    Did exposed capacity line state files done (Err (stops.Ended ends.NoMemory)) now now parts held
out_of_memory exposed capacity line state files done now parts held = record {
  other = λ e. cc;
  carried = nothing_carried exposed (outcome_of_line done) _ ends.NoMemory now now (λ e. cc) refl refl (λ e. absurd (cc));
}

pub out_of_memory_faults : (now : Moment) → HasFaults (Err ends.NoMemory) now now
out_of_memory_faults now = faults_of_swap (Err ends.NoMemory) now now refl (λ e. absurd (cc)) (omega arith) (omega arith) (omega arith) (continues_same now.chain now.chain refl)

-- ---- edits

-- the devices, of which a part of a run touches the chain alone
abbrev pub at_chain : Option Files → Option (List ℕ) → ℕ → ℕ → ℕ → Counts → Moment
at_chain files text reads writes puts counts = record { files = files; text = text; reads = reads; writes = writes; puts = puts; chain = counts }

module _ (exposed : Bool) (capacity line : ℕ) (state : RunState) (files : Files) (edit : BufferEdit) (old new : SessionOver) (shelf : Option Files) (text : Option (List ℕ)) (reads writes puts more_reads more_writes more_puts : ℕ)
    (holds : Holds exposed capacity state files old.parts old.held shelf) where
  abbrev before : Moment
  before = at_chain shelf text reads writes puts old.counts

  abbrev after : Moment
  after = at_chain shelf text more_reads more_writes more_puts new.counts

  abbrev working : Table
  working = (workspace_of state).working

  same_refusal : edit_refused (layout_of working) edit ≡ edit_refused (layout_in old) edit
  same_refusal = ap (λ (layout : TableLayout). edit_refused layout edit) holds.session.working.layout

  gives : (r : Refusal) → edit_refused (layout_in old) edit ≡ r → edits line state edit ≡ edit_gives line state edit (unless_refused r (table_with working edit))
  gives r is = ap (λ (r : Refusal). edit_gives line state edit (unless_refused r (table_with working edit))) (same_refusal ∙ is)

  abbrev next : RunState
  next = in_workspace state (with_edit (workspace_of state) edit (Ok (table_with working edit)))

  session_is : edit_refused (layout_in old) edit ≡ None → stepped state.session (EditBuffer edit) ≡ next.session
  session_is none =
      ap (λ (r : Refusal). let s : Session Table IntOp = record state.session { history = with_workspace state.session.history (with_edit (workspace_of state) edit (unless_refused r (table_with working edit))) } in s)
      (same_refusal ∙ none)

  -- an edit that is carried out
  pub edit_done : IsProperEdit edit → IsEdited edit (Ok tt) old new → IsDone exposed capacity state files (edits line state edit) before after new.parts new.held
  edit_done proper is =
      let none = is.carried_out in
      let valid = step_valid capacity state.session (EditBuffer edit) holds.valid proper
      (edit-number same_operation int_meanings laws is_boxed is_equality.apart state.session.history edit (same_refusal ∙ none)) in
      subst (λ (done : Effect). IsDone exposed capacity state files done before after new.parts new.held) (sym (gives None none))
      (record {
        carried = record { refused = refl; whole = λ e whole. refl; texts = λ whole. put_none text; prefix = λ e. refl; texts_prefix = (0, put_none text); full = λ full. absurd (cc) };
        next = record {
          session = subst (IsHeld new.parts new.held) (session_is none) (is.session state.session holds.session);
          valid = subst (IsSession int_meanings capacity) (session_is none) valid;
          applied = holds.applied;
          as_many = is.capacity ∙ holds.as_many;
          unwatched = holds.unwatched;
          content = is.content ∙ holds.content;
          same_lengths = holds.same_lengths;
          same = holds.same;
        };
        names = names_grow (tiles_added edit) state next old.counts new.counts refl is.counts;
      })

  ended : (done : Effect) (end : End) → end ≢ ends.Refused → (end ≡ ends.SwapFull → Exceeds old.counts (most_of_line capacity state old.counts.names done)) →
      IsEnded exposed capacity state done end before after
  ended done end other full = record {
    other = other;
    carried = nothing_carried exposed (outcome_of_line done) (most_of_line capacity state old.counts.names done) end before after other refl refl full;
  }

  -- a swap that the edit's tiles may have filled
  full_at : (r : Refusal) → edit_refused (layout_in old) edit ≡ r → (needed longest : ℕ) →
      IsEdited edit (Err (Buffer (buffer_refusals.Swap (swap_refusals.SwapFull needed longest)))) old new →
      IsFullOver old.counts.used old.counts.capacity (old.counts.names + tiles_added edit) needed longest →
      Exceeds old.counts (most_of_line capacity state old.counts.names (edits line state edit))
  full_at (Some refused) e needed longest is full = absurd (let other = is.exact refused e (λ memory. cc) in cc)
  full_at None e needed longest is full =
      let done = edit_gives line state edit (Ok (table_with working edit)) in
      subst (λ (d : Effect). Exceeds old.counts (most_of_line capacity state old.counts.names d)) (sym (gives None e))
      (Exceeds-more old.counts (old.counts.names + tiles_added edit) (most_of_line capacity state old.counts.names done)
      (names_within exposed capacity state files old.parts old.held shelf holds old.counts.names done refl)
      (full_exceeds old.counts (old.counts.names + tiles_added edit) needed longest full))

  by_lower : (lower : BufferRefused) → HasEditCause (layout_in old) edit old.counts new.counts lower → IsEdited edit (Err (by_buffers lower)) old new →
      Did exposed capacity line state files (edits line state edit) (Err (stop_of (by_buffers lower))) before after new.parts new.held
  by_lower (buffer_refusals.Edit refused) cause is = record { effect = gives (Some refused) cause; files = refl; text = refl }
  by_lower (buffer_refusals.Swap swap_refusals.SwapFault) cause is = ended (edits line state edit) ends.SwapFault (λ e. cc) (λ e. absurd (cc))
  by_lower (buffer_refusals.Swap (swap_refusals.SwapFull needed longest)) cause is =
      ended (edits line state edit) ends.SwapFull (λ e. cc) (λ e. full_at (edit_refused (layout_in old) edit) refl needed longest is cause)
  by_lower (buffer_refusals.Swap swap_refusals.NoMemory) cause is = absurd cause
  by_lower buffer_refusals.NoMemory cause is = ended (edits line state edit) ends.NoMemory (λ e. cc) (λ e. absurd (cc))

  -- an edit that is refused
  pub edit_stopped : (refused : SessionRefused) → IsEdited edit (Err refused) old new →
      Did exposed capacity line state files (edits line state edit) (Err (stop_of refused)) before after new.parts new.held
  edit_stopped refused is =
      let as_buffers = is.cause in
      subst (λ (r : SessionRefused). Did exposed capacity line state files (edits line state edit) (Err (stop_of r)) before after new.parts new.held) (sym as_buffers.is)
      (by_lower as_buffers.lower as_buffers.by_cause (subst (λ (r : SessionRefused). IsEdited edit (Err r) old new) as_buffers.is is))

-- ---- I/O errors

module _ (edit : BufferEdit) (old new : SessionOver) (shelf : Option Files) (text : Option (List ℕ)) (reads writes puts : ℕ) where
  abbrev first : Moment
  first = at_chain shelf text reads writes puts old.counts

  abbrev last : Moment
  last = at_chain shelf text reads writes puts new.counts

  ends_by : (end : End) → only_swap (Err end) ≡ true → (end ≡ ends.SwapFault → Rose old.counts.faults new.counts.faults) → Grows (tiles_added edit) old.counts new.counts → HasFaults (Err end) first last
  ends_by end only swap grows = faults_of_swap (Err end) first last only (λ e. swap (cc)) (omega arith) (omega arith) (omega arith) grows.continues

  lower_faults : (lower : BufferRefused) → HasEditCause (layout_in old) edit old.counts new.counts lower → Grows (tiles_added edit) old.counts new.counts →
      HasFaults (end_of {A = Unit {0}} (Err (stop_of (by_buffers lower)))) first last
  lower_faults (buffer_refusals.Edit refused) cause grows = ends_by ends.Refused refl (λ e. absurd (cc)) grows
  lower_faults (buffer_refusals.Swap swap_refusals.SwapFault) cause grows = ends_by ends.SwapFault refl (λ e. cause) grows
  lower_faults (buffer_refusals.Swap (swap_refusals.SwapFull needed longest)) cause grows = ends_by ends.SwapFull refl (λ e. absurd (cc)) grows
  lower_faults (buffer_refusals.Swap swap_refusals.NoMemory) cause grows = absurd cause
  lower_faults buffer_refusals.NoMemory cause grows = ends_by ends.NoMemory refl (λ e. absurd (cc)) grows

  pub stopped_faults : (refused : SessionRefused) → IsEdited edit (Err refused) old new → HasFaults (end_of {A = Unit {0}} (Err (stop_of refused))) first last
  stopped_faults refused is =
      subst (λ (r : SessionRefused). HasFaults (end_of {A = Unit {0}} (Err (stop_of r))) first last) (sym is.cause.is) (lower_faults is.cause.lower is.cause.by_cause is.counts)

-- ---- copies

-- a copy by the moves that it was handed, which are passed on as bits
pub copy_passed : (from to : List ℕ) (r : Rectangle) (dx dy : ℤ) (result : Result (Unit {0}) Stop) (old new : Parts IntOp) (before after : ChainState) → FitsSigned w64 dx → FitsSigned w64 dy →
    CarriesOverChain (λ line state. edits line state (Copy from to r (to_z w64 (of_z w64 dx)) (to_z w64 (of_z w64 dy)))) result old new before after →
    CarriesOverChain (λ line state. edits line state (Copy from to r dx dy)) result old new before after
copy_passed from to r dx dy result old new before after dx_fits dy_fits carried =
    subst (λ (x : ℤ). CarriesOverChain (λ line state. edits line state (Copy from to r x dy)) result old new before after) (to_z-of_z w64 dx dx_fits)
    (subst (λ (y : ℤ). CarriesOverChain (λ line state. edits line state (Copy from to r (to_z w64 (of_z w64 dx)) y)) result old new before after) (to_z-of_z w64 dy dy_fits) carried)
