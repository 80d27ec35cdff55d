-- Lines that commit, undo or redo.
use Rattle.std.proofs.Common.{◌≡◌, ℕ, ◌≤◌, Bool, true, false, not, cond, length, List, Option, Result, Ok, Err, IfOk, IsSomeAnd, is_some, refl, sym, ap, ◌∙◌, subst, arith}
use Rattle.std.specs.Prelude.{◌==◌}
use Rattle.std.specs.Map.{values_of}
use Rattle.std.specs.Result.{IsErrAnd, result_unwrap_or}
use Rattle.std.proofs.lemmas.Bool.Decides.{nat_tests}
use Rattle.chain_owners.specs.Counts.{Continues, Counts, Grows}
use Rattle.chain_owners.specs.Held.{Held}
use Rattle.commit_session.specs.Parts.{Parts, session_names}
use Rattle.commit_session.specs.Refusals.{IsRefusedAs, by_graph}
use Rattle.commit_session.specs.Seen.{IsOver, IsSessionOf}
use Rattle.commit_session.specs.Steps.{LeadsTo, history_step, step_action}
use Rattle.commit_session.specs.declared.refused.SessionRefused.{SessionRefused}
use Rattle.graph_edits.specs.Refusals.{IsRefusalOf}
use Rattle.graph_edits.specs.declared.refused.GraphRefused.{GraphRefused}
use Rattle.graph_edits.specs.declared.refused.GraphRefused.TheVariants as graph_refusals
use Rattle.model_buffers.specs.Table.{Table}
use Rattle.model_operations.specs.Lawful.MeaningLaws.{is_boxed, is_dual, is_local}
use Rattle.model_operations.specs.Lawful.SameLaws.{is_equality}
use Rattle.model_operations.specs.Meanings.{int_meanings, same_operation}
use Rattle.model_operations.specs.declared.operation.IntOp.{IntOp}
use Rattle.model_runs.specs.Effects.{step_gives}
use Rattle.model_runs.specs.State.{RunState, leaves}
use Rattle.model_runs.specs.declared.ending.End.{End}
use Rattle.model_runs.specs.declared.ending.End.TheVariants as ends
use Rattle.model_sessions.proofs.Actions.{action_keeps}
use Rattle.model_sessions.specs.Histories.{change_to}
use Rattle.model_sessions.specs.Sessions.{IsSession, Make, Session, with_history, with_state}
use Rattle.model_sessions.specs.Steps.{Commit, HistoryEdit, IsProper, after_step}
use Rattle.model_sessions.specs.Tables.{table_shapes}
use Rattle.model_states.proofs.HistoryLaws.{commit_appends, redo_appends, undo_appends}
use Rattle.model_states.specs.Cache.{Cached}
use Rattle.model_states.specs.Damage.{damage}
use Rattle.model_states.specs.History.{Appends, History, committed, number_of}
use Rattle.plane_rect.specs.Tile.{meets}
use Rattle.model_states.specs.declared.direction.Direction.{Direction}
use Rattle.model_states.specs.declared.direction.Direction.TheVariants as directions
use Rattle.model_states.specs.declared.refused.StateRefused.{StateRefused}
use Rattle.node_cache.specs.Stores.{AddsNoOther}
use Rattle.outside_io.specs.Files.{Files}
use Rattle.root_tiles.specs.Chains.{ChainState, Leaves}
use Rattle.run_lines.proofs.Carrying.{nothing_carried}
use Rattle.run_lines.proofs.Faults.{chain_faults, faults_of_swap, only_swap}
use Rattle.run_lines.proofs.Texts.{put_none}
use Rattle.run_lines.specs.Carried.{HasNames, most_of_line, outcome_of_line}
use Rattle.run_lines.specs.Moments.{HasFaults, Moment, world_at}
use Rattle.run_lines.proofs.CachedNames.{names-fall}
use Rattle.run_lines.proofs.LookingUp.{filter-fewer}
use Rattle.run_lines.proofs.Stopping.{same_stop, same_stop_faults}
use Rattle.run_lines.specs.States.{HaveSameLengths, Holds}
use Rattle.run_lines.specs.Stops.{CarriesCommand, Did, IsDone, RunPoint, end_of, point_over, stop_of}
use Rattle.run_lines.specs.declared.stop.Stop.{Stop}

-- ---- steps of histories

-- A step that appends a state where it isn't refused.
pub record IsStep (history : History Table IntOp) (step : HistoryEdit IntOp) (gives : Result (History Table IntOp) StateRefused) : Type 0 where
  pub proper : IsProper step
  pub after : after_step int_meanings history step ≡ result_unwrap_or gives history
  pub appends : IfOk gives (Appends history)

pub commit-step : (history : History Table IntOp) → IsStep history Commit (committed int_meanings table_shapes history)
commit-step history = record { proper = tt; after = refl; appends = commit_appends int_meanings table_shapes history }

pub direction-step : (direction : Direction) (history : History Table IntOp) → IsStep history (step_action direction) (history_step direction history)
direction-step directions.Undo history = record { proper = tt; after = refl; appends = undo_appends history }
direction-step directions.Redo history = record { proper = tt; after = refl; appends = redo_appends history }

-- the session after a step is valid
step-valid : (capacity : ℕ) (session : Session Table IntOp) (step : HistoryEdit IntOp) (next : History Table IntOp) → IsStep session.history step (Ok next) → IsSession int_meanings capacity session →
    IsSession int_meanings capacity (with_state same_operation int_meanings session next)
step-valid capacity session step next is valid =
    by (number_of next == number_of session.history) refl
    (subst (λ (h : History Table IntOp). IsSession int_meanings capacity (with_history same_operation int_meanings session h)) is.after
    (action_keeps same_operation int_meanings (record { local = is_local; dual = is_dual }) is_boxed is_equality.apart capacity session (Make step) valid is.proper))
  where
    by : (b : Bool) → (number_of next == number_of session.history) ≡ b →
        IsSession int_meanings capacity (cond b (record session { history = next }) (with_state same_operation int_meanings session next)) → IsSession int_meanings capacity (with_state same_operation int_meanings session next)
    by true e kept =
        let equal : number_of next ≡ number_of session.history = grind (arith, nat_tests, e) in
        absurd (omega (arith, is.appends.number, equal))
    by false e kept = kept

-- ---- lines without events

-- nothing came out of a line that leaves a state
pub quiet : (exposed : Bool) (capacity line : ℕ) (state next : RunState) (files : Files) (old new : Moment) (parts : Parts IntOp) (held : Held) → new.files ≡ old.files → new.text ≡ old.text →
    Holds exposed capacity next files parts held new.files → HasNames 0 state next old.chain new.chain → IsDone exposed capacity state files (leaves line next) old new parts held
quiet exposed capacity line state next files old new parts held same_files same_text holds names =
    let same : world_at new ≡ world_at old = cc in
    record {
      carried = record {
        refused = refl;
        whole = λ e whole. same;
        texts = λ whole. same_text ∙ put_none old.text;
        prefix = λ e. same;
        texts_prefix = (0, same_text ∙ put_none old.text);
        full = λ full. absurd (cc);
      };
      next = holds;
      names = names;
    }

-- ---- steps

-- What a step did that isn't refused.
pub record IsStepped (gives : Result (History Table IntOp) StateRefused) (session : Session Table IntOp) (old new : Parts IntOp) (held later : Held) (before after : Counts) : Type 0 where
  pub leads : LeadsTo gives (λ next. IsSessionOf same_operation int_meanings new later (with_state same_operation int_meanings session next))
  pub capacity : new.capacity ≡ old.capacity
  pub content : is_some later.content ≡ is_some held.content
  pub counts : Grows 0 before after
  pub others : AddsNoOther before after (values_of old.entries) (values_of new.entries)

module _ (exposed : Bool) (capacity line : ℕ) (state : RunState) (files : Files) (old new : Parts IntOp) (held later : Held) (before after : Moment)
    (holds : Holds exposed capacity state files old held before.files) (files_same : after.files ≡ before.files) (text_same : after.text ≡ before.text) where
  stepped : (step : HistoryEdit IntOp) (next : History Table IntOp) → IsStep state.session.history step (Ok next) → IsStepped (Ok next) state.session old new held later before.chain after.chain →
      IsDone exposed capacity state files (step_gives line state (Ok next)) before after new later
  stepped step next is did =
      let session = with_state same_operation int_meanings state.session next in
      let kept : Cached → Bool = λ (c : Cached). not (meets c.pair.tile (damage same_operation int_meanings (change_to int_meanings state.session.history next) c.pair.node)) in
      let then : RunState = record state { session = session } in
      let fewer : length session.cached.list ≤ length state.session.cached.list = filter-fewer kept state.session.cached.list in
      quiet exposed capacity line state then files before after new later files_same text_same
      (record {
        session = did.leads;
        valid = step-valid capacity state.session step next is holds.valid;
        applied = omega (arith, fewer, holds.applied);
        as_many = did.capacity ∙ holds.as_many;
        unwatched = holds.unwatched;
        content = did.content ∙ holds.content;
        same_lengths = subst (λ (o : Option Files). IsSomeAnd o (HaveSameLengths files)) (sym files_same) holds.same_lengths;
        same = λ e. files_same ∙ holds.same e;
      })
      (names-fall state then before.chain after.chain old new held later did.counts.continues did.others holds.session.cached did.leads.cached)

  -- a step that isn't refused
  pub step-done : (step : HistoryEdit IntOp) (gives : Result (History Table IntOp) StateRefused) → IsStep state.session.history step gives → IsStepped gives state.session old new held later before.chain after.chain →
      IsDone exposed capacity state files (step_gives line state gives) before after new later
  step-done step (Ok next) is did = stepped step next is did
  step-done step (Err refused) is did = absurd did.leads

  by-lower : (gives : Result (History Table IntOp) StateRefused) (lower : GraphRefused) → IsRefusalOf gives lower →
      Did exposed capacity line state files (step_gives line state gives) (Err (stop_of (by_graph lower))) before after new later
  by-lower gives (graph_refusals.State refused) cause = record { effect = ap (step_gives line state) cause; files = files_same; text = text_same }
  by-lower gives graph_refusals.NoMemory cause = record {
    other = λ e. cc;
    carried = nothing_carried exposed (outcome_of_line (step_gives line state gives)) (most_of_line capacity state before.chain.names (step_gives line state gives)) ends.NoMemory before after (λ e. cc) files_same text_same (λ e. absurd (cc));
  }

  -- a step that is refused
  pub step-stopped : (gives : Result (History Table IntOp) StateRefused) (refused : SessionRefused) → IsRefusedAs by_graph (IsRefusalOf gives) refused →
      Did exposed capacity line state files (step_gives line state gives) (Err (stop_of refused)) before after new later
  step-stopped gives refused cause =
      subst (λ (r : SessionRefused). Did exposed capacity line state files (step_gives line state gives) (Err (stop_of r)) before after new later) (sym cause.is)
      (by-lower gives cause.lower cause.by_cause)

-- ---- lines of steps

-- a refusal by the graph is no I/O error
step-faults : (refused : SessionRefused) (cause : GraphRefused → Type 0) (old new : Moment) → IsRefusedAs by_graph cause refused → new.reads ≡ old.reads → new.writes ≡ old.writes → new.puts ≡ old.puts →
    Continues old.chain new.chain → HasFaults (end_of {A = Unit {0}} (Err (stop_of refused))) old new
step-faults refused cause old new is reads writes puts continues =
    subst (λ (s : SessionRefused). HasFaults (end_of {A = Unit {0}} (Err (stop_of s))) old new) (sym is.is) (by is.lower)
  where
    at : (end : End) → only_swap (Err end) ≡ true → (end ≡ ends.SwapFault → ⊥) → HasFaults (Err end) old new
    at end only other = faults_of_swap (Err end) old new only (λ e. absurd (other (cc))) (omega (arith, reads)) (omega (arith, writes)) (omega (arith, puts)) continues

    by : (lower : GraphRefused) → HasFaults (end_of {A = Unit {0}} (Err (stop_of (by_graph lower)))) old new
    by (graph_refusals.State refused) = at ends.Refused refl (λ e. cc)
    by graph_refusals.NoMemory = at ends.NoMemory refl (λ e. cc)

-- a step by what it gives of a history
module _ (line : ℕ) (gives : History Table IntOp → Result (History Table IntOp) StateRefused) (old new : Parts IntOp) (s0 s1 : ChainState)
    (over : IsOver same_operation int_meanings new s1.held) (left : Leaves 0 (session_names old) (session_names new) s0 s1)
    (shelf : Option Files) (text : Option (List ℕ)) (reads writes puts : ℕ) where
  abbrev first : RunPoint
  first = point_over shelf text reads writes puts old s0

  abbrev last : RunPoint
  last = point_over shelf text reads writes puts new s1

  abbrev Carried : Result (Unit {0}) Stop → Type 0
  Carried result = CarriesCommand line (λ capacity state files. step_gives line state (gives state.session.history)) result first last

  pub step-carried : (step : HistoryEdit IntOp) → ((history : History Table IntOp) → IsStep history step (gives history)) →
      ((session : Session Table IntOp) → IsSessionOf same_operation int_meanings old s0.held session →
      LeadsTo (gives session.history) (λ next. IsSessionOf same_operation int_meanings new s1.held (with_state same_operation int_meanings session next))) →
      new.capacity ≡ old.capacity → AddsNoOther s0.counts s1.counts (values_of old.entries) (values_of new.entries) → Carried (Ok tt)
  step-carried step steps leads same_capacity others = record {
    did = λ exposed capacity state files holds.
        step-done exposed capacity line state files old new s0.held s1.held first.moment last.moment holds refl refl step (gives state.session.history) (steps state.session.history)
        (record { leads = leads state.session holds.session; capacity = same_capacity; content = left.others.exposed; counts = left.counts; others = others });
    faults = chain_faults first.moment last.moment refl refl refl left.counts.continues;
    over = over;
    loans = left.loans;
    valid = left.valid;
  }

  pub step-refused : (refused : SessionRefused) (cause : GraphRefused → Type 0) → IsRefusedAs by_graph cause refused →
      ((session : Session Table IntOp) → IsSessionOf same_operation int_meanings old s0.held session → IsRefusedAs by_graph (IsRefusalOf (gives session.history)) refused) →
      (result : Result (Unit {0}) Stop) → IsErrAnd result (λ other. other ≡ stop_of refused) → Carried result
  step-refused refused cause why refused_session result same =
      let stopped : Result (Unit {0}) Stop = Err (stop_of refused) in
      record {
        did = λ exposed capacity state files holds.
            same_stop exposed capacity line state files _ (stop_of refused) result first.moment last.moment new s1.held same
            (step-stopped exposed capacity line state files old new s0.held s1.held first.moment last.moment holds refl refl (gives state.session.history) refused (refused_session state.session holds.session));
        faults = same_stop_faults stopped (stop_of refused) result first.moment last.moment refl same (step-faults refused cause first.moment last.moment why refl refl refl left.counts.continues);
        over = over;
        loans = left.loans;
        valid = left.valid;
      }
