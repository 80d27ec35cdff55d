-- Lines that load a file into a buffer.
use Rattle.std.proofs.Common.{◌≡◌, ◌≢◌, ℕ, ◌==◌, Bool, true, false, IsTrue, cond, List, length, Option, Some, None, Result, Ok, Err, IsSomeAnd, IfSome, ◌⊎◌, inl, inr, refl, sym, ap, ◌∙◌, subst, arith}
use Rattle.std.specs.Option.{option_map}
use Rattle.std.proofs.lemmas.Bool.Decides.{nat_tests}
use Rattle.chain_owners.specs.Held.{Held}
use Rattle.commit_session.specs.Parts.{Parts, working_facts}
use Rattle.commit_session.specs.declared.refused.SessionRefused.{SessionRefused}
use Rattle.model_buffers.proofs.FactLaws.{fact-found}
use Rattle.model_buffers.specs.BufferEdit.{Refusal, if_known, put_refused, unless}
use Rattle.model_buffers.specs.Edits.{table_with, unless_refused}
use Rattle.model_buffers.specs.Layout.{TableLayout, View, fact_in, find, view_shape}
use Rattle.model_buffers.specs.Table.{Table, layout_of}
use Rattle.model_buffers.specs.declared.edit.BufferEdit.TheVariants.{Put}
use Rattle.model_buffers.specs.declared.refused.EditRefused.TheVariants.{OutOfBounds, WrongSize}
use Rattle.model_graphs.specs.Facts.{fact_of}
use Rattle.model_graphs.specs.Shapes.{Shape}
use Rattle.model_graphs.specs.declared.buffer.BufferFact.{BufferFact}
use Rattle.model_images.specs.FromRaw.{byte_count}
use Rattle.model_operations.specs.declared.operation.IntOp.{IntOp}
use Rattle.model_runs.specs.Effects.{edit_gives, edits, load_into, loads}
use Rattle.model_runs.specs.State.{Effect, RunState, refuses, workspace_of}
use Rattle.model_runs.specs.declared.ending.End.{End}
use Rattle.model_runs.specs.declared.ending.End.TheVariants as ends
use Rattle.outside_io.specs.Files.{Files, file}
use Rattle.pixel_formats.specs.declared.format.Format.{Format}
use Rattle.plane_rect.specs.Rectangle.{Rectangle, includes}
use Rattle.run_lines.proofs.Carrying.{nothing_carried}
use Rattle.run_lines.specs.Moments.{Moment}
use Rattle.run_lines.proofs.EditLines.{at_chain, edit_done, edit_stopped}
use Rattle.run_lines.proofs.LoadBands.{IsLoad}
use Rattle.run_lines.proofs.Puts.{put_alike}
use Rattle.run_lines.specs.Edited.{IsEdited, SessionOver}
use Rattle.run_lines.specs.Rasters.{IsNoRaster, IsTarget, IsUnread}
use Rattle.run_lines.specs.States.{HaveSameLengths, Holds}
use Rattle.run_lines.specs.Stops.{Did, IsDone, IsEnded, stop_of}
use Rattle.run_lines.specs.declared.stop.Stop.{Stop}
use Rattle.run_lines.specs.declared.stop.Stop.TheVariants as stops
use Rattle.model_runs.specs.declared.cause.Cause.{Cause}
use Rattle.model_runs.specs.declared.cause.Cause.TheVariants as causes

-- ---- how many bytes a raster has

unequal : (a b : ℕ) → a ≢ b → (a == b) ≡ false
unequal a b apart =
    elim (a == b) as (λ t. (a == b) ≡ t → t ≡ false) [
      | true ↦ λ same. absurd (apart (grind (arith, nat_tests, same)))
      | false ↦ λ _. refl
    ] refl

-- ---- files of the same length

-- a file that is there, in files of the same lengths
there_as_long : (a b : Option (List ℕ)) (bytes : List ℕ) → option_map length a ≡ option_map length b → b ≡ Some bytes → (planned : List ℕ) × (a ≡ Some planned) × (length planned ≡ length bytes)
there_as_long (Some planned) b bytes same is = (planned, refl, (let there : option_map length b ≡ Some (length bytes) = ap (option_map length) is in cc))
there_as_long None b bytes same is = absurd (let there : option_map length b ≡ Some (length bytes) = ap (option_map length) is in cc)

absent_alike : (a b : Option (List ℕ)) → option_map length a ≡ option_map length b → b ≡ None → a ≡ None
absent_alike None b same is = refl
absent_alike (Some planned) b same is = absurd (let none : option_map length b ≡ None = ap (option_map length) is in cc)

-- ---- the buffer

-- what is known of a buffer
pub known_fact : (r : Rectangle) (format : Format) (known : Option BufferFact) → IsSomeAnd known (IsTarget r format) → (fact : BufferFact) × (known ≡ Some fact) × IsTarget r format fact
known_fact r format None target = absurd target
known_fact r format (Some fact) target = (fact, refl, target)

-- ---- refusals before a byte is put

module _ (exposed : Bool) (capacity line : ℕ) (state : RunState) (files : Files) (parts : Parts IntOp) (held : Held) (shelf : Option Files) (name : List ℕ) (r : Rectangle)
    (holds : Holds exposed capacity state files parts held shelf) where
  abbrev working : Table
  working = (workspace_of state).working

  abbrev layout : TableLayout
  layout = parts.versions.working.layout

  abbrev facts : Option BufferFact
  facts = fact_of (working_facts parts) name

  view_found : find working.buffers name ≡ find layout.buffers name
  view_found = ap (λ (l : TableLayout). find l.buffers name) holds.session.working.layout

  -- a fact of the buffers, and the view of the state
  view_of : (view : Option View) (fact : BufferFact) → find layout.buffers name ≡ view → facts ≡ Some fact →
      (v : View) × (find working.buffers name ≡ Some v) × (fact ≡ fact_in layout name v)
  view_of None fact found is = absurd (let none : facts ≡ None = fact-found layout name ∙ ap (option_map (fact_in layout name)) found in cc)
  view_of (Some v) fact found is = (v, view_found ∙ found, (let there : facts ≡ Some (fact_in layout name v) = fact-found layout name ∙ ap (option_map (fact_in layout name)) found in cc))

  no_view : (view : Option View) → find layout.buffers name ≡ view → facts ≡ None → find working.buffers name ≡ None
  no_view None found none = view_found ∙ found
  no_view (Some v) found none = absurd (let there : facts ≡ Some (fact_in layout name v) = fact-found layout name ∙ ap (option_map (fact_in layout name)) found in cc)

  into_unknown : (found : Option (List ℕ)) → load_into line state name r found None ≡ refuses line state causes.UnknownBuffer
  into_unknown None = refl
  into_unknown (Some bytes) = refl

  pub load_unknown : (source : List ℕ) → facts ≡ None → loads line state name r (file files source) ≡ refuses line state causes.UnknownBuffer
  load_unknown source none = ap (load_into line state name r (file files source)) (no_view (find layout.buffers name) refl none) ∙ into_unknown (file files source)

  -- why a raster is refused at a buffer that is there
  refused_there : (bytes : List ℕ) (v : View) → find working.buffers name ≡ Some v → (refusal : Refusal) → put_refused (view_shape (layout_of working) v) r bytes ≡ refusal →
      loads line state name r (Some bytes) ≡ edit_gives line state (Put name r bytes) (unless_refused refusal (table_with working (Put name r bytes)))
  refused_there bytes v there refusal is =
      ap (load_into line state name r (Some bytes)) there
      ∙ ap (λ (o : Option View). edit_gives line state (Put name r bytes) (unless_refused (if_known o (λ view. put_refused (view_shape (layout_of working) view) r bytes)) (table_with working (Put name r bytes)))) there
      ∙ ap (λ (o : Refusal). edit_gives line state (Put name r bytes) (unless_refused o (table_with working (Put name r bytes)))) is

  shape_there : (v : View) → view_shape (layout_of working) v ≡ view_shape layout v
  shape_there v = ap (λ (l : TableLayout). view_shape l v) holds.session.working.layout

  out_of_bounds : (found : Option (List ℕ)) (v : View) → find working.buffers name ≡ Some v → includes v.extent r ≡ false → loads line state name r found ≡ refuses line state causes.OutOfBounds
  out_of_bounds None v there out =
      ap (load_into line state name r None) there ∙ ap (λ b. refuses line state (cond b causes.Absent causes.OutOfBounds)) out
  out_of_bounds (Some bytes) v there out =
      let shape = view_shape (layout_of working) v in
      let wanted = byte_count r shape.format in
      refused_there bytes v there (Some OutOfBounds) (ap (λ b. unless b OutOfBounds (unless (length bytes == wanted) (WrongSize (length bytes) wanted) None)) out)

  pub load_out_of_bounds : (source : List ℕ) (fact : BufferFact) → facts ≡ Some fact → includes fact.bounds r ≡ false →
      loads line state name r (file files source) ≡ refuses line state causes.OutOfBounds
  load_out_of_bounds source fact is out =
      let there = view_of (find layout.buffers name) fact refl is in
      out_of_bounds (file files source) there.0 there.1 (ap (λ (f : BufferFact). includes f.bounds r) (sym there.2) ∙ out)

  -- a raster that is not there, or is too short or too long
  missing : (found : Option (List ℕ)) (fact : BufferFact) (cause : Cause) (actual : Option (List ℕ)) → facts ≡ Some fact → includes fact.bounds r ≡ true →
      option_map length found ≡ option_map length actual → IsNoRaster actual (byte_count r fact.format) cause → loads line state name r found ≡ refuses line state cause
  missing found fact cause actual is inside same (inl none) =
      let there = view_of (find layout.buffers name) fact refl is in
      let within : includes there.0.extent r ≡ true = ap (λ (f : BufferFact). includes f.bounds r) (sym there.2) ∙ inside in
      ap (loads line state name r) (absent_alike found actual same none.1)
      ∙ ap (load_into line state name r None) there.1 ∙ ap (λ b. refuses line state (cond b causes.Absent causes.OutOfBounds)) within ∙ ap (refuses line state) (sym none.0)
  missing found fact cause actual is inside same (inr (wrong, long)) =
      let there = view_of (find layout.buffers name) fact refl is in
      let planned = there_as_long found actual long.0 same long.1 in
      let bytes = planned.0 in
      let shape = view_shape (layout_of working) there.0 in
      let wanted = byte_count r shape.format in
      let within : includes shape.box r ≡ true = ap (λ (f : BufferFact). includes f.bounds r) (sym there.2) ∙ inside in
      let format : byte_count r shape.format ≡ byte_count r fact.format = ap (λ (s : Shape). byte_count r s.format) (shape_there there.0) ∙ ap (λ (f : BufferFact). byte_count r f.format) (sym there.2) in
      let other : (length bytes == wanted) ≡ false = unequal (length bytes) wanted (λ same. long.2 (sym planned.2 ∙ same ∙ format)) in
      ap (loads line state name r) planned.1
      ∙ refused_there bytes there.0 there.1 (Some (WrongSize (length bytes) wanted))
      (ap (λ b. unless b OutOfBounds (unless (length bytes == wanted) (WrongSize (length bytes) wanted) None)) within
      ∙ ap (λ b. unless b (WrongSize (length bytes) wanted) None) other)
      ∙ ap (refuses line state) (sym wrong)

  load_missing : (source : List ℕ) (fact : BufferFact) (cause : Cause) (actual : Files) → facts ≡ Some fact → includes fact.bounds r ≡ true → shelf ≡ Some actual →
      IsNoRaster (file actual source) (byte_count r fact.format) cause → loads line state name r (file files source) ≡ refuses line state cause
  load_missing source fact cause actual is inside shown none =
      missing (file files source) fact cause (file actual source) is inside ((subst (λ (o : Option Files). IsSomeAnd o (HaveSameLengths files)) shown holds.same_lengths) source) none

  -- a raster that was read
  pub load_read : (source bytes : List ℕ) (fact : BufferFact) (actual : Files) → facts ≡ Some fact → shelf ≡ Some actual → file actual source ≡ Some bytes →
      (planned : List ℕ) × (file files source ≡ Some planned) × (length bytes ≡ length planned) × (IsTrue exposed → bytes ≡ planned)
      × (loads line state name r (file files source) ≡ edits line state (Put name r planned))
  load_read source bytes fact actual is shown read =
      let there = view_of (find layout.buffers name) fact refl is in
      let planned = there_as_long (file files source) (file actual source) bytes ((subst (λ (o : Option Files). IsSomeAnd o (HaveSameLengths files)) shown holds.same_lengths) source) read in (
        planned.0,
        planned.1,
        sym planned.2,
        (λ e. let same : actual ≡ files = (let both = holds.same e in cc) in let found : file files source ≡ Some bytes = ap (λ (f : Files). file f source) (sym same) ∙ read in let other = planned.1 in cc),
        ap (loads line state name r) planned.1 ∙ ap (load_into line state name r (Some planned.0)) there.1,
      )

  -- ---- what the line leaves

  -- a raster that was not read
  pub load_not_read : (source : List ℕ) (stop : Stop) (fact : BufferFact) (before after : Moment) (later : Parts IntOp) (after_held : Held) → facts ≡ Some fact → includes fact.bounds r ≡ true →
      IfSome shelf (λ actual. IsUnread (file actual source) (byte_count r fact.format) stop) → after.files ≡ before.files → after.text ≡ before.text →
      Did exposed capacity line state files (loads line state name r (file files source)) (Err stop) before after later after_held
  load_not_read source stop fact before after later after_held is inside raster same_files same_text = by shelf refl stop raster holds.same_lengths
    where
      ended : (end : End) → (end ≡ ends.ReadFault) ⊎ (end ≡ ends.NoMemory) → IsEnded exposed capacity state (loads line state name r (file files source)) end before after
      ended end (inl read) = record { other = λ e. cc; carried = nothing_carried exposed _ _ end before after (λ e. cc) same_files same_text (λ e. absurd (cc)) }
      ended end (inr memory) = record { other = λ e. cc; carried = nothing_carried exposed _ _ end before after (λ e. cc) same_files same_text (λ e. absurd (cc)) }

      by : (o : Option Files) → shelf ≡ o → (stop : Stop) → IfSome o (λ actual. IsUnread (file actual source) (byte_count r fact.format) stop) → IsSomeAnd shelf (HaveSameLengths files) →
          Did exposed capacity line state files (loads line state name r (file files source)) (Err stop) before after later after_held
      by None shown stop raster same_lengths = absurd (subst (λ (o : Option Files). IsSomeAnd o (HaveSameLengths files)) shown same_lengths)
      by (Some actual) shown (stops.Refused cause) raster same_lengths = record { effect = load_missing source fact cause actual is inside shown raster; files = same_files; text = same_text }
      by (Some actual) shown (stops.Ended end) raster same_lengths = ended end raster

-- ---- a raster that was read, and put

module _ (exposed : Bool) (capacity line : ℕ) (state : RunState) (files : Files) (old new : SessionOver) (shelf : Option Files) (name : List ℕ) (r : Rectangle) (source : List ℕ) (fact : BufferFact)
    (text : Option (List ℕ)) (reads writes puts more_reads more_writes more_puts : ℕ) (now : Option Files) (same_files : now ≡ shelf) (holds : Holds exposed capacity state files old.parts old.held shelf)
    (is : fact_of (working_facts old.parts) name ≡ Some fact) where
  abbrev before : Moment
  before = at_chain shelf text reads writes puts old.counts

  abbrev after_at : Option Files → Moment
  after_at files_then = at_chain files_then text more_reads more_writes more_puts new.counts

  abbrev after : Moment
  after = after_at now

  -- the raster that is planned, and its put
  record Planned (result : Result (Unit {0}) SessionRefused) : Type 0 where
    raster : List ℕ
    effect : loads line state name r (file files source) ≡ edits line state (Put name r raster)
    edited : IsEdited (Put name r raster) result old new

  there : (result : Result (Unit {0}) SessionRefused) (o : Option Files) → shelf ≡ o → IfSome o (λ actual. IsLoad (file actual source) name r result old new) → IsSomeAnd shelf (HaveSameLengths files) → Planned result
  there result None shown load same_lengths = absurd (subst (λ (o : Option Files). IsSomeAnd o (HaveSameLengths files)) shown same_lengths)
  there result (Some actual) shown load same_lengths =
      let planned = load_read exposed capacity line state files old.parts old.held shelf name r holds source load.bytes fact actual is shown load.there in
      record { raster = planned.0; effect = planned.4; edited = put_alike name r load.bytes planned.0 planned.2 exposed result old new planned.3 holds.content load.edited }

  pub load_done : IfSome shelf (λ actual. IsLoad (file actual source) name r (Ok tt) old new) →
      IsDone exposed capacity state files (loads line state name r (file files source)) before after new.parts new.held
  load_done load =
      let plan = there (Ok tt) shelf refl load holds.same_lengths in
      subst (λ (o : Option Files). IsDone exposed capacity state files (loads line state name r (file files source)) before (after_at o) new.parts new.held) (sym same_files)
      (subst (λ (done : Effect). IsDone exposed capacity state files done before (after_at shelf) new.parts new.held) (sym plan.effect)
      (edit_done exposed capacity line state files (Put name r plan.raster) old new shelf text reads writes puts more_reads more_writes more_puts holds tt plan.edited))

  pub load_stopped : (refused : SessionRefused) → IfSome shelf (λ actual. IsLoad (file actual source) name r (Err refused) old new) →
      Did exposed capacity line state files (loads line state name r (file files source)) (Err (stop_of refused)) before after new.parts new.held
  load_stopped refused load =
      let plan = there (Err refused) shelf refl load holds.same_lengths in
      subst (λ (o : Option Files). Did exposed capacity line state files (loads line state name r (file files source)) (Err (stop_of refused)) before (after_at o) new.parts new.held) (sym same_files)
      (subst (λ (done : Effect). Did exposed capacity line state files done (Err (stop_of refused)) before (after_at shelf) new.parts new.held) (sym plan.effect)
      (edit_stopped exposed capacity line state files (Put name r plan.raster) old new shelf text reads writes puts more_reads more_writes more_puts holds refused plan.edited))
