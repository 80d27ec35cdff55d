-- What is done after the last line of a script.
use Rattle.std.proofs.Common.{◌≡◌, ◌≢◌, ℕ, Bool, true, ◌||◌, List, [], ◌∷◌, Option, Some, None, Result, Ok, Err, IfOk, IfSome, IsTrue, refl, sym, ap, ◌∙◌, subst}
use Rattle.std.specs.Result.{IsErrAnd}
use Rattle.chain_owners.specs.Counts.{Continues}
use Rattle.outside_io.specs.Files.{Files}
use Rattle.model_runs.specs.Built.{built_lines, first_unbuilt, needs_no_swap}
use Rattle.model_runs.specs.Ending.{Leaves}
use Rattle.model_runs.specs.Ran.{bytes_put, tiles_of_run}
use Rattle.model_runs.specs.Run.{Ending, Plan, effects, effects_of, events_in, files_after_all, no_ending, plan_of_lines, report, state_after}
use Rattle.model_runs.specs.State.{RunState, first_state}
use Rattle.model_runs.specs.Words.{Options}
use Rattle.model_runs.specs.declared.ending.End.{End}
use Rattle.model_runs.specs.declared.ending.End.TheVariants as ends
use Rattle.run_lines.proofs.Endings.{ended_with, events_all, files_of_world, then_ending}
use Rattle.run_lines.specs.Carried.{CarriesOut, IsCounted}
use Rattle.run_lines.specs.Moments.{Moment, world_at}
use Rattle.model_runs.specs.Events.{Event, Puts, Refusal, events_alone}
use Rattle.model_runs.specs.Texts.{report_text}
use Rattle.model_runs.specs.World.{World, after_all}
use Rattle.script_read.specs.declared.command.Line.{Line}
use Rattle.script_run.proofs.Reading.{last_of_built}
use Rattle.script_run.specs.Carried.{CarriesOutRead, EndsWithoutSwap, last_state}

module _ (ending : Ending) (files : Files) (options : Options) where
  -- the plan of lines that are built, or of a refused script
  abbrev plan_by : Ending → Result (List Line) Refusal → Plan
  plan_by e built = plan_of_lines e options [] files built

  -- the files after all lines
  abbrev pub files_by : Result (List Line) Refusal → Files
  files_by built = files_after_all (events_in (plan_by no_ending built).effects) files

  -- what is done at the end
  abbrev end_by : Result (List Line) Refusal → List Event
  end_by built = ending (state_after (first_state []) (plan_by no_ending built).effects) (files_by built)

  ended_lines : (exposed : Bool) (built : Result (List Line) Refusal) (end : End) (old new : Moment) →
      CarriesOut exposed (plan_by no_ending built).outcome (tiles_of_run (plan_by no_ending built) (bytes_put old.text new.text)) (Err end) old new →
      CarriesOut exposed (plan_by ending built).outcome (tiles_of_run (plan_by ending built) (bytes_put old.text new.text)) (Err end) old new
  ended_lines exposed (Ok lines) end old new carried = ended_with ending exposed (first_state []) files (effects_of options.cache [] files lines) _ end old new carried
  ended_lines exposed (Err refused) end old new carried = carried

  then_lines : (exposed : Bool) (built : Result (List Line) Refusal) (most more : ℕ) (result : Result (Unit {0}) End) (old mid new : Moment) →
      CarriesOut exposed (plan_by no_ending built).outcome most (Ok tt) old mid → Continues old.chain mid.chain → result ≢ Err ends.SwapFull →
      Leaves (events_alone (end_by built)) result (world_at mid) (world_at new) → CarriesOut exposed (plan_by ending built).outcome more result old new
  then_lines exposed (Ok lines) most more result old mid new carried continues room leaves =
      then_ending ending exposed (first_state []) files (effects_of options.cache [] files lines) most more result old mid new carried continues room leaves
  then_lines exposed (Err refused) most more result old mid new carried continues room leaves = absurd (let none = carried.refused in cc)

  files_after_lines : (built : Result (List Line) Refusal) (most : ℕ) (old mid : Moment) → CarriesOut true (plan_by no_ending built).outcome most (Ok tt) old mid → old.files ≡ Some files →
      mid.files ≡ Some (files_by built)
  files_after_lines (Ok lines) most old mid carried shown =
      let all = effects_of options.cache [] files lines in
      let events = (plan_by no_ending (Ok lines)).outcome.events in
      ap (λ (w : World). w.files) (carried.whole refl tt)
      ∙ ap (λ (f : Option Files). (after_all events (record { files = f; text = old.text })).files) shown
      ∙ files_of_world events files old.text
      ∙ ap (λ (list : List Event). Some (files_after_all list files)) (events_all (first_state []) files all carried.refused)
  files_after_lines (Err refused) most old mid carried shown = absurd (let none = carried.refused in cc)

  -- a script that ends early
  pub read_ended : (exposed : Bool) (read : Result (List Line) Refusal) (end : End) (old new : Moment) →
      CarriesOutRead no_ending exposed files options read (Err end) old new → CarriesOutRead ending exposed files options read (Err end) old new
  read_ended exposed read end old new carried = ended_lines (exposed || needs_no_swap read) (built_lines read) end old new carried

  -- a script whose lines are all carried out, and then its end
  pub read_then : (exposed : Bool) (read : Result (List Line) Refusal) (result : Result (Unit {0}) End) (old mid new : Moment) →
      CarriesOutRead no_ending exposed files options read (Ok tt) old mid → Continues old.chain mid.chain → result ≢ Err ends.SwapFull →
      Leaves (events_alone (ending (last_state files options read) (files_by (built_lines read)))) result (world_at mid) (world_at new) →
      CarriesOutRead ending exposed files options read result old new
  read_then exposed read result old mid new carried continues room leaves =
      then_lines (exposed || needs_no_swap read) (built_lines read) _ _ result old mid new carried continues room leaves

  -- the files after a script whose lines are all carried out
  pub files_after_read : (read : Result (List Line) Refusal) (old mid : Moment) → CarriesOutRead no_ending true files options read (Ok tt) old mid → old.files ≡ Some files →
      mid.files ≡ Some (files_by (built_lines read))
  files_after_read read old mid carried shown = files_after_lines (built_lines read) _ old mid carried shown

-- ---- the report

pub report_read : (found : Option Files) (exposed : Bool) (options : Options) (read : Files → Result (List Line) Refusal) (applied reused : ℕ) (result : Result (Unit {0}) End) (old mid new : Moment) →
    IfSome found (λ files. CarriesOutRead no_ending exposed files options (read files) (Ok tt) old mid) →
    IfSome found (λ files. IsCounted (last_state files options (read files)) applied reused) →
    Continues old.chain mid.chain → result ≢ Err ends.SwapFull → Leaves (events_alone (Puts (report_text applied reused) ∷ [])) result (world_at mid) (world_at new) →
    IfSome found (λ files. CarriesOutRead report exposed files options (read files) result old new)
report_read None exposed options read applied reused result old mid new carried counted continues room leaves = tt
report_read (Some files) exposed options read applied reused result old mid new carried counted continues room leaves =
    let cached = (last_state files options (read files)).session.cached in
    read_then report files options exposed (read files) result old mid new carried continues room
    (subst (λ (n : ℕ). Leaves (events_alone (Puts (report_text cached.applied n) ∷ [])) result (world_at mid) (world_at new)) counted.reused
    (subst (λ (n : ℕ). Leaves (events_alone (Puts (report_text n reused) ∷ [])) result (world_at mid) (world_at new)) counted.applied leaves))

pub report_ended : (found : Option Files) (exposed : Bool) (options : Options) (read : Files → Result (List Line) Refusal) (end : End) (result : Result (Unit {0}) End) (old new : Moment) →
    IsErrAnd result (λ other. other ≡ end) → IfSome found (λ files. CarriesOutRead no_ending exposed files options (read files) (Err end) old new) →
    IfSome found (λ files. CarriesOutRead report exposed files options (read files) result old new)
report_ended None exposed options read end result old new same carried = tt
report_ended (Some files) exposed options read end (Ok done) old new same carried = absurd same
report_ended (Some files) exposed options read end (Err other) old new same carried =
    subst (λ (e : End). CarriesOutRead report exposed files options (read files) (Err e) old new) (sym same) (read_ended report files options exposed (read files) end old new carried)

-- ---- the swap

pub unswapped_ended : (found : Option Files) (needs : Files → Bool) (Same : Type 0) (end : End) (result : Result (Unit {0}) End) → IsErrAnd result (λ other. other ≡ end) →
    IfSome found (λ files. IsTrue (needs files) → Same × EndsWithoutSwap (Err end)) → IfSome found (λ files. IsTrue (needs files) → Same × EndsWithoutSwap result)
unswapped_ended None needs Same end result same without = tt
unswapped_ended (Some files) needs Same end (Ok done) same without = absurd same
unswapped_ended (Some files) needs Same end (Err other) same without = subst (λ (e : End). IsTrue (needs files) → Same × EndsWithoutSwap (Err e)) (sym same) without

pub unswapped_then : (found : Option Files) (needs : Files → Bool) (Same : Type 0) (result : Result (Unit {0}) End) → result ≢ Err ends.SwapFault → result ≢ Err ends.SwapFull →
    IfSome found (λ files. IsTrue (needs files) → Same × EndsWithoutSwap (Ok tt)) → IfSome found (λ files. IsTrue (needs files) → Same × EndsWithoutSwap result)
unswapped_then None needs Same result fault room without = tt
unswapped_then (Some files) needs Same result fault room without = λ none. ((without none).0, record { fault = fault; room = room })

-- ---- what no answer has

pub none_counted : {A : Type 0} (found : Option Files) (result : Result A End) (P : Files → A → Type 0) → IfOk result (λ _. ⊥) → IfSome found (λ files. IfOk result (P files))
none_counted None result P none = tt
none_counted (Some files) (Ok value) P none = absurd none
none_counted (Some files) (Err end) P none = tt

-- ---- counts of lines that are all built

pub counted_read : {A : Type 0} (result : Result A End) (P : RunState → A → Type 0) (found : Option Files) (options : Options) (lines : List Line) → first_unbuilt lines ≡ None →
    IfSome found (λ files. IfOk result (P (state_after (first_state []) (effects options.cache (first_state []) files lines)))) → IfSome found (λ files. IfOk result (P (last_state files options (Ok lines))))
counted_read result P None options lines built counted = tt
counted_read (Err end) P (Some files) options lines built counted = tt
counted_read (Ok value) P (Some files) options lines built counted = subst (λ (s : RunState). P s value) (last_of_built files options lines built) counted
