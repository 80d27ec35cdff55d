-- What is done after lines that are all carried out.
use Rattle.std.proofs.Common.{◌≡◌, ◌≢◌, ℕ, Bool, List, [], ◌∷◌, ◌++◌, Option, Some, None, Result, Ok, Err, append_assoc, refl, sym, ap, ◌∙◌, subst, arith}
use Rattle.std.specs.Option.{option_map}
use Rattle.outside_io.specs.Files.{Files, filed}
use Rattle.model_runs.specs.Ending.{Leaves, SaysRefused}
use Rattle.model_runs.specs.Run.{Ending, after_line, events_in, files_after_all, no_ending, outcome_of_effects, state_after}
use Rattle.model_runs.specs.State.{Effect, RunState}
use Rattle.model_runs.specs.declared.ending.End.{End}
use Rattle.model_runs.specs.declared.ending.End.TheVariants as ends
use Rattle.chain_owners.specs.Counts.{Continues}
use Rattle.run_lines.proofs.Carrying.{carried_by_leaves, carried_then, end_carried}
use Rattle.run_lines.proofs.EventLines.{not_refused}
use Rattle.run_lines.specs.Carried.{CarriesOut}
use Rattle.run_lines.specs.Moments.{Moment, world_at}
use Rattle.model_runs.specs.Events.{Event, Outcome, Puts, Refusal, Writes, events_alone, files_after, then_do}
use Rattle.model_runs.specs.World.{after_all}
use Rattle.model_runs.specs.declared.cause.Cause.{Cause}

-- ---- the files after events

pub files_after-append : (first rest : List Event) (files : Files) → files_after_all (first ++ rest) files ≡ files_after_all rest (files_after_all first files)
files_after-append [] rest files = refl
files_after-append (event ∷ first) rest files = files_after-append first rest (files_after event files)

pub files_of_world : (events : List Event) (files : Files) (text : Option (List ℕ)) →
    (after_all events (record { files = Some files; text = text })).files ≡ Some (files_after_all events files)
files_of_world [] files text = refl
files_of_world (Writes name bytes ∷ events) files text = files_of_world events (filed files name bytes) text
files_of_world (Puts more ∷ events) files text = files_of_world events files (option_map (λ written. written ++ more) text)

-- ---- effects of which none is refused

-- the events of lines that are all carried out
pub events_all : (state : RunState) (files : Files) (all : List Effect) → (outcome_of_effects no_ending state files all).refused ≡ None →
    (outcome_of_effects no_ending state files all).events ≡ events_in all
events_all state files [] none = refl
events_all state files (done ∷ rest) none = by done.refused (events_all done.next (files_after_all done.events files) rest) none
  where
    lines : Outcome
    lines = outcome_of_effects no_ending done.next (files_after_all done.events files) rest

    by : (refused : Option Cause) → (lines.refused ≡ None → lines.events ≡ events_in rest) → (after_line done.line done.events refused lines).refused ≡ None →
        (after_line done.line done.events refused lines).events ≡ events_in (done ∷ rest)
    by (Some cause) later none = absurd (cc)
    by None later none = ap (λ (events : List Event). done.events ++ events) (later none)

module _ (ending : Ending) where
  -- what is done at the end of effects from a state and files on
  abbrev pub end_events : RunState → Files → List Effect → List Event
  end_events state files all = ending (state_after state all) (files_after_all (events_in all) files)

  end_after : (state : RunState) (files : Files) (done : Effect) (rest : List Effect) →
      end_events done.next (files_after_all done.events files) rest ≡ end_events state files (done ∷ rest)
  end_after state files done rest =
      ap (ending (state_after done.next rest)) (sym (files_after-append done.events (events_in rest) files))

  pub ending_after : (state : RunState) (files : Files) (all : List Effect) → (outcome_of_effects no_ending state files all).refused ≡ None →
      outcome_of_effects ending state files all ≡ then_do (outcome_of_effects no_ending state files all).events (events_alone (end_events state files all))
  ending_after state files [] none = refl
  ending_after state files (done ∷ rest) none = by done.refused (ending_after done.next (files_after_all done.events files) rest) none
    where
      -- what is to be done after the first effect
      lines : Outcome
      lines = outcome_of_effects no_ending done.next (files_after_all done.events files) rest

      all : Outcome
      all = outcome_of_effects ending done.next (files_after_all done.events files) rest

      by : (refused : Option Cause) → (lines.refused ≡ None → all ≡ then_do lines.events (events_alone (end_events done.next (files_after_all done.events files) rest))) →
          (after_line done.line done.events refused lines).refused ≡ None →
          after_line done.line done.events refused all ≡ then_do (after_line done.line done.events refused lines).events (events_alone (end_events state files (done ∷ rest)))
      by (Some cause) later none = absurd (cc)
      by None later none =
          ap (then_do done.events) (later none)
          ∙ ap (λ (events : List Event). events_alone events)
          (sym (append_assoc done.events lines.events (end_events done.next (files_after_all done.events files) rest))
          ∙ ap (λ (events : List Event). (done.events ++ lines.events) ++ events) (end_after state files done rest))

  -- where a line is refused nothing is done after it
  pub no_ending_after : (state : RunState) (files : Files) (all : List Effect) (refusal : Refusal) → (outcome_of_effects no_ending state files all).refused ≡ Some refusal →
      outcome_of_effects ending state files all ≡ outcome_of_effects no_ending state files all
  no_ending_after state files [] refusal some = absurd (cc)
  no_ending_after state files (done ∷ rest) refusal some = by done.refused (no_ending_after done.next (files_after_all done.events files) rest refusal) some
    where
      lines : Outcome
      lines = outcome_of_effects no_ending done.next (files_after_all done.events files) rest

      all : Outcome
      all = outcome_of_effects ending done.next (files_after_all done.events files) rest

      by : (refused : Option Cause) → (lines.refused ≡ Some refusal → all ≡ lines) → (after_line done.line done.events refused lines).refused ≡ Some refusal →
          after_line done.line done.events refused all ≡ after_line done.line done.events refused lines
      by (Some cause) later some = refl
      by None later some = ap (then_do done.events) (later some)

  -- lines of which one ends the run
  pub ended_with : (exposed : Bool) (state : RunState) (files : Files) (all : List Effect) (most : ℕ) (end : End) (old new : Moment) →
      CarriesOut exposed (outcome_of_effects no_ending state files all) most (Err end) old new → CarriesOut exposed (outcome_of_effects ending state files all) most (Err end) old new
  ended_with exposed state files all most end old new carried = by (outcome_of_effects no_ending state files all).refused refl
    where
      lines : Outcome
      lines = outcome_of_effects no_ending state files all

      by : (refused : Option Refusal) → lines.refused ≡ refused → CarriesOut exposed (outcome_of_effects ending state files all) most (Err end) old new
      by (Some refusal) some = subst (λ (o : Outcome). CarriesOut exposed o most (Err end) old new) (sym (no_ending_after state files all refusal some)) carried
      by None none =
          subst (λ (o : Outcome). CarriesOut exposed o most (Err end) old new) (sym (ending_after state files all none))
          (end_carried exposed lines (events_alone (end_events state files all)) most most end old new
          (not_refused end (subst (λ (r : Option Refusal). SaysRefused (Err end) r) none carried.refused)) (omega arith) carried)

  -- lines that are all carried out, and then the end
  pub then_ending : (exposed : Bool) (state : RunState) (files : Files) (all : List Effect) (most more : ℕ) (result : Result (Unit {0}) End) (old mid new : Moment) →
      CarriesOut exposed (outcome_of_effects no_ending state files all) most (Ok tt) old mid → Continues old.chain mid.chain → result ≢ Err ends.SwapFull →
      Leaves (events_alone (end_events state files all)) result (world_at mid) (world_at new) → CarriesOut exposed (outcome_of_effects ending state files all) more result old new
  then_ending exposed state files all most more result old mid new carried continues room leaves =
      let lines = outcome_of_effects no_ending state files all in
      let rest = events_alone (end_events state files all) in
      subst (λ (o : Outcome). CarriesOut exposed o more result old new) (sym (ending_after state files all carried.refused))
      (carried_then exposed lines rest most more more result old mid new carried continues (carried_by_leaves exposed rest more result mid new room leaves) (omega arith))
