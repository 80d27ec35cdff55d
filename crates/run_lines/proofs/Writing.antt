-- What lines leave that write a file and then put a text.
use Rattle.std.proofs.Common.{◌≡◌, ◌≢◌, ℕ, Bool, true, false, IsTrue, cond, List, ◌++◌, length, Option, Some, None, Result, Ok, Err, IsSomeAnd, refl, sym, ap, ◌∙◌, subst}
use Rattle.std.specs.FinMap.{get-insert}
use Rattle.std.specs.Option.{option_map}
use Rattle.std.proofs.lemmas.Cmp.{nat_list_cmp_total}
use Rattle.chain_owners.specs.Counts.{Continues}
use Rattle.model_runs.specs.Effects.{writes}
use Rattle.model_runs.specs.Ending.{Leaves, SaysRefused}
use Rattle.model_runs.specs.Run.{files_after_all}
use Rattle.model_runs.specs.State.{Effect, RunState}
use Rattle.model_runs.specs.declared.ending.End.{End}
use Rattle.model_runs.specs.declared.ending.End.TheVariants as ends
use Rattle.outside_io.specs.Files.{Files, file, filed}
use Rattle.run_lines.proofs.Carrying.{carried_alike, carried_by_leaves}
use Rattle.run_lines.proofs.Faults.{chain_faults, faults_by_cause, faults_then}
use Rattle.run_lines.specs.Carried.{CarriesOut, most_of_line, outcome_of_line}
use Rattle.run_lines.specs.Causes.{HasCause}
use Rattle.run_lines.specs.Moments.{HasFaults, Moment, world_at}
use Rattle.run_lines.specs.States.{HaveSameLengths}
use Rattle.run_lines.specs.Stops.{IsEnded}
use Rattle.model_runs.specs.Events.{Event, Outcome, events_alone}
use Rattle.model_runs.specs.World.{World}

-- files of the same lengths, with one more file of the same length
filed-same_lengths : (a b : Files) (name wanted bytes : List ℕ) → HaveSameLengths a b → length wanted ≡ length bytes → HaveSameLengths (filed a name wanted) (filed b name bytes)
filed-same_lengths a b name wanted bytes same_lengths same = λ q. lookups q
  where
    lookups : (q : List ℕ) → option_map length (file (filed a name wanted) q) ≡ option_map length (file (filed b name bytes) q)
    lookups q = rw (get-insert nat_list_cmp_total a name wanted q, get-insert nat_list_cmp_total b name bytes q) (by _)
      where
        by : (c : Bool) → option_map length (cond c (Some wanted) (file a q)) ≡ option_map length (cond c (Some bytes) (file b q))
        by true = ap Some same
        by false = same_lengths q

same_lengths-after : (files : Files) (shelf now : Option Files) (target wanted bytes : List ℕ) → IsSomeAnd shelf (HaveSameLengths files) → length wanted ≡ length bytes →
    now ≡ option_map (λ f. filed f target bytes) shelf → IsSomeAnd now (HaveSameLengths (filed files target wanted))
same_lengths-after files None now target wanted bytes same_lengths same is = absurd same_lengths
same_lengths-after files (Some shelf) now target wanted bytes same_lengths same is =
    subst (λ (o : Option Files). IsSomeAnd o (HaveSameLengths (filed files target wanted))) (sym is) (filed-same_lengths files shelf target wanted bytes same_lengths same)

outcome-by : (done : Effect) (events : List Event) → done.events ≡ events → done.refused ≡ None → outcome_of_line done ≡ events_alone events
outcome-by done events is none = cc

none-refused : (end : End) → SaysRefused (Err end) None → end ≢ ends.Refused
none-refused ends.Refused says = absurd says
none-refused ends.ReadFault says = λ e. cc
none-refused ends.WriteFault says = λ e. cc
none-refused ends.SwapFault says = λ e. cc
none-refused ends.OutputFault says = λ e. cc
none-refused ends.NoMemory says = λ e. cc
none-refused ends.SwapFull says = λ e. cc

-- A line is to write a file and put a text. Bytes were written that are as many, and the same where the chain exposes
-- its bytes.
pub record Wants (exposed : Bool) (done : Effect) (target wanted bytes text : List ℕ) : Type 0 where
  pub events : done.events ≡ writes target wanted text
  pub none : done.refused ≡ None
  pub as_long : length wanted ≡ length bytes
  pub as_wanted : IsTrue exposed → bytes ≡ wanted

-- The files after it are those that are to be there.
pub record AreFiled (exposed : Bool) (done : Effect) (files : Files) (now : Option Files) : Type 0 where
  pub same_lengths : IsSomeAnd now (HaveSameLengths (files_after_all done.events files))
  pub same : IsTrue exposed → now ≡ Some (files_after_all done.events files)

module _ (exposed : Bool) (done : Effect) (target wanted bytes text : List ℕ) (wants : Wants exposed done target wanted bytes text) (result : Result (Unit {0}) End) (before after : Moment)
    (leaves : Leaves (events_alone (writes target bytes text)) result (world_at before) (world_at after)) where
  pub file-carried : (most : ℕ) → result ≢ Err ends.SwapFull → CarriesOut exposed (outcome_of_line done) most result before after
  file-carried most room =
      let events : List Event = writes target wanted text in
      let other : List Event = writes target bytes text in
      subst (λ (o : Outcome). CarriesOut exposed o most result before after) (sym (outcome-by done events wants.events wants.none))
      (carried_alike exposed events other most result before after (λ e. ap (λ (b : List ℕ). writes target b text) (wants.as_wanted e)) refl
      (carried_by_leaves exposed (events_alone other) most result before after room leaves))

  -- the run ends at the line
  pub file-ended : (capacity : ℕ) (state : RunState) (end : End) → result ≢ Err ends.SwapFull → result ≡ Err end → IsEnded exposed capacity state done end before after
  file-ended capacity state end room err =
      let of_end = subst (λ (r : Result (Unit {0}) End). Leaves (events_alone (writes target bytes text)) r (world_at before) (world_at after)) err leaves in
      let most = most_of_line capacity state before.chain.names done in
      record {
        other = none-refused end of_end.refused;
        carried = subst (λ (r : Result (Unit {0}) End). CarriesOut exposed (outcome_of_line done) most r before after) err (file-carried most room);
      }

  -- the file is written and the text put
  pub file-written : (files : Files) → result ≡ Ok tt → IsSomeAnd before.files (HaveSameLengths files) → (IsTrue exposed → before.files ≡ Some files) → AreFiled exposed done files after.files
  file-written files ok same_lengths same =
      let came : world_at after ≡ (let w : World = record { files = option_map (λ f. filed f target bytes) before.files; text = option_map (λ t. t ++ text) before.text } in w) =
      (subst (λ (r : Result (Unit {0}) End). Leaves (events_alone (writes target bytes text)) r (world_at before) (world_at after)) ok leaves).whole tt in
      let now : after.files ≡ option_map (λ f. filed f target bytes) before.files = ap (λ (w : World). w.files) came in
      let then : files_after_all done.events files ≡ filed files target wanted = ap (λ (list : List Event). files_after_all list files) wants.events in
      record {
        same_lengths = subst (λ (f : Files). IsSomeAnd after.files (HaveSameLengths f)) (sym then) (same_lengths-after files before.files after.files target wanted bytes same_lengths wants.as_long now);
        same = λ e. now ∙ ap (option_map (λ f. filed f target bytes)) (same e) ∙ ap (λ (b : List ℕ). Some (filed files target b)) (wants.as_wanted e) ∙ ap Some (sym then);
      }

-- the chain was read, and then a file was written and a text put
pub file-faults : (result : Result (Unit {0}) End) (before after : Moment) → Continues before.chain after.chain →
    HasCause result (record { reads = before.reads; writes = before.writes; puts = before.puts }) (record { reads = after.reads; writes = after.writes; puts = after.puts }) → HasFaults result before after
file-faults result before after continues cause =
    let mid : Moment = record before { chain = after.chain } in
    faults_then (Ok tt) result before mid after (chain_faults before mid refl refl refl continues) (faults_by_cause result mid after refl cause)
