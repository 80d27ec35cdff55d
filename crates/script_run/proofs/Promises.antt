-- What a run promises, by what it leaves and why it ends.
use Rattle.std.proofs.Common.{◌≡◌, ℕ, ◌⊎◌, Bool, IsTrue, ◌||◌, List, [], min, Option, Some, None, Result, Ok, Err, IfSome, inl, inr, refl, sym, ap, ◌∙◌, subst, arith}
use Rattle.chain_owners.specs.Counts.{Counts, Rose}
use Rattle.tile_chain.specs.OwnedTiles.{counts_over}
use Rattle.outside_io.specs.Files.{Files, file}
use Rattle.model_runs.specs.Built.{built_lines, built_plan, needs_no_swap, plan_of_read}
use Rattle.model_runs.specs.Ending.{IsRefusal, IsWhole, MayTear, SaysRefused, end_status, status_of}
use Rattle.model_runs.specs.Ran.{Faults, Ran, SufficesFor, bytes_put, tiles_of_run}
use Rattle.model_runs.specs.Run.{Ending, Plan, lines_of_file, plan_of_lines, report, watched_in}
use Rattle.model_runs.specs.State.{Numbers, Watched}
use Rattle.model_runs.specs.Swap.{Suffices}
use Rattle.model_runs.specs.Watching.{AreNumbers}
use Rattle.model_runs.specs.Words.{MakeJob, Options, Request, RunScript, ScriptRun, asked_job, asked_script, job_of, request_of, script_run_of}
use Rattle.model_runs.specs.declared.ending.End.{End}
use Rattle.model_runs.specs.declared.ending.End.TheVariants as ends
use Rattle.run_lines.specs.Carried.{CarriesOut, Exceeds}
use Rattle.run_lines.specs.Moments.{HasFaults, Moment, world_at}
use Rattle.model_runs.proofs.Leaving.{some_weaker}
use Rattle.model_runs.specs.Events.{Refusal}
use Rattle.model_runs.specs.World.{World}
use Rattle.script_read.specs.declared.command.Line.{Line}
use Rattle.std.specs.Prelude.{option_and_then}
use Rattle.script_run.proofs.Statuses.{may_tear_at}
use Rattle.script_run.proofs.Unwatched.{plan_unwatched}
use Rattle.script_run.specs.Carried.{CarriesOutRead, EndsWithoutSwap}
use Rattle.script_run.specs.Promises.{HasStatusCause, RanUnswapped}

-- ---- statuses

done_by : (refused : Option Refusal) (ended : Result (Unit {0}) End) → SaysRefused ended refused → status_of ended ≡ 0 → refused ≡ None
done_by refused (Ok done) says e = says
done_by refused (Err ends.Refused) says e = absurd (cc)
done_by refused (Err ends.ReadFault) says e = absurd (cc)
done_by refused (Err ends.WriteFault) says e = absurd (cc)
done_by refused (Err ends.SwapFault) says e = absurd (cc)
done_by refused (Err ends.OutputFault) says e = absurd (cc)
done_by refused (Err ends.NoMemory) says e = absurd (cc)
done_by refused (Err ends.SwapFull) says e = absurd (cc)

refused_by : (refused : Option Refusal) (ended : Result (Unit {0}) End) → SaysRefused ended refused → status_of ended ≡ 2 → IsRefusal refused
refused_by refused (Err ends.Refused) says e = says
refused_by refused (Ok done) says e = absurd (cc)
refused_by refused (Err ends.ReadFault) says e = absurd (cc)
refused_by refused (Err ends.WriteFault) says e = absurd (cc)
refused_by refused (Err ends.SwapFault) says e = absurd (cc)
refused_by refused (Err ends.OutputFault) says e = absurd (cc)
refused_by refused (Err ends.NoMemory) says e = absurd (cc)
refused_by refused (Err ends.SwapFull) says e = absurd (cc)

whole_by : (ended : Result (Unit {0}) End) → (status_of ended ≡ 0) ⊎ (status_of ended ≡ 2) → IsWhole ended
whole_by (Ok done) e = tt
whole_by (Err ends.Refused) e = tt
whole_by (Err ends.ReadFault) (inl e) = cc
whole_by (Err ends.ReadFault) (inr e) = cc
whole_by (Err ends.WriteFault) (inl e) = cc
whole_by (Err ends.WriteFault) (inr e) = cc
whole_by (Err ends.SwapFault) (inl e) = cc
whole_by (Err ends.SwapFault) (inr e) = cc
whole_by (Err ends.OutputFault) (inl e) = cc
whole_by (Err ends.OutputFault) (inr e) = cc
whole_by (Err ends.NoMemory) (inl e) = cc
whole_by (Err ends.NoMemory) (inr e) = cc
whole_by (Err ends.SwapFull) (inl e) = cc
whole_by (Err ends.SwapFull) (inr e) = cc

full_by : (ended : Result (Unit {0}) End) → status_of ended ≡ 8 → ended ≡ Err ends.SwapFull
full_by (Err ends.SwapFull) e = refl
full_by (Ok done) e = cc
full_by (Err ends.Refused) e = cc
full_by (Err ends.ReadFault) e = cc
full_by (Err ends.WriteFault) e = cc
full_by (Err ends.SwapFault) e = cc
full_by (Err ends.OutputFault) e = cc
full_by (Err ends.NoMemory) e = cc

pub read_at : (ended : Result (Unit {0}) End) → status_of ended ≡ 3 → ended ≡ Err ends.ReadFault
read_at (Err ends.ReadFault) e = refl
read_at _ e = cc

pub write_at : (ended : Result (Unit {0}) End) → status_of ended ≡ 4 → ended ≡ Err ends.WriteFault
write_at (Err ends.WriteFault) e = refl
write_at _ e = cc

pub swap_at : (ended : Result (Unit {0}) End) → status_of ended ≡ 5 → ended ≡ Err ends.SwapFault
swap_at (Err ends.SwapFault) e = refl
swap_at _ e = cc

pub put_at : (ended : Result (Unit {0}) End) → status_of ended ≡ 6 → ended ≡ Err ends.OutputFault
put_at (Err ends.OutputFault) e = refl
put_at _ e = cc

status_at_refusal : (refused : Option Refusal) → IsRefusal refused → end_status refused ≡ 2
status_at_refusal None is = absurd is
status_at_refusal (Some refusal) is = refl

abbrev faults_at : Moment → Faults
faults_at moment = record { reads = moment.reads; writes = moment.writes; swaps = moment.chain.faults; puts = moment.puts }

-- a run that has no reason to end early comes to its end
complete_by : (refused : Option Refusal) (ended : Result (Unit {0}) End) (old new : Moment) → SaysRefused ended refused → HasFaults ended old new →
    (ended ≡ Err ends.SwapFault → ⊥) → (ended ≡ Err ends.SwapFull → ⊥) → ¬ Rose old.reads new.reads → ¬ Rose old.writes new.writes → ¬ Rose old.puts new.puts → (status_of ended ≡ 7) ⊎ (status_of ended ≡ end_status refused)
complete_by refused (Ok done) old new says faults fault room reads writes puts = inr (ap end_status (sym says))
complete_by refused (Err ends.Refused) old new says faults fault room reads writes puts = inr (sym (status_at_refusal refused says))
complete_by refused (Err ends.ReadFault) old new says faults fault room reads writes puts = absurd (reads (faults.read refl))
complete_by refused (Err ends.WriteFault) old new says faults fault room reads writes puts = absurd (writes (faults.write refl))
complete_by refused (Err ends.SwapFault) old new says faults fault room reads writes puts = absurd (fault refl)
complete_by refused (Err ends.OutputFault) old new says faults fault room reads writes puts = absurd (puts (faults.put refl))
complete_by refused (Err ends.NoMemory) old new says faults fault room reads writes puts = inl refl
complete_by refused (Err ends.SwapFull) old new says faults fault room reads writes puts = absurd (room refl)

-- ---- a full swap

-- a swap that suffices for as many tiles as there are names isn't exceeded by them
exceeds_not : (faults blocks resident tiles : ℕ) → Exceeds (counts_over faults blocks resident) tiles → Suffices blocks resident tiles → ⊥
exceeds_not faults blocks resident tiles past (inl room) = omega (arith, past.0, past.1, room)
exceeds_not faults blocks resident tiles past (inr few) = omega (arith, past.0, past.1, few)

never_suffices : (plan : Plan) (options : Options) (faults size : ℕ) (put : Option (List ℕ)) → plan.options ≡ options →
    Exceeds (counts_over faults (min options.swap_blocks size) options.resident) (tiles_of_run plan put) → ¬ SufficesFor plan size put
never_suffices plan options faults size put is past =
    let same : Exceeds (counts_over faults (min plan.options.swap_blocks size) plan.options.resident) (tiles_of_run plan put) =
    subst (λ (o : Options). Exceeds (counts_over faults (min o.swap_blocks size) o.resident) (tiles_of_run plan put)) (sym is) past in
    exceeds_not faults (min plan.options.swap_blocks size) plan.options.resident (tiles_of_run plan put) same

pub options_of : (ending : Ending) (numbers : Numbers) (files : Files) (options : Options) (built : Result (List Line) Refusal) → (plan_of_lines ending options numbers files built).options ≡ options
options_of ending numbers files options (Ok lines) = refl
options_of ending numbers files options (Err refused) = refl

-- ---- a run

pub ran_by : (exposed : Bool) (plan : Plan) (options : Options) (ended : Result (Unit {0}) End) (size faults : ℕ) (old new : Moment) → watched_in plan.effects ≡ [] → plan.options ≡ options →
    old.chain ≡ counts_over faults (min options.swap_blocks size) options.resident → CarriesOut exposed plan.outcome (tiles_of_run plan (bytes_put old.text new.text)) ended old new → HasFaults ended old new →
    Ran (IsTrue exposed) plan [] size (world_at old) (world_at new) (faults_at old) (faults_at new) (status_of ended)
ran_by exposed plan options ended size faults old new unwatched is chain carried has = record {
  meets = subst (λ (watched : List Watched). AreNumbers watched []) (sym unwatched) refl;
  done = done_by plan.outcome.refused ended carried.refused;
  refused = refused_by plan.outcome.refused ended carried.refused;
  whole = λ exposes at_end. carried.whole exposes (whole_by ended at_end);
  texts = λ at_end. carried.texts (whole_by ended at_end);
  prefix = λ exposes. some_weaker (MayTear ended) _ (may_tear_at ended) plan.outcome.events (world_at old) (world_at new) (carried.prefix exposes);
  texts_prefix = carried.texts_prefix;
  full = λ at_full. not_enough (full_by ended at_full);
  complete = λ none suffices. complete_by plan.outcome.refused ended old new carried.refused has (λ is. none.swaps (has.swap is)) (λ is. not_enough is suffices) none.reads none.writes none.puts;
}
  where
    not_enough : ended ≡ Err ends.SwapFull → ¬ SufficesFor plan size (bytes_put old.text new.text)
    not_enough full =
        never_suffices plan options faults size (bytes_put old.text new.text) is
        (subst (λ (counts : Counts). Exceeds counts (tiles_of_run plan (bytes_put old.text new.text))) chain (carried.full full))

-- the promise of a run that words ask for
pub ran_named : (found : Option ScriptRun) (run : ScriptRun) (swapped : Bool) (exposed : Option Files) (ended : Result (Unit {0}) End) (status size faults : ℕ) (old new : Moment) →
    found ≡ Some run → status ≡ status_of ended → old.files ≡ exposed → old.chain ≡ counts_over faults (min run.options.swap_blocks size) run.options.resident →
    IfSome exposed (λ files. CarriesOutRead report swapped files run.options (lines_of_file (file files run.script)) ended old new) → HasFaults ended old new →
    IfSome found (λ run. IfSome exposed (λ files. (numbers : Numbers) × Ran (IsTrue (swapped || needs_no_swap (lines_of_file (file files run.script)))) (built_plan numbers files run) numbers size
    (record { files = Some files; text = old.text }) (world_at new) (faults_at old) (faults_at new) status))
ran_named found run swapped None ended status size faults old new named is files chain carried has = rw named tt
ran_named found run swapped (Some given) ended status size faults old new named is files chain carried has =
    let read = lines_of_file (file given run.script) in
    let begin : (let w : World = record { files = Some given; text = old.text } in w) ≡ world_at old = ap (λ (f : Option Files). (let w : World = record { files = f; text = old.text } in w)) (sym files) in
    rw (named, is, begin) (
      [],
      ran_by (swapped || needs_no_swap read) (plan_of_read report [] given run.options read) run.options ended size faults old new
          (plan_unwatched report given run.options read) (options_of report [] given run.options (built_lines read)) chain carried has,
    )

-- the promise of one whose script needs no swap
pub unswapped_named : {Swap : Type 0} (found : Option ScriptRun) (run : ScriptRun) (exposes : Bool) (exposed : Option Files) (ended : Result (Unit {0}) End) (status : ℕ) (swap next_swap : Swap) (old new : Moment) →
    found ≡ Some run → status ≡ status_of ended →
    IfSome exposed (λ files. IsTrue (needs_no_swap (lines_of_file (file files run.script))) → (next_swap ≡ swap) × EndsWithoutSwap ended) →
    IfSome exposed (λ files. CarriesOutRead report exposes files run.options (lines_of_file (file files run.script)) ended old new) → HasFaults ended old new →
    IfSome found (λ run. IfSome exposed (λ files. IsTrue (needs_no_swap (lines_of_file (file files run.script))) →
    RanUnswapped (built_plan [] files run).outcome.refused swap next_swap (faults_at old) (faults_at new) status))
unswapped_named found run exposes None ended status swap next_swap old new named is without carried has = rw named tt
unswapped_named found run exposes (Some files) ended status swap next_swap old new named is without carried has =
    let left : IsTrue (needs_no_swap (lines_of_file (file files run.script))) → RanUnswapped (built_plan [] files run).outcome.refused swap next_swap (faults_at old) (faults_at new) (status_of ended) =
    λ needs.
    let end = without needs in
    record { unswapped = end.0; complete = complete_by (built_plan [] files run).outcome.refused ended old new carried.refused has end.1.fault end.1.room } in
    rw (named, is) left

-- statuses of I/O errors by their causes
pub cause_named : (ended : Result (Unit {0}) End) (status : ℕ) (old new : Moment) → status ≡ status_of ended → HasFaults ended old new → HasStatusCause (faults_at old) (faults_at new) status
cause_named ended status old new is has = record {
  read_fault = λ at. has.read (read_at ended (sym is ∙ at));
  write_fault = λ at. has.write (write_at ended (sym is ∙ at));
  swap_fault = λ at. has.swap (swap_at ended (sym is ∙ at));
  output_fault = λ at. has.put (put_at ended (sym is ∙ at));
}

-- ---- what is asked for

pub script_asked : (words : List (List ℕ)) (script : List ℕ) (options : Options) → request_of words ≡ Some (RunScript script options) →
    asked_script words ≡ Some (record { script = script; options = options })
script_asked words script options asks = ap (λ (r : Option Request). option_and_then script_run_of r) asks

pub job_asked : (words : List (List ℕ)) (number : ℕ) → request_of words ≡ Some (MakeJob number) → asked_job words ≡ Some number
job_asked words number asks = ap (λ (r : Option Request). option_and_then job_of r) asks
