-- Runs of made jobs.
use Rattle.std.proofs.Common.{◌≡◌, ◌≢◌, ℕ, true, length, min, List, [], ◌∷◌, Option, Some, None, Result, Ok, Err, IfSome, IsTrue, refl, sym, ap, ◌∙◌, subst, arith}
use Rattle.std.specs.Prelude.{⊤}
use Rattle.std.specs.Result.{IsErrAnd}
use Rattle.std.proofs.lemmas.List.{length-replicate}
use Rattle.tile_chain.specs.OwnedTiles.{counts_over}
use Rattle.chain_owners.proofs.Growing.{continues-same}
use Rattle.outside_io.specs.Files.{Files, file}
use Rattle.outside_io.specs.StoredBlocks.{zero_block, zero_blocks}
use Rattle.outside_io.specs.Swap.{Blocks}
use Rattle.model_runs.specs.Built.{built_job, built_lines}
use Rattle.model_runs.specs.Ending.{Leaves, status_of}
use Rattle.model_runs.specs.MadeJob.{job_name, made_ending, made_files, render_sum}
use Rattle.model_runs.specs.Ran.{Faults, Ran}
use Rattle.model_runs.specs.Run.{Plan, lines_of_file, no_ending}
use Rattle.model_runs.specs.State.{Numbers}
use Rattle.model_runs.specs.Words.{Options, default_options}
use Rattle.model_runs.specs.declared.ending.End.{End}
use Rattle.model_runs.specs.declared.ending.End.TheVariants as ends
use Rattle.run_lines.proofs.Carrying.{nothing_carried}
use Rattle.run_lines.proofs.Faults.{continues_same, faults_of_swap}
use Rattle.run_lines.specs.Carried.{IsCounted}
use Rattle.run_lines.specs.Moments.{HasFaults, Moment}
use Rattle.model_runs.specs.Events.{Puts, Refusal, events_alone}
use Rattle.model_runs.specs.Texts.{report_text, sum_text}
use Rattle.model_runs.specs.World.{World}
use Rattle.script_read.specs.declared.command.Line.{Line}
use Rattle.script_run.proofs.AfterLines.{files_after_read, files_by, read_ended, read_then}
use Rattle.script_run.proofs.Promises.{options_of, put_at, ran_by, read_at, swap_at, write_at}
use Rattle.script_run.proofs.Reading.{moment}
use Rattle.script_run.proofs.Unwatched.{plan_unwatched}
use Rattle.script_run.specs.Carried.{CarriesOutJob, CarriesOutRead, job_blocks, job_moment, last_state}
use Rattle.script_run.specs.Promises.{HasStatusCause, RanJob}

-- what is read of a job's script
abbrev pub read_of_job : ℕ → Result (List Line) Refusal
read_of_job number = lines_of_file (file (made_files number) job_name)

-- what its lines leave, and nothing after them
abbrev pub CarriesOutLinesOfJob : ℕ → Result (Unit {0}) End → Moment → Moment → Type 0
CarriesOutLinesOfJob number result old new = CarriesOutRead no_ending true (made_files number) default_options (read_of_job number) result old new

-- ---- a shelf, options and a swap that are the job's

module _ (number : ℕ) (shelf : Files) (options : Options) (is_shelf : shelf ≡ made_files number) (is_options : options ≡ default_options) where
  pub job_carried : (size : ℕ) (result : Result (Unit {0}) End) (text later : Option (List ℕ)) (puts more : ℕ) (left : Option Files) → size ≡ job_blocks →
      CarriesOutRead no_ending true shelf options (lines_of_file (file shelf job_name)) result
      (moment (Some shelf) text 0 0 puts (counts_over 0 (min options.swap_blocks size) options.resident)) (moment left later 0 0 more (counts_over 0 (min options.swap_blocks size) options.resident)) →
      CarriesOutLinesOfJob number result (job_moment (Some (made_files number)) text puts) (job_moment left later more)
  job_carried size result text later puts more left is_size carried =
      subst (λ (f : Files). CarriesOutRead no_ending true f default_options (lines_of_file (file f job_name)) result (job_moment (Some f) text puts) (job_moment left later more)) is_shelf
      (subst (λ (o : Options). CarriesOutRead no_ending true shelf o (lines_of_file (file shelf job_name)) result
      (moment (Some shelf) text 0 0 puts (counts_over 0 (min o.swap_blocks job_blocks) o.resident)) (moment left later 0 0 more (counts_over 0 (min o.swap_blocks job_blocks) o.resident))) is_options
      (subst (λ (n : ℕ). CarriesOutRead no_ending true shelf options (lines_of_file (file shelf job_name)) result
      (moment (Some shelf) text 0 0 puts (counts_over 0 (min options.swap_blocks n) options.resident)) (moment left later 0 0 more (counts_over 0 (min options.swap_blocks n) options.resident))) is_size carried))

  pub job_counted : (applied reused : ℕ) → IsCounted (last_state shelf options (lines_of_file (file shelf job_name))) applied reused →
      IsCounted (last_state (made_files number) default_options (read_of_job number)) applied reused
  job_counted applied reused counted =
      subst (λ (f : Files). IsCounted (last_state f default_options (lines_of_file (file f job_name))) applied reused) is_shelf
      (subst (λ (o : Options). IsCounted (last_state shelf o (lines_of_file (file shelf job_name))) applied reused) is_options counted)

-- how many zero blocks there are
pub zeros_count : (count : ℕ) (blocks : Blocks) → blocks ≡ zero_blocks count → length blocks ≡ count
zeros_count count blocks is = ap (λ (b : Blocks). length b) is ∙ length-replicate count zero_block

-- ---- the end

module _ (number : ℕ) where
  pub job_ended : (end : End) (result : Result (Unit {0}) End) (old new : Moment) → IsErrAnd result (λ other. other ≡ end) → CarriesOutLinesOfJob number (Err end) old new → CarriesOutJob number result old new
  job_ended end (Ok done) old new same carried = absurd same
  job_ended end (Err other) old new same carried =
      subst (λ (e : End). CarriesOutJob number (Err e) old new) (sym same) (read_ended made_ending (made_files number) default_options true (read_of_job number) end old new carried)

  pub job_then : (left : Files) (applied reused : ℕ) (result : Result (Unit {0}) End) (text later last : Option (List ℕ)) (puts more most : ℕ) →
      CarriesOutLinesOfJob number (Ok tt) (job_moment (Some (made_files number)) text puts) (job_moment (Some left) later more) →
      IsCounted (last_state (made_files number) default_options (read_of_job number)) applied reused → result ≢ Err ends.SwapFull →
      Leaves (events_alone (Puts (sum_text (render_sum left)) ∷ Puts (report_text applied reused) ∷ [])) result (record { files = Some left; text = later }) (record { files = Some left; text = last }) →
      CarriesOutJob number result (job_moment (Some (made_files number)) text puts) (job_moment (Some left) last most)
  job_then left applied reused result text later last puts more most carried counted room leaves =
      let files = made_files number in
      let read = read_of_job number in
      let old = job_moment (Some files) text puts in
      let mid = job_moment (Some left) later more in
      let new = job_moment (Some left) last most in
      let cached = (last_state files default_options read).session.cached in
      let before : World = record { files = Some left; text = later } in
      let after : World = record { files = Some left; text = last } in
      let found : Some left ≡ Some (files_by made_ending files default_options (built_lines read)) = files_after_read made_ending files default_options read old mid carried refl in
      let same : left ≡ files_by made_ending files default_options (built_lines read) = cc in
      read_then made_ending files default_options true read result old mid new carried (continues_same mid.chain mid.chain refl) room
      (subst (λ (f : Files). Leaves (events_alone (Puts (sum_text (render_sum f)) ∷ Puts (report_text cached.applied cached.reused) ∷ [])) result before after) same
      (subst (λ (n : ℕ). Leaves (events_alone (Puts (sum_text (render_sum left)) ∷ Puts (report_text cached.applied n) ∷ [])) result before after) counted.reused
      (subst (λ (n : ℕ). Leaves (events_alone (Puts (sum_text (render_sum left)) ∷ Puts (report_text n reused) ∷ [])) result before after) counted.applied leaves)))

  -- no memory was left before the first line
  pub job_memory : (result : Result (Unit {0}) End) (text : Option (List ℕ)) (puts : ℕ) → IsErrAnd result (λ end. end ≡ ends.NoMemory) →
      CarriesOutJob number result (job_moment (Some (made_files number)) text puts) (job_moment (Some (made_files number)) text puts)
  job_memory (Ok done) text puts same = absurd same
  job_memory (Err end) text puts same =
      let now = job_moment (Some (made_files number)) text puts in
      subst (λ (e : End). CarriesOutJob number (Err e) now now) (sym same) (nothing_carried true (built_job number).outcome _ ends.NoMemory now now (λ e. cc) refl refl (λ e. absurd (cc)))

-- ---- I/O errors

pub job_faults : (result : Result (Unit {0}) End) (before after old new : Option Files) (text later : Option (List ℕ)) (puts more used capacity : ℕ) →
    HasFaults result (moment old text 0 0 puts (counts_over 0 used capacity)) (moment new later 0 0 more (counts_over 0 used capacity)) →
    HasFaults result (job_moment before text puts) (job_moment after later more)
job_faults result before after old new text later puts more used capacity has = record {
  read = has.read;
  write = has.write;
  put = has.put;
  swap = has.swap;
  reads = has.reads;
  writes = has.writes;
  puts = has.puts;
  chain = continues-same _;
}

pub err_faults : (end : End) (result : Result (Unit {0}) End) (old new : Moment) → IsErrAnd result (λ other. other ≡ end) → HasFaults (Err end) old new → HasFaults result old new
err_faults end (Ok done) old new same has = absurd same
err_faults end (Err other) old new same has = subst (λ (e : End). HasFaults (Err e) old new) (sym same) has

pub memory_faults : (result : Result (Unit {0}) End) (before after : Option Files) (text : Option (List ℕ)) (puts : ℕ) → IsErrAnd result (λ end. end ≡ ends.NoMemory) →
    HasFaults result (job_moment before text puts) (job_moment after text puts)
memory_faults (Ok done) before after text puts same = absurd same
memory_faults (Err end) before after text puts same =
    subst (λ (e : End). HasFaults (Err e) (job_moment before text puts) (job_moment after text puts)) (sym same)
    (faults_of_swap (Err ends.NoMemory) (job_moment before text puts) (job_moment after text puts) refl (λ e. absurd (cc)) (omega arith) (omega arith) (omega arith) (continues-same _))

-- ---- the promise

exposes_always : (plan : Plan) (numbers : Numbers) (size : ℕ) (old new : World) (before after : Faults) (status : ℕ) →
    Ran (IsTrue true) plan numbers size old new before after status → Ran ⊤ plan numbers size old new before after status
exposes_always plan numbers size old new before after status ran = record {
  meets = ran.meets;
  done = ran.done;
  refused = ran.refused;
  whole = λ exposes. ran.whole refl;
  texts = ran.texts;
  prefix = λ exposes. ran.prefix refl;
  texts_prefix = ran.texts_prefix;
  full = ran.full;
  complete = ran.complete;
}

-- the faults of a run of a job, whatever files are looked at
abbrev pub JobFaults : Result (Unit {0}) End → Option (List ℕ) → Option (List ℕ) → ℕ → ℕ → Type 0
JobFaults result text later puts more = (before after : Option Files) → HasFaults result (job_moment before text puts) (job_moment after later more)

module _ (number status : ℕ) (ended : Result (Unit {0}) End) (text later : Option (List ℕ)) (puts more : ℕ) (is : status ≡ status_of ended) (has : JobFaults ended text later puts more) where
  ran : ((left : Option Files) × CarriesOutJob number ended (job_moment (Some (made_files number)) text puts) (job_moment left later more)) →
      (left : Option Files) × Ran ⊤ (built_job number) [] job_blocks
      (record { files = Some (made_files number); text = text }) (record { files = left; text = later })
      (record { reads = 0; writes = 0; swaps = 0; puts = puts }) (record { reads = 0; writes = 0; swaps = 0; puts = more }) status
  ran carried =
      let files = made_files number in
      let read = read_of_job number in
      let old = job_moment (Some files) text puts in
      let new = job_moment carried.0 later more in
      rw is (
        carried.0,
        exposes_always (built_job number) [] job_blocks _ _ _ _ (status_of ended)
            (ran_by true (built_job number) default_options ended job_blocks 0 old new (plan_unwatched made_ending files default_options read)
            (options_of made_ending [] files default_options (built_lines read)) refl carried.1 (has (Some files) carried.0)),
      )

  -- its own shelf and swap don't fail
  not_read : status ≢ 3
  not_read at = let rose = (has None None).read (read_at ended (sym is ∙ at)) in omega (arith, rose)

  not_write : status ≢ 4
  not_write at = let rose = (has None None).write (write_at ended (sym is ∙ at)) in omega (arith, rose)

  not_swap : status ≢ 5
  not_swap at = let rose = (has None None).swap (swap_at ended (sym is ∙ at)) in omega (arith, rose)

  -- the promise of a made job, which is apart from a shelf and a swap
  pub job_ran : {Shelf Swap : Type 0} (found : Option ℕ) (shelf : Shelf) (swap : Swap) → found ≡ Some number →
      ((left : Option Files) × CarriesOutJob number ended (job_moment (Some (made_files number)) text puts) (job_moment left later more)) →
      IfSome found (λ number. RanJob number shelf shelf swap swap text later puts more status)
  job_ran found shelf swap named carried =
      let job : RanJob number shelf shelf swap swap text later puts more status = record { job_apart = (refl, refl); job_statuses = (not_read, (not_write, not_swap)); job_ran = ran carried } in
      rw named job

  -- which has no cause but the sink's
  pub job_cause : (reads writes swaps : ℕ) → HasStatusCause (record { reads = reads; writes = writes; swaps = swaps; puts = puts }) (record { reads = reads; writes = writes; swaps = swaps; puts = more }) status
  job_cause reads writes swaps = record {
    read_fault = λ at. absurd (not_read at);
    write_fault = λ at. absurd (not_write at);
    swap_fault = λ at. absurd (not_swap at);
    output_fault = λ at. (has None None).put (put_at ended (sym is ∙ at));
  }
