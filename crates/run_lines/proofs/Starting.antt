-- Runs of lines from their start on.
use Rattle.std.proofs.Common.{◌≡◌, ℕ, ◌≤◌, Bool, List, [], length, Option, Some, None, Result, Ok, Err, IfOk, IfSome, is_some, min, refl, ap, subst, arith}
use Rattle.std.specs.List.{IsDistinct}
use Rattle.std.specs.Result.{IsErrAnd}
use Rattle.tile_chain.specs.OwnedTiles.{counts_over, nothing_over}
use Rattle.chain_owners.specs.Counts.{Counts}
use Rattle.chain_owners.specs.Held.{Held}
use Rattle.commit_session.specs.Parts.{Parts, new_parts}
use Rattle.commit_session.specs.Seen.{IsSessionOf}
use Rattle.model_runs.proofs.RunCounts.{last_true}
use Rattle.model_runs.specs.Counts.{HasTrueCounts}
use Rattle.model_operations.specs.Meanings.{int_meanings, same_operation}
use Rattle.model_operations.specs.declared.operation.IntOp.{IntOp}
use Rattle.model_runs.specs.Ending.{ended}
use Rattle.model_runs.specs.Run.{effects, state_after}
use Rattle.model_runs.specs.State.{RunState, first_state}
use Rattle.model_runs.specs.declared.ending.End.{End}
use Rattle.model_runs.specs.declared.ending.End.TheVariants as ends
use Rattle.model_sessions.proofs.Steps.{start}
use Rattle.model_sessions.specs.Sessions.{IsSession, new_session}
use Rattle.outside_io.specs.Files.{Files}
use Rattle.outside_io.specs.Swap.{Blocks}
use Rattle.pixel_formats.specs.Limits.{max_lines}
use Rattle.run_lines.proofs.Carrying.{nothing_carried}
use Rattle.run_lines.proofs.Faults.{faults_same_end}
use Rattle.run_lines.specs.Carried.{CarriesOutLines}
use Rattle.run_lines.specs.Moments.{HasFaults, Moment}
use Rattle.run_lines.proofs.Going.{lines_same_end}
use Rattle.run_lines.specs.States.{Holds}
use Rattle.script_read.specs.declared.command.Line.{Line}

content_begins : (blocks : Option Blocks) → is_some (nothing_over blocks).content ≡ is_some blocks
content_begins None = refl
content_begins (Some blocks) = refl

-- the session without buffers, nodes and pairs is valid, however many pairs may be cached
first_valid : (capacity : ℕ) → IsSession int_meanings capacity new_session
unfolding IsDistinct
first_valid capacity = record { history = start int_meanings; right = tt; distinct = tt; few = omega arith }

-- a session over a chain without names is that of the state before the first line
begins : (capacity : ℕ) (blocks : Option Blocks) (files : Files) → IsSessionOf same_operation int_meanings (new_parts capacity) (nothing_over blocks) new_session →
    Holds (is_some blocks) capacity (first_state []) files (new_parts capacity) (nothing_over blocks) (Some files)
begins capacity blocks files session = record {
  session = session;
  valid = first_valid capacity;
  applied = omega arith;
  as_many = refl;
  unwatched = refl;
  content = content_begins blocks;
  same_lengths = λ name. refl;
  same = λ e. refl;
}

-- the same where a run begins
pub run_begins : (capacity : ℕ) (blocks : Option Blocks) (files : Files) (parts : Parts IntOp) (held : Held) (shelf : Option Files) →
    parts ≡ new_parts capacity → held ≡ nothing_over blocks → shelf ≡ Some files → IsSessionOf same_operation int_meanings parts held new_session →
    Holds (is_some blocks) capacity (first_state []) files parts held shelf
run_begins capacity blocks files parts held shelf none nothing shown session =
    rw (none, nothing, shown) (begins capacity blocks files (rw (none, nothing) at session))

-- the counts of so few lines are the true ones
pub true_at_end : (capacity : ℕ) (files : Files) (lines : List Line) → length lines ≤ max_lines →
    HasTrueCounts (state_after (first_state []) (effects capacity (first_state []) files lines))
true_at_end capacity files lines few = last_true capacity [] files lines few

pub where_exposed : (shelf : Option Files) (P : Files → Type 0) → ((files : Files) → shelf ≡ Some files → P files) → IfSome shelf P
where_exposed None P holds = tt
where_exposed (Some files) P holds = holds files refl

-- no memory was left before the first line
memory_lines : (exposed : Bool) (capacity : ℕ) (state : RunState) (files : Files) (lines : List Line) (result : Result (Unit {0}) End) (old new : Moment) → IsErrAnd result (λ end. end ≡ ends.NoMemory) →
    new.files ≡ old.files → new.text ≡ old.text → CarriesOutLines exposed capacity state files lines result old new
memory_lines exposed capacity state files lines result old new same files_same text_same =
    lines_same_end exposed capacity state files lines ends.NoMemory result old new same
    (nothing_carried exposed _ _ ends.NoMemory old new (λ e. cc) files_same text_same (λ e. absurd (cc)))

pub memory_begins : (exposed : Bool) (capacity : ℕ) (shelf : Option Files) (lines : List Line) (result : Result (Unit {0}) End) (old new : Moment) → IsErrAnd result (λ end. end ≡ ends.NoMemory) →
    new.files ≡ old.files → new.text ≡ old.text → IfSome shelf (λ files. CarriesOutLines exposed capacity (first_state []) files lines result old new)
memory_begins exposed capacity shelf lines result old new same files_same text_same =
    where_exposed shelf (λ files. CarriesOutLines exposed capacity (first_state []) files lines result old new)
    (λ files shown. memory_lines exposed capacity (first_state []) files lines result old new same files_same text_same)

-- the counts of the chain afterwards don't matter
lines_rechained : (exposed : Bool) (capacity : ℕ) (state : RunState) (files : Files) (lines : List Line) (result : Result (Unit {0}) End) (old new : Moment) (counts : Counts) →
    CarriesOutLines exposed capacity state files lines result old new → CarriesOutLines exposed capacity state files lines result old (record new { chain = counts })
lines_rechained exposed capacity state files lines result old new counts carried = record {
  refused = carried.refused;
  whole = carried.whole;
  texts = carried.texts;
  prefix = carried.prefix;
  texts_prefix = carried.texts_prefix;
  full = carried.full;
}

pub lines_from : (exposed : Bool) (capacity : ℕ) (state : RunState) (files : Files) (lines : List Line) (result : Result (Unit {0}) End) (old new : Moment) (first counts : Counts) → old.chain ≡ first →
    CarriesOutLines exposed capacity state files lines result old new → CarriesOutLines exposed capacity state files lines result (record old { chain = first }) (record new { chain = counts })
lines_from exposed capacity state files lines result old new first counts is carried =
    subst (λ (c : Counts). CarriesOutLines exposed capacity state files lines result (record old { chain = c }) (record new { chain = counts })) is
    (lines_rechained exposed capacity state files lines result old new counts carried)

-- the counts of I/O errors of a chain are those of the swap below it
pub faults_rechained : (result : Result (Unit {0}) End) (old new : Moment) (first counts : Counts) → old.chain ≡ first → counts.faults ≡ new.chain.faults → counts.used ≡ first.used → counts.capacity ≡ first.capacity →
    HasFaults result old new → HasFaults result (record old { chain = first }) (record new { chain = counts })
faults_rechained result old new first counts is same used capacity faults =
    let before : old.chain.faults ≡ first.faults = ap (λ (c : Counts). c.faults) is in
    record {
      read = faults.read;
      write = faults.write;
      put = faults.put;
      swap = λ e. let rose = faults.swap e in omega (arith, rose, before, same);
      reads = faults.reads;
      writes = faults.writes;
      puts = faults.puts;
      chain = record { used = used; capacity = capacity; later = let later = faults.chain.later in omega (arith, later, before, same) };
    }

pub over_counts : (faults used capacity blocks size resident : ℕ) → used ≡ min blocks size → capacity ≡ resident → counts_over faults used capacity ≡ counts_over faults (min blocks size) resident
over_counts faults used capacity blocks size resident is as_many = rw (is, as_many) refl

-- one end for another that is the same, whatever is answered
pub ended_same : {A : Type 0} (result : Result A End) (end : End) → IsErrAnd result (λ other. other ≡ end) → IsErrAnd (ended result) (λ other. other ≡ end)
ended_same (Ok value) end same = same
ended_same (Err other) end same = same

pub faults_ended : {A : Type 0} (result : Result A End) (end : End) (old new : Moment) → IsErrAnd result (λ other. other ≡ end) → HasFaults (Err end) old new → HasFaults (ended result) old new
faults_ended (Ok value) end old new same faults = absurd same
faults_ended (Err other) end old new same faults = faults_same_end end other old new same faults

pub none_counted : {A : Type 0} (shelf : Option Files) (result : Result A End) (end : End) (P : Files → A → Type 0) → IsErrAnd result (λ other. other ≡ end) → IfSome shelf (λ files. IfOk result (P files))
none_counted None result end P same = tt
none_counted (Some files) (Ok value) end P same = absurd same
none_counted (Some files) (Err other) end P same = tt
