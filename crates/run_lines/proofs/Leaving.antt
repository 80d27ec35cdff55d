-- What parts of a run leave, one part after another.
use Rattle.std.proofs.Common.{◌≡◌, ℕ, List, [], ◌∷◌, Option, Some, None, Result, Ok, Err, IfSome, refl, sym, ◌∙◌, subst, arith}
use Rattle.std.specs.Result.{IsErrAnd}
use Rattle.outside_io.specs.Files.{Files}
use Rattle.model_runs.specs.declared.ending.End.{End}
use Rattle.model_runs.specs.declared.ending.End.TheVariants as ends
use Rattle.model_runs.specs.Events.{Event, Puts, Outcome, Refusal, events_alone, then_do}
use Rattle.model_runs.specs.World.{World, after_all, LeavesSome}
use Rattle.model_runs.proofs.Leaving.{none_yet, all_came, after_all-append, some_after, some_of_first}
use Rattle.model_runs.specs.Ending.{IsWhole, Leaves, MayTear}
use Rattle.run_lines.specs.Causes.{Counts, HasCause, NoneFell}

-- a part whose events have all come, and then the rest
pub Leaves-then : (events : List Event) (rest : Outcome) (result : Result (Unit {0}) End) (old mid new : World) →
    mid ≡ after_all events old → Leaves rest result mid new → Leaves (then_do events rest) result old new
Leaves-then events rest result old mid new came leaves =
    let begin : Leaves rest result (after_all events old) new = subst (λ (w : World). Leaves rest result w new) came leaves in
    record {
      refused = leaves.refused;
      whole = λ whole. begin.whole whole ∙ sym (after_all-append events rest.events old);
      some = some_after (MayTear result) events rest.events old new begin.some;
    }

-- nothing is done for running out of memory
pub nothing_done : (outcome : Outcome) (world : World) → Leaves outcome (Err ends.NoMemory) world world
nothing_done outcome world = record { refused = tt; whole = λ whole. absurd whole; some = none_yet _ outcome.events world }

-- nothing is done after an I/O error of a read
pub nothing_read : (outcome : Outcome) (world : World) → Leaves outcome (Err ends.ReadFault) world world
nothing_read outcome world = record { refused = tt; whole = λ whole. absurd whole; some = none_yet _ outcome.events world }

-- nothing is left to be done
pub nothing_left : (world : World) → Leaves (events_alone []) (Ok tt) world world
nothing_left world = record { refused = refl; whole = λ whole. refl; some = refl }

-- a part that ended, and not at a refusal, leaves of an outcome what has come of its events
ended_early : (events : List Event) (end : End) (old new : World) → Leaves (events_alone events) (Err end) old new →
    (outcome : Outcome) → LeavesSome (MayTear (Err end)) outcome.events old new → Leaves outcome (Err end) old new
ended_early events ends.Refused old new leaves outcome some = absurd leaves.refused
ended_early events ends.ReadFault old new leaves outcome some = record { refused = tt; whole = λ whole. absurd whole; some = some }
ended_early events ends.WriteFault old new leaves outcome some = record { refused = tt; whole = λ whole. absurd whole; some = some }
ended_early events ends.OutputFault old new leaves outcome some = record { refused = tt; whole = λ whole. absurd whole; some = some }
ended_early events ends.NoMemory old new leaves outcome some = record { refused = tt; whole = λ whole. absurd whole; some = some }
ended_early events ends.SwapFault old new leaves outcome some = record { refused = tt; whole = λ whole. absurd whole; some = some }
ended_early events ends.SwapFull old new leaves outcome some = record { refused = tt; whole = λ whole. absurd whole; some = some }

-- a part that ends early, and so ends what it is a part of
pub Leaves-first : (events : List Event) (outcome : Outcome) (end : End) (old new : World) →
    Leaves (events_alone events) (Err end) old new → Leaves (then_do events outcome) (Err end) old new
Leaves-first events outcome end old new leaves =
    ended_early events end old new leaves (then_do events outcome) (some_of_first _ events outcome.events old new leaves.some)

-- the text of a refusal did not go out whole
pub Leaves-exposed : (events : List Event) (refused : Option Refusal) (end : End) (old new : World) →
    Leaves (events_alone events) (Err end) old new → Leaves (record { events = events; refused = refused }) (Err end) old new
Leaves-exposed events refused end old new leaves =
    ended_early events end old new leaves (record { events = events; refused = refused }) leaves.some

-- the text of a refusal went out
pub Leaves-refused : (events : List Event) (refusal : Refusal) (old new : World) → new ≡ after_all events old →
    Leaves (record { events = events; refused = Some refusal }) (Err ends.Refused) old new
Leaves-refused events refusal old new came =
    record { refused = tt; whole = λ whole. came; some = subst (λ (w : World). LeavesSome ⊥ events old w) (sym came) (all_came ⊥ events old) }

pub none_falls : {result : Result (Unit {0}) End} {old new : Counts} → HasCause result old new → NoneFell old new
none_falls cause = record { reads = cause.reads; writes = cause.writes; puts = cause.puts }

-- an I/O error after a part
pub HasCause-then : (result : Result (Unit {0}) End) (old mid new : Counts) → NoneFell old mid → HasCause result mid new → HasCause result old new
HasCause-then result old mid new first cause = record {
  read = λ e. omega (arith, cause.read e);
  write = λ e. omega (arith, cause.write e);
  put = λ e. omega (arith, cause.put e);
  swap = cause.swap;
  room = cause.room;
  reads = omega arith;
  writes = omega arith;
  puts = omega arith;
}

-- no I/O error has ended a part after which every event has come
whole_cause : (result : Result (Unit {0}) End) (old new : Counts) → IsWhole result → NoneFell old new → HasCause result old new
whole_cause result old new whole first = record {
  read = λ e. absurd (subst IsWhole e whole);
  write = λ e. absurd (subst IsWhole e whole);
  put = λ e. absurd (subst IsWhole e whole);
  swap = λ e. subst IsWhole e whole;
  room = λ e. subst IsWhole e whole;
  reads = first.reads;
  writes = first.writes;
  puts = first.puts;
}

-- a refusal is no I/O error
pub refused_cause : (old new : Counts) → NoneFell old new → HasCause (Err ends.Refused) old new
refused_cause old new first = whole_cause (Err ends.Refused) old new tt first

-- nor is the end of a part that is done
pub done_cause : (old new : Counts) → NoneFell old new → HasCause (Ok tt) old new
done_cause old new first = whole_cause (Ok tt) old new tt first

-- the same text
pub Leaves-same_text : (a b : List ℕ) (result : Result (Unit {0}) End) (old new : World) → a ≡ b →
    Leaves (events_alone (Puts a ∷ [])) result old new → Leaves (events_alone (Puts b ∷ [])) result old new
Leaves-same_text a b result old new same leaves = subst (λ (text : List ℕ). Leaves (events_alone (Puts text ∷ [])) result old new) same leaves

-- one end for another that is the same
pub Leaves-same_end : (outcome : Outcome) (end : End) (result : Result (Unit {0}) End) (old new : World) →
    IsErrAnd result (λ other. other ≡ end) → Leaves outcome (Err end) old new → Leaves outcome result old new
Leaves-same_end outcome end (Ok done) old new same leaves = absurd same
Leaves-same_end outcome end (Err other) old new same leaves = subst (λ (e : End). Leaves outcome (Err e) old new) (sym same) leaves

pub HasCause-same_end : (end : End) (result : Result (Unit {0}) End) (old new : Counts) →
    IsErrAnd result (λ other. other ≡ end) → HasCause (Err end) old new → HasCause result old new
HasCause-same_end end (Ok done) old new same cause = absurd same
HasCause-same_end end (Err other) old new same cause = subst (λ (e : End). HasCause (Err e) old new) (sym same) cause

pub falls_then : (old mid new : Counts) → NoneFell old mid → NoneFell mid new → NoneFell old new
falls_then old mid new first then = record { reads = omega arith; writes = omega arith; puts = omega arith }

-- the same files before
pub Leaves-same_files : (outcome : Outcome) (result : Result (Unit {0}) End) (old mid : Option Files) (text : Option (List ℕ)) (new : World) → mid ≡ old →
    Leaves outcome result (record { files = mid; text = text }) new → Leaves outcome result (record { files = old; text = text }) new
Leaves-same_files outcome result old mid text new same leaves = subst (λ (files : Option Files). Leaves outcome result (record { files = files; text = text }) new) same leaves

in_some : {A : Type 0} (exposed : Option A) (P Q : A → Type 0) → ((x : A) → P x → Q x) → IfSome exposed P → IfSome exposed Q
in_some None P Q weaker holds = tt
in_some (Some x) P Q weaker holds = weaker x holds

-- where the files are reported, an outcome that is another by what is known of them
pub exposed_outcome : (exposed : Option Files) (known : Files → Type 0) (outcome : Files → Outcome) (other : Outcome) (result : Result (Unit {0}) End) (old new : World) →
    ((files : Files) → known files → outcome files ≡ other) → IfSome exposed known → Leaves other result old new → IfSome exposed (λ files. Leaves (outcome files) result old new)
exposed_outcome exposed known outcome other result old new same holds leaves =
    in_some exposed known _ (λ files k. subst (λ (o : Outcome). Leaves o result old new) (sym (same files k)) leaves) holds

pub exposed_any : (exposed : Option Files) (outcome : Files → Outcome) (result : Result (Unit {0}) End) (old new : World) →
    ((files : Files) → Leaves (outcome files) result old new) → IfSome exposed (λ files. Leaves (outcome files) result old new)
exposed_any None outcome result old new leaves = tt
exposed_any (Some files) outcome result old new leaves = leaves files

pub Leaves-same_outcome : (outcome other : Outcome) (result : Result (Unit {0}) End) (old new : World) → outcome ≡ other → Leaves other result old new → Leaves outcome result old new
Leaves-same_outcome outcome other result old new same leaves = subst (λ (o : Outcome). Leaves o result old new) (sym same) leaves
