-- I/O errors of parts of a run.
use Rattle.std.proofs.Common.{◌≡◌, ◌≤◌, Bool, true, false, Result, Ok, Err, refl, sym, subst, arith}
use Rattle.chain_owners.specs.Counts.{Continues, Counts, Rose}
use Rattle.chain_owners.proofs.Growing.{continues-both, continues-same}
use Rattle.model_runs.specs.declared.ending.End.{End}
use Rattle.model_runs.specs.declared.ending.End.TheVariants as ends
use Rattle.run_lines.specs.Causes as causes
use Rattle.run_lines.specs.Moments.{HasFaults, Moment}

pub continues_same : (old new : Counts) → new ≡ old → Continues old new
continues_same old new same = subst (λ (counts : Counts). Continues old counts) (sym same) (continues-same old)

-- a part that doesn't touch the chain
pub faults_by_cause : (result : Result (Unit {0}) End) (old new : Moment) → new.chain ≡ old.chain →
    causes.HasCause result (record { reads = old.reads; writes = old.writes; puts = old.puts }) (record { reads = new.reads; writes = new.writes; puts = new.puts }) → HasFaults result old new
faults_by_cause result old new same cause = record {
  read = cause.read;
  write = cause.write;
  put = cause.put;
  swap = λ e. absurd (cause.swap e);
  reads = cause.reads;
  writes = cause.writes;
  puts = cause.puts;
  chain = continues_same old.chain new.chain same;
}

-- a part after another
pub faults_then : (first result : Result (Unit {0}) End) (old mid new : Moment) → HasFaults first old mid → HasFaults result mid new → HasFaults result old new
faults_then first result old mid new before after = record {
  read = λ e. omega (arith, after.read e, before.reads);
  write = λ e. omega (arith, after.write e, before.writes);
  put = λ e. omega (arith, after.put e, before.puts);
  swap = λ e. omega (arith, after.swap e, before.chain.later);
  reads = omega (arith, before.reads, after.reads);
  writes = omega (arith, before.writes, after.writes);
  puts = omega (arith, before.puts, after.puts);
  chain = continues-both old.chain mid.chain new.chain before.chain after.chain;
}

-- one end for another that is the same
pub faults_same_end : (end other : End) (old new : Moment) → other ≡ end → HasFaults (Err end) old new → HasFaults (Err other) old new
faults_same_end end other old new same faults = subst (λ (e : End). HasFaults (Err e) old new) (sym same) faults

-- the part ended in no I/O error but one of the swap
abbrev pub only_swap : Result (Unit {0}) End → Bool
only_swap (Err ends.ReadFault) = false
only_swap (Err ends.WriteFault) = false
only_swap (Err ends.OutputFault) = false
only_swap _ = true

pub faults_of_swap : (result : Result (Unit {0}) End) (old new : Moment) → only_swap result ≡ true → (result ≡ Err ends.SwapFault → Rose old.chain.faults new.chain.faults) →
    old.reads ≤ new.reads → old.writes ≤ new.writes → old.puts ≤ new.puts → Continues old.chain new.chain → HasFaults result old new
faults_of_swap result old new only swap reads writes puts chain =
    let other : (end : End) → result ≡ Err end → only_swap (Err end) ≡ true = λ end is. subst (λ (r : Result (Unit {0}) End). only_swap r ≡ true) is only in
    record {
      read = λ e. absurd (let is = other ends.ReadFault e in cc);
      write = λ e. absurd (let is = other ends.WriteFault e in cc);
      put = λ e. absurd (let is = other ends.OutputFault e in cc);
      swap = swap;
      reads = reads;
      writes = writes;
      puts = puts;
      chain = chain;
    }

-- a part that touches no device but the chain, and ends nothing
pub chain_faults : (old new : Moment) → new.reads ≡ old.reads → new.writes ≡ old.writes → new.puts ≡ old.puts → Continues old.chain new.chain → HasFaults (Ok tt) old new
chain_faults old new reads writes puts = faults_of_swap (Ok tt) old new refl (λ e. absurd (cc)) (omega (arith, reads)) (omega (arith, writes)) (omega (arith, puts))

pub no_faults : (now : Moment) → HasFaults (Ok tt) now now
no_faults now = chain_faults now now refl refl refl (continues_same now.chain now.chain refl)
