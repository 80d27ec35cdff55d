-- The I/O errors that end a part of a run, none of which is of the swap.
use Rattle.std.specs.Prelude.{◌≡◌, ◌≢◌, ℕ, ◌≤◌, Result, Err}
use Rattle.chain_owners.specs.Counts.{Rose}
use Rattle.model_runs.specs.declared.ending.End.{End}
use Rattle.model_runs.specs.declared.ending.End.TheVariants as ends

-- counts of I/O errors: of reads and writes of a shelf, and of a sink
pub record Counts : Type 0 where
  pub reads : ℕ
  pub writes : ℕ
  pub puts : ℕ

-- no count falls
pub record NoneFell (old new : Counts) : Type 0 where
  pub reads : old.reads ≤ new.reads
  pub writes : old.writes ≤ new.writes
  pub puts : old.puts ≤ new.puts

-- Each I/O error that ends a run comes only where its count rose, and no count falls. The swap neither fails nor is
-- full.
pub record HasCause (result : Result (Unit {0}) End) (old new : Counts) : Type 0 where
  pub read : result ≡ Err ends.ReadFault → Rose old.reads new.reads
  pub write : result ≡ Err ends.WriteFault → Rose old.writes new.writes
  pub put : result ≡ Err ends.OutputFault → Rose old.puts new.puts
  pub swap : result ≢ Err ends.SwapFault
  pub room : result ≢ Err ends.SwapFull
  pub reads : old.reads ≤ new.reads
  pub writes : old.writes ≤ new.writes
  pub puts : old.puts ≤ new.puts

-- the same of a part that uses a shelf alone, by its counts of reads and writes, whatever the sink's count
abbrev pub HasShelfCause : {Shelf : Type 0} → (Shelf → ℕ) → (Shelf → ℕ) → Result (Unit {0}) End → Shelf → Shelf → Type 0
HasShelfCause reads writes result old new =
    (puts : ℕ) → HasCause result (record { reads = reads old; writes = writes old; puts = puts })
    (record { reads = reads new; writes = writes new; puts = puts })

-- the same of a part that uses a sink alone, by its count, whatever the shelf's counts
abbrev pub HasSinkCause : {Sink : Type 0} → (Sink → ℕ) → Result (Unit {0}) End → Sink → Sink → Type 0
HasSinkCause faults result old new =
    (reads writes : ℕ) → HasCause result (record { reads = reads; writes = writes; puts = faults old })
    (record { reads = reads; writes = writes; puts = faults new })
