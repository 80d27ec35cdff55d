-- What clauses see of a shelf in memory.
use Rattle.std.specs.Prelude.{◌≡◌, ℕ, ◌/◌, ◌≤◌, false, IsErrOf, IsTrue, List, OnOk, length, take, Result, Some, Ok, Err, refl}
use Rattle.std.specs.Coded.{Coded, code_by, coded×}
use Rattle.outside_io.specs.Calls.{Calls, after_call, calls_code, next_fails}
use Rattle.outside_io.specs.Files.{Files, filed}
use Rattle.outside_io.specs.Shelf.{WriteLeaves}
use Rattle.outside_io.specs.StoredFiles.{files_code}
use Rattle.outside_io.specs.declared.shelf.ShelfAnswer.{ShelfAnswer}
use Rattle.outside_io.specs.declared.shelf.ShelfAnswer.TheVariants as answers

-- the files, and the reads and writes that were asked for
pub record ShelfState : Type 0 where
  pub files : Files
  pub reads : Calls
  pub writes : Calls

-- a shelf is stored as its files and its calls
abbrev pub shelf_code : Coded ShelfState
shelf_code =
    code_by (Files × (Calls × Calls)) (coded× files_code (coded× calls_code calls_code))
    (λ shelf. (shelf.files, (shelf.reads, shelf.writes)))
    (λ parts. record { files = parts.0; reads = parts.1.0; writes = parts.1.1 }) (λ _. refl)

-- The files that a write leaves: with all of its bytes at Ok, and with the first half of them, rounded down, after an I/O
-- error. For running out of memory nothing changes.
abbrev pub stored_by : Result (Unit {0}) ShelfAnswer → Files → List ℕ → List ℕ → Files
stored_by (Ok done) files name bytes = filed files name bytes
stored_by (Err answers.Failed) files name bytes = filed files name (take (length bytes / 2) bytes)
stored_by (Err answers.NoMemory) files name bytes = files
stored_by (Err answers.Absent) files name bytes = files
stored_by (Err (answers.TooLong taken)) files name bytes = files

-- A write fails at the chosen calls and at no others, and is counted.
pub record Stores (name bytes : List ℕ) (result : Result (Unit {0}) ShelfAnswer) (old new : ShelfState) : Type 0 where
  pub leaves : WriteLeaves (Some old.files) name bytes result (Some new.files)
  pub later : old.writes.faults ≤ new.writes.faults
  pub chosen : IsErrOf result answers.Failed → IsTrue (next_fails old.writes)
  pub others : OnOk result (next_fails old.writes ≡ false)
  pub written : new.files ≡ stored_by result old.files name bytes
  pub counted : new.writes ≡ after_call old.writes
  pub reads : new.reads ≡ old.reads
