-- What a shelf of files answers to a read and to a write, and what it holds then.
use Rattle.std.specs.Prelude.{◌≡◌, ℕ, ◌+◌, ◌-◌, ◌<◌, ◌≤◌, ◌⊎◌, Bool, true, false, List, drop, length, min, take, Option, Some, None, Result, Ok, Err, ⊤}
use Rattle.std.specs.Option.{option_map}
use Rattle.std.specs.Global.{Vec}
use Rattle.outside_io.specs.Files.{Files, filed}
use Rattle.outside_io.specs.declared.shelf.ShelfAnswer.{ShelfAnswer}
use Rattle.outside_io.specs.declared.shelf.ShelfAnswer.TheVariants as answers

-- whether the answer is that the device failed
abbrev pub has_failed : {A : Type 0} → Result A ShelfAnswer → Bool
has_failed (Ok value) = false
has_failed (Err answers.Failed) = true
has_failed (Err answers.Absent) = false
has_failed (Err (answers.TooLong taken)) = false
has_failed (Err answers.NoMemory) = false

-- What a read of at most `limit` bytes answers, where this is found under the name: its bytes, or that there is
-- no such file, or that there are more. An I/O error and running out of memory may come whatever is found.
abbrev pub Answers : Option (List ℕ) → ℕ → Result (Vec ℕ) ShelfAnswer → Type 0
Answers found limit (Ok bytes) = found ≡ Some bytes.items
Answers found limit (Err answers.Absent) = found ≡ None
Answers found limit (Err (answers.TooLong taken)) = (bytes : List ℕ) × (found ≡ Some bytes) × (limit < length bytes)
Answers found limit (Err answers.Failed) = ⊤
Answers found limit (Err answers.NoMemory) = ⊤

-- Whatever is found, a read takes at most one byte more than the limit.
abbrev pub TakesAtMost : ℕ → Result (Vec ℕ) ShelfAnswer → Type 0
TakesAtMost limit (Ok bytes) = length bytes.items ≤ limit
TakesAtMost limit (Err answers.Absent) = ⊤
TakesAtMost limit (Err (answers.TooLong taken)) = taken ≡ limit + 1
TakesAtMost limit (Err answers.Failed) = ⊤
TakesAtMost limit (Err answers.NoMemory) = ⊤

-- What a read of so many bytes from a position on answers, where this is found under the name, and what it reads: the
-- file's bytes from there on, fewer only where it ends. An I/O error and running out of memory may come whatever is found.
abbrev pub GivesPart : Option (List ℕ) → ℕ → ℕ → List ℕ → Result ℕ ShelfAnswer → Type 0
GivesPart None start wanted read (Ok count) = ⊥
GivesPart (Some bytes) start wanted read (Ok count) =
    (count ≡ min wanted (length bytes - start)) × (take count read ≡ take count (drop start bytes))
GivesPart found start wanted read (Err answers.Absent) = found ≡ None
GivesPart found start wanted read (Err (answers.TooLong taken)) = ⊥
GivesPart found start wanted read (Err answers.Failed) = ⊤
GivesPart found start wanted read (Err answers.NoMemory) = ⊤

-- The files that a write leaves: with these bytes after Ok, with a prefix of them after an I/O error, and after running out
-- of memory with a prefix or as they were.
abbrev pub WriteLeaves : Option Files → List ℕ → List ℕ → Result (Unit {0}) ShelfAnswer → Option Files → Type 0
WriteLeaves old name bytes (Ok done) new = new ≡ option_map (λ files. filed files name bytes) old
WriteLeaves old name bytes (Err answers.Failed) new =
    (n : ℕ) × (new ≡ option_map (λ files. filed files name (take n bytes)) old)
WriteLeaves old name bytes (Err answers.NoMemory) new =
    (new ≡ old) ⊎ ((n : ℕ) × (new ≡ option_map (λ files. filed files name (take n bytes)) old))
WriteLeaves old name bytes (Err answers.Absent) new = ⊥
WriteLeaves old name bytes (Err (answers.TooLong taken)) new = ⊥
