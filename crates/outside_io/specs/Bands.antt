-- Bytes of files that are made band by band.
use Rattle.std.specs.Prelude.{◌≡◌, ℕ, Bool, true, false, List, [], ◌++◌, ◌⊎◌, Option, Some, None, Result, Ok, Err}
use Rattle.outside_io.specs.Files.{Files}
use Rattle.outside_io.specs.Shelf.{WriteLeaves}
use Rattle.outside_io.specs.declared.bands.BandsAnswer.{BandsAnswer}
use Rattle.outside_io.specs.declared.bands.BandsAnswer.TheVariants as answers
use Rattle.outside_io.specs.declared.shelf.ShelfAnswer.{ShelfAnswer}
use Rattle.outside_io.specs.declared.shelf.ShelfAnswer.TheVariants as shelf

-- What a maker gives, by the bytes that it may have had left and those that it may have left then: a band goes before
-- the rest, and where there is none the rest is empty.
abbrev pub GivesBand : Bool → (List ℕ → Type 0) → List ℕ → (List ℕ → Type 0) → Type 0
GivesBand false old band new = old []
GivesBand true old band new = (rest : List ℕ) → new rest → old (band ++ rest)

-- What a write leaves of some bytes that a maker may give.
abbrev pub WriteSomeLeaves : (List ℕ → Type 0) → Option Files → List ℕ → Result (Unit {0}) ShelfAnswer → Option Files → Type 0
WriteSomeLeaves may_give old name result new = (bytes : List ℕ) × may_give bytes × WriteLeaves old name bytes result new

-- The files that a call leaves that makes a file hold the bands that a maker may give, where they are exposed: what a write
-- of their bytes leaves, and where a band could not be made the files as they were. So they may be after running out of
-- memory, since the bands may not have been made then.
abbrev pub BandsLeave : {E : Type 0} → (List ℕ → Type 0) → Option Files → List ℕ → Result (Unit {0}) (BandsAnswer E) → Option Files → Type 0
BandsLeave may_give None name result new = new ≡ None
BandsLeave may_give (Some files) name (Ok done) new = WriteSomeLeaves may_give (Some files) name (Ok tt) new
BandsLeave may_give (Some files) name (Err answers.Failed) new = WriteSomeLeaves may_give (Some files) name (Err shelf.Failed) new
BandsLeave may_give (Some files) name (Err answers.NoMemory) new = (new ≡ Some files) ⊎ WriteSomeLeaves may_give (Some files) name (Err shelf.NoMemory) new
BandsLeave may_give (Some files) name (Err (answers.Refused why)) new = new ≡ Some files

-- whether the answer is that the device failed
abbrev pub has_failed : {E : Type 0} → Result (Unit {0}) (BandsAnswer E) → Bool
has_failed (Ok done) = false
has_failed (Err answers.Failed) = true
has_failed (Err answers.NoMemory) = false
has_failed (Err (answers.Refused why)) = false
