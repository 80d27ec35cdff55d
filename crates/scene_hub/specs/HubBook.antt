-- The rule of the book of a hub's log, and what its steps tell.
use Rattle.std.specs.Prelude.{◌≡◌, ◌≢◌, ℕ, ◌<◌, true, List, [], ◌∷◌, ◌++◌, length, All}
use Rattle.logbook.specs.Pages.{Cell, cell, Step, View, Book, Named, may_make}
use Rattle.scene_hub.specs.declared.entry.Entry.{Entry}
use Rattle.scene_hub.specs.SceneLog.{Begins}

abbrev pub base_of : Book → Named
base_of b = record { tracked = true; key = 0; book = b }

module _ {S : Type 0} where
  -- the pen of the entry's key is used up
  abbrev pub IsUsed : List Cell → Entry S → Type 0
  IsUsed cells e = (e.key < length cells) × ((cell cells e.key).1 ≡ true)

  -- the first word is there for steps to be made on. Each entry of the log has used up its pen
  pub record IsKept (cells : List Cell) (log : List (Entry S)) : Type 0 where
    pub base : (0 < length cells) × ((cell cells 0).1 ≡ true)
    pub used : All (IsUsed cells) log

  -- the log ends with an entry that begins a list, and a pen for the second scene was given
  abbrev pub ListBegins : Step (Entry S) → View (Entry S) (Unit {0}) → ℕ → View (Entry S) (Unit {0}) → Type 0
  ListBegins s v found w = (w.1.0.right ≡ may_make)
      × ((before : List (Entry S)) × (w.0 ≡ before ++ record { key = 0; next = w.1.0.key; scene = s.ask.scene } ∷ []))

  -- a pen was given
  abbrev pub PenTaken : Step (Entry S) → View (Entry S) (Unit {0}) → ℕ → View (Entry S) (Unit {0}) → Type 0
  PenTaken s v found w = w.1.0.right ≡ may_make

  -- the entry was appended to all that the old log had, and perhaps more. No entry before it has its key
  abbrev pub IsAppended : List (Entry S) → List (Entry S) → Entry S → Type 0
  IsAppended old new e = (before : List (Entry S)) × (new ≡ before ++ e ∷ []) × Begins old before × All (λ x. x.key ≢ e.key) before

  abbrev pub EntryAppended : Step (Entry S) → View (Entry S) (Unit {0}) → ℕ → View (Entry S) (Unit {0}) → Type 0
  EntryAppended s v found w = IsAppended v.0 w.0 s.ask
