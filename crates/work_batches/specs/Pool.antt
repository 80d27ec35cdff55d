-- Pieces that are pushed once, taken once and collected once. Of 1,024 parts of a deque its owner has all at first: it
-- gives one to each thief, and gets it back with what the thief took. Who has a part knows which pieces were pushed,
-- and who has all parts knows which were taken.
use Rattle.std.specs.Prelude.{◌≡◌, ℕ, ◌+◌, ◌<◌, ◌==◌, nat_lt, cond, List, [], ◌∷◌, length, slice_get, Some}
use mathlib.Core.Option.{some}
use lib.ListN.{get_elem?}
use Rattle.work_batches.specs.declared.pieces.Piece.{Piece}
use Rattle.work_batches.specs.declared.pieces.Answer.{Answer}
use Rattle.work_batches.specs.declared.pieces.Hand.{Hand}

-- 1 for a number below n, else 0
abbrev pub once_below : ℕ → ℕ → ℕ
once_below k n = cond (nat_lt k n) 1 0

module _ {T : Type 0} where
  -- what is seen of a pass with so many parts
  abbrev pub hand : ℕ → List (Piece T) → List (Piece T) → Hand T
  hand parts pushed taken = record { parts = parts; pushed = pushed; taken = taken }

  -- no piece was taken
  abbrev pub HasTakenNone : Hand T → Type 0
  HasTakenNone v = v ≡ hand v.parts v.pushed []

  -- the second is the first after some pieces were taken
  abbrev pub OnlyTook : Hand T → Hand T → Type 0
  OnlyTook v w = w ≡ hand v.parts v.pushed w.taken

  -- one part, of who takes from these pieces
  abbrev pub IsThiefs : List (Piece T) → Hand T → Type 0
  IsThiefs pushed v = v ≡ hand 1 pushed v.taken

  -- one part, of who has taken no piece
  abbrev pub IsNewThiefs : Hand T → Type 0
  IsNewThiefs v = v ≡ hand 1 v.pushed []

  -- how often the number is among the pieces
  abbrev pub times : ℕ → List (Piece T) → ℕ
  times k [] = 0
  times k (p ∷ ps) = cond (k == p.number) 1 0 + times k ps

  -- the sum over the passes
  abbrev pub total : (Hand T → ℕ) → List (Hand T) → ℕ
  total f [] = 0
  total f (v ∷ vs) = f v + total f vs

  -- the piece is the one that was pushed under its number
  abbrev pub IsPushed : List (Piece T) → Piece T → Type 0
  IsPushed pushed p = slice_get pushed p.number ≡ Some p

  -- the work can be done on each of the pieces
  abbrev pub CanDo : (T → Type 0) → List (Piece T) → Type 0
  CanDo pre pushed = (p : Piece T) → IsPushed pushed p → pre p.value

  -- all of the pieces have this property
  abbrev pub Each : (Piece T → Type 0) → List (Piece T) → Type 0
  Each P [] = Unit {0}
  Each P (p ∷ ps) = P p × Each P ps

  -- each piece that was pushed is in the deque or was taken by one pass, and is there once
  pub record Shared (items : List (Piece T)) (views : List (Hand T)) : Type 0 where
    pub pushed : List (Piece T)
    pub parts : total (λ v. v.parts) views ≡ 1024
    pub numbers : (k : ℕ) → total (λ v. times k v.taken) views + times k items ≡ once_below k (length pushed)
    pub lengths : total (λ v. length v.taken) views + length items ≡ length pushed
    pub items_are : Each (IsPushed pushed) items
    pub idle : (port : ℕ) (v : Hand T) → get_elem? views port ≡ some v → v.parts ≡ 0 → v.taken ≡ []
    pub knows : (port : ℕ) (v : Hand T) → get_elem? views port ≡ some v → 0 < v.parts → v.pushed ≡ pushed
    pub taken_are : (port : ℕ) (v : Hand T) → get_elem? views port ≡ some v → Each (IsPushed pushed) v.taken

  -- all pieces were taken, each once
  pub record AllTaken (pushed taken : List (Piece T)) : Type 0 where
    pub numbers : (k : ℕ) → times k taken ≡ once_below k (length pushed)
    pub are : Each (IsPushed pushed) taken

  -- the answers to the pieces, one by one
  abbrev pub Answers : {R : Type 0} → (T → R → Type 0) → List (Piece T) → List (Answer R) → Type 0
  Answers post [] [] = Unit {0}
  Answers post (p ∷ ps) (d ∷ ds) = (d.number ≡ p.number) × post p.value d.value × Answers post ps ds
  Answers post [] (d ∷ ds) = ⊥
  Answers post (p ∷ ps) [] = ⊥

  -- pieces of these values, numbered from k
  abbrev pub numbered : ℕ → List T → List (Piece T)
  numbered k [] = []
  numbered k (x ∷ xs) = record { number = k; value = x } ∷ numbered (k + 1) xs
