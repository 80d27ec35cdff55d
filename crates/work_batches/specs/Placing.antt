-- Answers by the numbers of their pieces.
use Rattle.std.specs.Prelude.{◌≡◌, ℕ, ◌<◌, ◌==◌, cond, length, List, [], ◌∷◌, Option, Some, None, slice_index_or, All}
use Rattle.work_batches.specs.declared.pieces.Answer.{Answer}

-- the first that is there
abbrev pub instead : {U : Type 0} → Option U → Option U → Option U
instead None other = other
instead (Some x) other = Some x

module _ {U : Type 0} where
  -- the last answer with this number
  abbrev pub found : ℕ → List (Answer U) → Option U
  found k [] = None
  found k (d ∷ ds) = instead (found k ds) (cond (k == d.number) (Some d.value) None)

  -- their numbers are below this one
  abbrev pub AreBelow : ℕ → List (Answer U) → Type 0
  AreBelow n ds = All (λ (d : Answer U). d.number < n) ds

  -- so many slots, each of which has the last answer with its number
  pub record HaveAnswers (count : ℕ) (slots : List (Option U)) (ds : List (Answer U)) : Type 0 where
    pub all : length slots ≡ count
    pub each : (k : ℕ) (o : Option U) → k < count → slice_index_or slots k o ≡ found k ds
