-- What is retained of a history, one step at a time.
use Rattle.std.specs.Prelude.{◌≡◌, List, [], ◌∷◌, Option, Some, None}
use Rattle.model_states.specs.Retained.{Separated}

-- what separates the first of some states, where there is one
abbrev pub first_delta : {State Delta : Type 0} → List (Separated State Delta) → Option Delta
first_delta [] = None
first_delta (first ∷ rest) = Some first.delta

-- The first of the states ahead is the latest one now, and the one that was is the first of those behind: the same delta
-- separates the two.
pub record IsMoved {State Delta : Type 0} (ahead behind : List (Separated State Delta)) (left latest : State) (rest more : List (Separated State Delta)) : Type 0 where
  pub delta : Delta
  pub taken : ahead ≡ record { state = latest; delta = delta } ∷ rest
  pub put : more ≡ record { state = left; delta = delta } ∷ behind
