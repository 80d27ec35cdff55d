-- Values that hold names of one chain, each an owner of each as often as it holds it.
use Rattle.std.specs.Prelude.{◌≡◌, ℕ, ◌+◌, ◌<◌, ◌≤◌, ◌==◌, ◌⊎◌, List, [], ◌∷◌, if◌then◌else◌, is_some}
use Rattle.chain_owners.specs.Held.{Held, bytes_of, length_of, max_owners, owners_of}

-- how often a value that holds these names holds this one
abbrev pub times : List ℕ → ℕ → ℕ
times [] name = 0
times (first ∷ rest) name = (if first == name then 1 else 0) + times rest name

-- each name has at least as many owners as this list has it times; a number that reached its end is enough
pub record Owns (held : Held) (names : List ℕ) : Type 0 where
  pub counted : (name : ℕ) → (owners_of held name ≡ max_owners) ⊎ (times names name ≤ owners_of held name)

-- the name has an owner beside those in this list
abbrev pub HasOther : Held → List ℕ → ℕ → Type 0
HasOther held names name = (owners_of held name ≡ max_owners) ⊎ (times names name < owners_of held name)

-- the name has as many bytes as before, and the same where they are exposed; or is missing as before
pub record Unchanged (old new : Held) (name : ℕ) : Type 0 where
  pub length : length_of new name ≡ length_of old name
  pub bytes : bytes_of new name ≡ bytes_of old name

-- What a call leaves to all other owners, where the values that it was handed held the names `before`
-- and those that it was handed or that it answers hold the names `after`.
pub record Respects (old new : Held) (before after : List ℕ) : Type 0 where
  -- a number that reached its end stays there
  pub stopped : (name : ℕ) → owners_of old name ≡ max_owners → owners_of new name ≡ max_owners
  -- each name has as many other owners as before
  pub others : (name : ℕ) →
      (owners_of new name ≡ max_owners) ⊎ (owners_of new name + times before name ≡ owners_of old name + times after name)
  -- a name that others alone hold has as many owners as before
  pub unshared : (name : ℕ) → times before name ≡ 0 → 0 < owners_of old name → owners_of new name ≡ owners_of old name
  -- a name that has an other owner keeps its bytes
  pub unchanged : (name : ℕ) → HasOther old before name → Unchanged old new name
  -- bytes stay exposed, or stay hidden
  pub exposed : is_some new.content ≡ is_some old.content

-- What is seen of a value over a chain depends on nothing but the bytes of the names that it holds.
abbrev pub IsFramed : {X : Type 0} → List ℕ → (Held → X) → Type 0
IsFramed names seen =
    (old new : Held) → is_some new.content ≡ is_some old.content
    → ((name : ℕ) → 0 < times names name → Unchanged old new name) → seen new ≡ seen old
