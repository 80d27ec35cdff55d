-- The counts of a chain, by which refusals of its swap are excused.
use Rattle.std.specs.Prelude.{◌≡◌, ℕ, ◌+◌, ◌-◌, ◌*◌, ◌^◌, ◌<◌, ◌≤◌, min, Option, Some, None}
use Rattle.std.specs.Option.{option_map}
use Rattle.std.specs.FinMap as map
use Rattle.chain_owners.specs.Held.{Held}
use Rattle.chain_owners.specs.Room.{Room}

-- a count of I/O errors rose by one at least, or stays at the last value of its type
abbrev pub Rose : ℕ → ℕ → Type 0
Rose before now = min (before + 1) (2 ^ 64 - 1) ≤ now

-- How many calls on the swap failed, how many names there are, how many blocks the store uses, where
-- there is one, and how many tiles the cache holds at most.
pub record Counts : Type 0 where
  pub faults : ℕ
  pub names : ℕ
  pub used : Option ℕ
  pub capacity : ℕ

-- the counts are those of a chain that holds this over this store
pub record AreCounts (counts : Counts) (held : Held) (store : Option Room) : Type 0 where
  pub names : counts.names ≡ map.len held.lengths
  pub used : counts.used ≡ option_map (λ room. room.used) store

-- Why a tile of `needed` blocks found no room, where the longest free run has `longest` and there are
-- `names` names at most: these exceed what the cache holds, and the store uses fewer blocks than would
-- have left room for one more.
pub record IsFull (used capacity names needed longest : ℕ) : Type 0 where
  pub short : longest < needed
  pub past : capacity < names
  pub room : used < 32 * (names + 1)

-- the same of a chain that may have no store: then it is never full
abbrev pub IsFullOver : Option ℕ → ℕ → ℕ → ℕ → ℕ → Type 0
IsFullOver None capacity names needed longest = ⊥
IsFullOver (Some used) capacity names needed longest = IsFull used capacity names needed longest

-- What no call changes is unchanged, and no I/O error is forgotten.
pub record Continues (old new : Counts) : Type 0 where
  pub used : new.used ≡ old.used
  pub capacity : new.capacity ≡ old.capacity
  pub later : old.faults ≤ new.faults

-- The same of a call that adds so many names at most.
pub record Grows (added : ℕ) (old new : Counts) : Type 0 where
  pub continues : Continues old new
  pub names : new.names ≤ old.names + added
