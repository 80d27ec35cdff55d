-- What calls leave of the chain that they are handed.
use Rattle.std.specs.Prelude.{◌≡◌, ℕ, List}
use Rattle.std.specs.Borrow.{GName}
use Rattle.chain_owners.specs.Counts.{Counts, Grows}
use Rattle.chain_owners.specs.Held.{Held}
use Rattle.chain_owners.specs.Owners.{Respects}
use Rattle.chain_owners.specs.declared.chain_meaning.ChainMeaning.{Ghosts as Chains}

-- what is held and counted by a chain, its loans, and that it is valid
pub record ChainState : Type 1 where
  pub held : Held
  pub counts : Counts
  pub loans : List GName
  pub valid : Type 0

-- the state of a chain, by what its type means
abbrev pub chain_state : {H : Type 0} → Chains H → H → ChainState
chain_state h chain = record { held = h.held chain; counts = h.counts chain; loans = h.loans chain; valid = h.is_valid chain }

-- A read leaves the names, their bytes and their owners as they are.
pub record IsRead (old new : ChainState) : Type 0 where
  pub held : new.held ≡ old.held
  pub counts : Grows 0 old.counts new.counts
  pub loans : new.loans ≡ old.loans
  pub valid : old.valid → new.valid

-- What any call leaves of a chain, where the values that it was handed held the names `before`, and those that it was handed
-- or that it answers hold the names `after`.
pub record Leaves (added : ℕ) (before after : List ℕ) (old new : ChainState) : Type 0 where
  -- its other owners are respected
  pub others : Respects old.held new.held before after
  -- it has so many names more at most, and no I/O error is forgotten
  pub counts : Grows added old.counts new.counts
  pub loans : new.loans ≡ old.loans
  -- what holds of it at every moment holds again
  pub valid : old.valid → new.valid
