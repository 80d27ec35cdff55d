-- Tiles under names that have owners. Its laws are here and not among the proofs, since it is declared
-- with them.
use Rattle.std.specs.Prelude.{◌≡◌, ℕ, Option, Some, is_some}
use Rattle.std.specs.Option.{option_map}
use Rattle.std.specs.FinMap as map
use Rattle.outside_io.specs.Swap.{Blocks}
use Rattle.chain_owners.specs.Chain.{IsChain}
use Rattle.chain_owners.specs.Counts.{AreCounts, Counts}
use Rattle.chain_owners.specs.Held.{Held}
use Rattle.chain_owners.specs.Room.{Room}
use Rattle.chain_owners.specs.Values.{Named}

-- these tiles with these numbers of owners
abbrev pub with_counts : Held → Named ℕ → Held
with_counts held owners = record { lengths = held.lengths; content = held.content; owners = owners }

-- exactly the names that are there have owners
abbrev pub HaveOwners : Held → Named ℕ → Type 0
HaveOwners held owners = (name : ℕ) → is_some (map.get owners name) ≡ is_some (map.get held.lengths name)

-- What a chain without names holds over a disk with these blocks, where it exposes them.
abbrev pub nothing_over : Option Blocks → Held
nothing_over blocks = record { lengths = map.empty; content = option_map (λ _. map.empty) blocks; owners = map.empty }

-- its counts over a disk with so many I/O errors, of which it uses so many blocks
abbrev pub counts_over : ℕ → ℕ → ℕ → Counts
counts_over faults blocks resident = record { faults = faults; names = 0; used = Some blocks; capacity = resident }

pub owned_has_counts : (counts : Counts) (held : Held) (store : Option Room) (owners : Named ℕ)
    → AreCounts counts held store → AreCounts counts (with_counts held owners) store
owned_has_counts counts held store owners are = record { names = are.names; used = are.used }

pub owned_is_chain : (held : Held) (counts : Counts) (store : Option Room) (resident : ℕ) (owners : Named ℕ)
    → IsChain held counts store resident → IsChain (with_counts held owners) counts store resident
owned_is_chain held counts store resident owners chain = record { lengths = chain.lengths; room = chain.room; fits = chain.fits }
