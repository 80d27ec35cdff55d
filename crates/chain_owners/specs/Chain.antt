-- What holds of every chain.
use Rattle.std.specs.Prelude.{◌≡◌, ℕ, ◌≤◌, Option, IfSome, is_some}
use Rattle.std.specs.FinMap as map
use Rattle.chain_owners.specs.Counts.{Counts}
use Rattle.chain_owners.specs.Held.{Held, HasLengths}
use Rattle.chain_owners.specs.Room.{Room}
use Rattle.chain_owners.specs.Run.{IsRunList}

-- where a chain exposes its bytes, it has those of exactly its names
abbrev pub HasSameNames : Held → Type 0
HasSameNames held =
    IfSome held.content (λ content. (name : ℕ) → is_some (map.get content name) ≡ is_some (map.get held.lengths name))

-- the free runs are in order, neighbors are one run, and all of their blocks are used by the store
abbrev pub IsRoom : Room → Type 0
IsRoom room = IsRunList 0 room.used room.free

-- What holds of a chain at every moment that a program can reach.
pub record IsChain (held : Held) (counts : Counts) (store : Option Room) (resident : ℕ) : Type 0 where
  -- the lengths of its names are the lengths of their bytes
  pub lengths : HasLengths held
  pub room : IfSome store IsRoom
  -- its cache holds at most its capacity
  pub fits : resident ≤ counts.capacity
