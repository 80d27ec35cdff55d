-- What calls on tiles under names answer.
use Rattle.std.specs.Prelude.{◌≡◌, ◌⊎◌, ℕ, List, Option, Some, None, IfSome, ⊤, length, replicate}
use Rattle.chain_owners.specs.Counts.{Counts}
use Rattle.chain_owners.specs.Held.{Held, bytes_of, length_of}
use Rattle.chain_owners.specs.Room.{Room}
use Rattle.chain_owners.specs.Run.{blocks_for, longest}
use Rattle.chain_owners.specs.declared.swap_refused.SwapRefused.{SwapRefused}
use Rattle.chain_owners.specs.declared.swap_refused.SwapRefused.TheVariants as refusals

-- A tile that is read has the length that was asked for, and the bytes of its name. Without the name
-- it is zero.
pub record Reads (held : Held) (name len : ℕ) (tile : List ℕ) : Type 0 where
  pub length : length tile ≡ len
  pub bytes : IfSome (bytes_of held name) (λ bytes. tile ≡ bytes)
  pub absent : length_of held name ≡ None → tile ≡ replicate len 0

-- so many blocks are those of one of the tiles
pub record IsTileOf (held : Held) (needed : ℕ) : Type 0 where
  pub name : ℕ
  pub len : ℕ
  pub there : length_of held name ≡ Some len
  pub blocks : needed ≡ blocks_for len

-- so many blocks are those of the longest free run of the store
abbrev pub IsLongest : Option Room → ℕ → Type 0
IsLongest None found = ⊥
IsLongest (Some room) found = found ≡ longest room.free

-- The two numbers of a swap without room: the blocks of one of these tiles, and the longest free run
-- as the call leaves the store.
pub record HasNumbers (held : Held) (store : Option Room) (needed found : ℕ) : Type 0 where
  pub tile : IsTileOf held needed
  pub longest : IsLongest store found

-- the same of a refusal
abbrev pub ReportsRoom : Held → Option Room → SwapRefused → Type 0
ReportsRoom held store refusals.SwapFault = ⊤
ReportsRoom held store (refusals.SwapFull needed found) = HasNumbers held store needed found
ReportsRoom held store refusals.NoMemory = ⊤

-- The same of a call that puts these bytes: the blocks may be theirs.
pub record HasPutNumbers (held : Held) (bytes : List ℕ) (store : Option Room) (needed found : ℕ) : Type 0 where
  pub tile : IsTileOf held needed ⊎ (needed ≡ blocks_for (length bytes))
  pub longest : IsLongest store found

abbrev pub ReportsPut : Held → List ℕ → Option Room → SwapRefused → Type 0
ReportsPut held bytes store refusals.SwapFault = ⊤
ReportsPut held bytes store (refusals.SwapFull needed found) = HasPutNumbers held bytes store needed found
ReportsPut held bytes store refusals.NoMemory = ⊤

-- a refusal for room comes only where this holds
abbrev pub OnFull : Type 0 → SwapRefused → Type 0
OnFull P refusals.SwapFault = ⊤
OnFull P (refusals.SwapFull needed found) = P
OnFull P refusals.NoMemory = ⊤

-- the counts of a chain whose cache may be emptied: none of its tiles has to stay in it
abbrev pub emptied : Counts → Counts
emptied counts = record counts { capacity = 0 }
