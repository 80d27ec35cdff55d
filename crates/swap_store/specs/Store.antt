-- What clauses see of a store, and why it refuses.
use Rattle.std.specs.Prelude.{◌≡◌, ℕ, ◌<◌, ◌≤◌, Err, IfErr, IfOk, IfSome, List, OnErr, OnOk, Option, Result, ⊤, length, refl}
use Rattle.std.specs.Borrow.{GName}
use Rattle.std.specs.Coded.{Coded, code_by, coded×}
use Rattle.std.specs.FinMap as map
use Rattle.std.specs.Option.{option_map}
use Rattle.chain_owners.specs.Counts.{Rose}
use Rattle.outside_io.specs.Swap.{Blocks}
use Rattle.chain_owners.specs.declared.swap_refused.SwapRefused.{SwapRefused}
use Rattle.chain_owners.specs.declared.swap_refused.SwapRefused.TheVariants as refusals
use Rattle.chain_owners.specs.declared.run.Run.{Run}
use Rattle.swap_store.specs.Run.{IsFirstFit, blocks_for, longest}
use Rattle.swap_store.specs.Content.{bytes_in, content_of, lengths_of}
use Rattle.swap_store.specs.Placement.{Placement, PutsAtFirstFit, extent_at, placement_code}

-- where its names are, and its disk
pub record StoreState (D : Type 0) : Type 0 where
  pub placement : Placement
  pub disk : D

-- a state is stored as the pair of its fields
abbrev pub store_code : {D : Type 0} → Coded D → Coded (StoreState D)
store_code {D} code =
    code_by (Placement × D) (coded× placement_code code) (λ s. (s.placement, s.disk)) (λ p. record { placement = p.0; disk = p.1 })
    (λ _. refl)

-- Why a put of so many bytes is refused: the disk's count of I/O errors rose, or the longest free run
-- is too short, and then both numbers are known. Memory may run out at any time.
abbrev pub HasPutCause : List Run → ℕ → ℕ → ℕ → SwapRefused → Type 0
HasPutCause free len before now refusals.SwapFault = Rose before now
HasPutCause free len before now (refusals.SwapFull needed room) = (needed ≡ blocks_for len) × (room ≡ longest free) × (room < needed)
HasPutCause free len before now refusals.NoMemory = ⊤

-- Why a read or a write is refused: the disk's count of I/O errors rose, or memory ran out.
abbrev pub HasDiskCause : ℕ → ℕ → SwapRefused → Type 0
HasDiskCause before now refusals.SwapFault = Rose before now
HasDiskCause before now (refusals.SwapFull needed room) = ⊥
HasDiskCause before now refusals.NoMemory = ⊤

-- where the names of a store are, and what its disk exposes and counts, whatever disk it is
pub record StoreOnDisk : Type 0 where
  pub placement : Placement
  pub blocks : Option Blocks
  pub faults : ℕ
  pub block_count : ℕ
  pub loans : List GName

abbrev pub on_disk : {D : Type 0} → (D → Option Blocks) → (D → ℕ) → (D → ℕ) → (D → List GName) → StoreState D → StoreOnDisk
on_disk blocks faults block_count loans store = record {
  placement = store.placement;
  blocks = blocks store.disk;
  faults = faults store.disk;
  block_count = block_count store.disk;
  loans = loans store.disk;
}

-- A store writes bytes to the lowest free run that is long enough for them, of which it returns the index, and all names
-- keep their bytes. It is full exactly where the longest free run is too short.
pub record WritesBeside (bytes : List ℕ) (result : Result ℕ SwapRefused) (old new : StoreOnDisk) : Type 0 where
  pub found : IfOk result (IsFirstFit old.placement.free (blocks_for (length bytes)))
  pub written : IfOk result (λ index. (d : Run) → IfSome new.blocks
      (λ blocks. bytes_in blocks (extent_at old.placement.free index d (length bytes)) ≡ bytes))
  pub same : new.placement ≡ old.placement
  pub content : content_of old.placement.extents new.blocks ≡ content_of old.placement.extents old.blocks
  pub full : longest old.placement.free < blocks_for (length bytes)
      → result ≡ Err (refusals.SwapFull (blocks_for (length bytes)) (longest old.placement.free))
  pub cause : IfErr result (HasPutCause old.placement.free (length bytes) old.faults new.faults)
  pub later : old.faults ≤ new.faults
  pub block_count : new.block_count ≡ old.block_count
  pub loans : new.loans ≡ old.loans

-- A store keeps bytes under a name, in the lowest free run that is long enough for them, and all other names keep theirs.
pub record Keeps (name : ℕ) (bytes : List ℕ) (result : Result (Unit {0}) SwapRefused) (old new : StoreOnDisk) : Type 0 where
  pub placed : OnOk result (PutsAtFirstFit old.placement new.placement name (length bytes))
  pub lengths : OnOk result (lengths_of new.placement.extents ≡ map.insert (lengths_of old.placement.extents) name (length bytes))
  pub kept : OnOk result (content_of new.placement.extents new.blocks
      ≡ option_map (λ content. map.insert content name bytes) (content_of old.placement.extents old.blocks))
  -- an error leaves where names are, and the bytes of each
  pub err : OnErr result (new.placement ≡ old.placement)
  pub unchanged : OnErr result (content_of new.placement.extents new.blocks ≡ content_of old.placement.extents old.blocks)
  -- it is full exactly where the longest free run is too short
  pub full : longest old.placement.free < blocks_for (length bytes)
      → result ≡ Err (refusals.SwapFull (blocks_for (length bytes)) (longest old.placement.free))
  pub cause : IfErr result (HasPutCause old.placement.free (length bytes) old.faults new.faults)
  pub later : old.faults ≤ new.faults
  pub block_count : new.block_count ≡ old.block_count
  pub loans : new.loans ≡ old.loans
