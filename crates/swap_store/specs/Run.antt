-- Runs of blocks beside one another.
use Rattle.std.specs.Prelude.{◌≡◌, ℕ, ◌+◌, ◌-◌, ◌<◌, ◌≤◌, List, [], ◌∷◌, Option, Some, length, slice_index_or, ◌⊎◌, find, nat_le}
use Rattle.std.specs.Option.{option_map}
use Rattle.chain_owners.specs.declared.run.Run.{Run}
pub use Rattle.chain_owners.specs.Run.{blocks_for, longest, IsRunList}

-- a block is one of so many blocks from `first` on
pub record InBlocks (block first count : ℕ) : Type 0 where
  pub low : first ≤ block
  pub high : block < first + count

-- a block is in one of the runs
abbrev pub HasBlock : List Run → ℕ → Type 0
HasBlock [] block = ⊥
HasBlock (run ∷ runs) block = InBlocks block run.first run.count ⊎ HasBlock runs block

-- the first block of the lowest run that has at least so many
abbrev pub first_fit : List Run → ℕ → Option ℕ
first_fit runs needed = option_map (λ run. run.first) (find (λ run. nat_le needed run.count) runs)

-- the run of this index is the lowest that has at least so many blocks
pub record IsFirstFit (runs : List Run) (needed index : ℕ) : Type 0 where
  pub within : index < length runs
  pub long : (d : Run) → needed ≤ (slice_index_or runs index d).count
  pub lowest : (d : Run) → first_fit runs needed ≡ Some (slice_index_or runs index d).first

-- the run before this index ends just before a block
pub record EndsBefore (runs : List Run) (index block : ℕ) : Type 0 where
  pub there : 1 ≤ index
  pub meets : (d : Run) → (slice_index_or runs (index - 1) d).first + (slice_index_or runs (index - 1) d).count ≡ block

-- the run of this index begins with a block
pub record BeginsWith (runs : List Run) (index block : ℕ) : Type 0 where
  pub there : index < length runs
  pub meets : (d : Run) → (slice_index_or runs index d).first ≡ block
