-- Batches of needed tiles that are made ahead of their turn.
use Rattle.std.specs.Prelude.{◌≡◌, ℕ, ◌++◌, ◌<◌, ◌≤◌, ⊤, List, [], ◌∷◌, Some, slice_get, take}
use Rattle.std.specs.List.{AllByRecursion, IsDistinct}
use Rattle.model_graphs.specs.declared.node.NodeFact.{NodeFact}
use Rattle.model_graphs.specs.Meanings.{Meanings}
use Rattle.model_states.specs.declared.strip.Strip.{Strip}
use Rattle.model_states.specs.Cache.{same_pair}
use Rattle.model_states.specs.Need.{Needed}
use Rattle.node_tiles.specs.Held.{HeldTiles}
use Rattle.strip_renders.specs.Ahead.{AreReady}
use Rattle.strip_renders.specs.Strips.{HoldsNeed, needed_from, needs_of, pairs_needed}

-- Those from an index to another are tiles of one node.
pub record AreOfOneNode (list : List Needed) (index end : ℕ) : Type 0 where
  pub node : ℕ
  pub each : (k : ℕ) (needed : Needed) → index ≤ k → k < end → slice_get list k ≡ Some needed → needed.0 ≡ node

-- a needed tile of the node in a row of tiles, or one of the node that is no further down
abbrev pub IsInRow : ℕ → ℕ → Needed → Type 0
IsInRow node row needed = (needed.0 ≡ node) × (needed.1.row ≡ row)

abbrev pub IsUpTo : ℕ → ℕ → Needed → Type 0
IsUpTo node row needed = (needed.0 ≡ node) × (needed.1.row ≤ row)

-- Each of these strips needs the node's tiles of one row alone, which is below those of the strips before it and below
-- this row.
abbrev pub AreRowsBelow : ℕ → ℕ → List Strip → Type 0
AreRowsBelow node row [] = ⊤
AreRowsBelow node row (strip ∷ strips) =
    (below : ℕ) × (row < below) × AllByRecursion (IsInRow node below) strip.need × AreRowsBelow node below strips

-- What the first of these strips need was added, each of which needs a row of the node's tiles further down.
pub record AddsRows (node row : ℕ) (strips : List Strip) (old new : List Needed) : Type 0 where
  pub count : ℕ
  pub rows : AreRowsBelow node row (take count strips)
  pub added : new ≡ old ++ needs_of (take count strips)

-- A batch is of the first of the tiles that are needed from an index of a strip on, of which none is needed twice, and
-- each may be evaluated where those before the index are held.
pub record IsBatch {Op : Type 0} (meanings : Meanings Op) (nodes : List (NodeFact Op)) (strip : Strip) (later : List Strip) (index : ℕ) (batch : List Needed) : Type 0 where
  pub others : List Needed
  pub parts : needed_from strip later index ≡ batch ++ others
  pub once : IsDistinct same_pair (pairs_needed nodes batch)
  pub ready : (held : HeldTiles) → HoldsNeed nodes (take index strip.need) held → AreReady meanings nodes held batch
