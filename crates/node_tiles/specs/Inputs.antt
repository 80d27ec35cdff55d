-- Windows of the inputs of a tile that is evaluated.
use Rattle.std.specs.Prelude.{◌≡◌, ℕ, ◌<◌, All, IsSome, List, length, Option, slice_get, slice_index_or, Some}
use Rattle.plane_rect.specs.Rectangle.{Rectangle}
use Rattle.plane_rect.specs.Tile.{Meets, Tile, tiles}
use Rattle.model_graphs.specs.declared.node.Body.{Body}
use Rattle.model_graphs.specs.declared.node.Body.TheVariants.{Source, Compute}
use Rattle.model_graphs.specs.declared.node.NodeFact.{NodeFact}
use Rattle.model_graphs.specs.Evaluation.{Buffers}
use Rattle.model_graphs.specs.Facts.{Facts, fact_of}
use Rattle.model_graphs.specs.Meanings.{Meanings}
use Rattle.model_graphs.specs.Windows.{Window}
use Rattle.op_contracts.specs.Sources.{HasBufferLength, IsTileOf}
use Rattle.op_contracts.specs.TileList.{tiles_in}
use Rattle.roi_planner.specs.Inputs.{Inputs}
use Rattle.node_tiles.specs.Held.{HeldTiles, held_bytes}

-- A tile of the node of a body at a position is there: of a source, its buffer is known, and of another node the tile is
-- held.
abbrev pub IsThere : {Op : Type 0} → Facts → HeldTiles → Body Op → ℕ → Tile → Type 0
IsThere facts held (Source buffer) node tile = IsSome (fact_of facts buffer)
IsThere facts held (Compute operation names) node tile = IsSome (held_bytes held node tile)

-- the same of each tile that meets a rectangle
pub record AreThere {Op : Type 0} (facts : Facts) (held : HeldTiles) (body : Body Op) (node : ℕ) (need : Rectangle) : Type 0 where
  pub each : (tile : Tile) → Meets tile need → IsThere facts held body node tile

-- The bytes are those of a tile of the node of a body at a position: of a source, those of the buffer's tile, and of
-- another node those that are held.
abbrev pub IsInputTile : {Op : Type 0} → Facts → Option Buffers → HeldTiles → Body Op → ℕ → Tile → List ℕ → Type 0
IsInputTile facts images held (Source buffer) node tile bytes = IsTileOf images buffer tile bytes × HasBufferLength facts buffer bytes
IsInputTile facts images held (Compute operation names) node tile bytes = held_bytes held node tile ≡ Some bytes

-- each of these is one
abbrev pub AreInputTiles : {Op : Type 0} → Facts → Option Buffers → HeldTiles → Body Op → ℕ → List (Tile × List ℕ) → Type 0
AreInputTiles facts images held body node entries =
    All (λ (entry : Tile × List ℕ). IsInputTile facts images held body node entry.0 entry.1) entries

-- A window of a node for a rectangle: it has the node's stated shape, and exactly the tiles that meet the rectangle.
pub record IsInputWindow {Op : Type 0} (facts : Facts) (images : Option Buffers) (held : HeldTiles) (fact : NodeFact Op) (node : ℕ) (need : Rectangle) (window : Window) : Type 0 where
  pub need_is : window.need ≡ need
  pub format : window.format ≡ fact.format
  pub bounds : window.bounds ≡ fact.bounds
  pub positions : tiles_in window.tiles ≡ tiles need
  pub each : AreInputTiles facts images held fact.spec.body node window.tiles

-- what a part of an operation's result requires of an input, of which the inputs' boxes are known
abbrev pub required_of : {Op : Type 0} → Meanings Op → Op → Inputs → Rectangle → ℕ → Rectangle
required_of meanings operation inputs part i = meanings.required operation inputs.boxes i part

-- the tiles that a part of a result requires of each input are there
pub record AreInputsThere {Op : Type 0} (meanings : Meanings Op) (facts : Facts) (held : HeldTiles) (nodes : List (NodeFact Op)) (operation : Op) (inputs : Inputs) (part : Rectangle) : Type 0 where
  pub each : (i : ℕ) (fact : NodeFact Op) → i < length inputs.positions → slice_get nodes (slice_index_or inputs.positions i 0) ≡ Some fact →
      AreThere facts held fact.spec.body (slice_index_or inputs.positions i 0) (required_of meanings operation inputs part i)

-- a window of each input, in their order
pub record AreInputWindows {Op : Type 0} (meanings : Meanings Op) (facts : Facts) (images : Option Buffers) (held : HeldTiles) (nodes : List (NodeFact Op)) (operation : Op) (inputs : Inputs) (part : Rectangle) (windows : List Window) : Type 0 where
  pub count : length windows ≡ length inputs.positions
  pub each : (i : ℕ) (window : Window) → slice_get windows i ≡ Some window → (fact : NodeFact Op) → slice_get nodes (slice_index_or inputs.positions i 0) ≡ Some fact →
      IsInputWindow facts images held fact (slice_index_or inputs.positions i 0) (required_of meanings operation inputs part i) window
