-- Tiles of nodes that wait to be made: each with all that its operation is applied to.
use Rattle.std.specs.Prelude.{◌≡◌, ℕ, All, IsSome, List, [], length, Option, None, Some, slice_get}
use Rattle.plane_rect.specs.Rectangle.{Includes, Rectangle}
use Rattle.plane_rect.specs.Tile.{Tile}
use Rattle.model_images.specs.Paint.{cut}
use Rattle.model_images.specs.Raw.{tile_bytes}
use Rattle.model_graphs.specs.declared.node.Body.{Body}
use Rattle.model_graphs.specs.declared.node.Body.TheVariants.{Source, Compute}
use Rattle.model_graphs.specs.declared.node.NodeFact.{NodeFact}
use Rattle.model_graphs.specs.Meanings.{Meanings, result_box}
use Rattle.model_graphs.specs.Windows.{IsWholeWindow, Window}
use Rattle.op_contracts.specs.Applying.{HaveRequired, IsInOneTile, bounds_of, result_of_windows, window_bounds, window_formats}
use Rattle.roi_planner.specs.Inputs.{inputs_of}
use Rattle.node_tiles.specs.Stated.{length_at}

-- What a call that applies an operation asks for.
pub record IsApplicable {Op : Type 0} (meanings : Meanings Op) (operation : Op) (boxes : List Rectangle) (windows : List Window) (part : Rectangle) : Type 0 where
  pub inputs : length windows ≡ meanings.input_count operation
  pub boxes_are : boxes ≡ window_bounds windows
  pub format : IsSome (meanings.format operation (window_formats windows))
  pub bounds : IsSome (bounds_of meanings operation boxes)
  pub inside : Includes (result_box meanings operation boxes) part
  pub tile : IsInOneTile part
  pub whole : All IsWholeWindow windows
  pub required : HaveRequired meanings operation boxes windows part

-- The tile of the node at a position, the windows of its inputs, and the part of the operation's result that the tile has.
pub record Job : Type 0 where
  pub node : ℕ
  pub at : Tile
  pub part : Rectangle
  pub windows : List Window

-- what a body makes of a job, and what the node at the job's position does
abbrev pub made_by : {Op : Type 0} → Meanings Op → Job → Body Op → List ℕ
made_by meanings job (Source buffer) = []
made_by meanings job (Compute operation names) =
    tile_bytes (cut (result_of_windows meanings operation job.windows) job.part) job.at

abbrev pub made_at : {Op : Type 0} → Meanings Op → Job → Option (NodeFact Op) → List ℕ
made_at meanings job None = []
made_at meanings job (Some fact) = made_by meanings job fact.spec.body

abbrev pub job_bytes : {Op : Type 0} → Meanings Op → List (NodeFact Op) → Job → List ℕ
job_bytes meanings nodes job = made_at meanings job (slice_get nodes job.node)

-- A job may be carried out: its node is an operation that may be applied to its windows, and makes as many bytes of them
-- as a tile of the node has.
pub record IsTileJob {Op : Type 0} (meanings : Meanings Op) (nodes : List (NodeFact Op)) (job : Job) : Type 0 where
  pub fact : NodeFact Op
  pub operation : Op
  pub names : List (List ℕ)
  pub found : slice_get nodes job.node ≡ Some fact
  pub body : fact.spec.body ≡ Compute operation names
  pub applicable : IsApplicable meanings operation (inputs_of nodes (Compute operation names)).boxes job.windows job.part
  pub length : length (job_bytes meanings nodes job) ≡ length_at nodes job.node
