-- What `apply` asks of its arguments.
use Rattle.std.specs.Prelude.{◌≡◌, List, All, IsSome, length}
use Rattle.plane_rect.specs.Rectangle.{Includes, Rectangle}
use Rattle.model_graphs.specs.Meanings.{Meanings, result_box}
use Rattle.model_graphs.specs.Windows.{IsWholeWindow, Window}
use Rattle.op_contracts.specs.Applying.{HaveRequired, IsInOneTile, bounds_of, window_bounds, window_formats}

-- An operation may be applied to windows for a part of its result.
pub record IsApplicable {Op : Type 0} (meanings : Meanings Op) (operation : Op) (windows : List Window) (out : Rectangle) : Type 0 where
  pub inputs : length windows ≡ meanings.input_count operation
  pub format : IsSome (meanings.format operation (window_formats windows))
  pub bounds : IsSome (bounds_of meanings operation (window_bounds windows))
  pub part : Includes (result_box meanings operation (window_bounds windows)) out
  pub tile : IsInOneTile out
  pub whole : All IsWholeWindow windows
  pub required : HaveRequired meanings operation (window_bounds windows) windows out
