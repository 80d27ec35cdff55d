-- The operations on the square around each position, by their kind.
use Rattle.std.specs.Prelude.{ℕ, ◌*◌, List}
use Rattle.pixel_formats.specs.declared.abyss.Abyss.{Abyss}
use Rattle.model_operations.specs.Windows.{max_of_all, mean_of, min_of_all, window_side}
use Rattle.model_operations.specs.declared.operation.IntOp.{IntOp}
use Rattle.model_operations.specs.declared.operation.IntOp.TheVariants as operations
use Rattle.area_ops.specs.declared.kind.AreaKind.{AreaKind}
use Rattle.area_ops.specs.declared.kind.AreaKind.TheVariants.{BoxMean, Dilate, Erode}

-- the operation of a kind
abbrev pub operation_of : AreaKind → ℕ → Abyss → IntOp
operation_of BoxMean radius policy = operations.BoxMean radius policy
operation_of Dilate radius policy = operations.Dilate radius policy
operation_of Erode radius policy = operations.Erode radius policy

-- the sample that it gives of those of a square
abbrev pub square_value : AreaKind → ℕ → List ℕ → ℕ
square_value BoxMean radius samples = mean_of (window_side radius * window_side radius) samples
square_value Dilate radius samples = max_of_all samples
square_value Erode radius samples = min_of_all samples
