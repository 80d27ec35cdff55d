-- Sums of columns.
use Rattle.std.specs.Prelude.{◌≡◌, ℕ, ◌+◌, ◌*◌, ◌<◌, List}
use Rattle.pixel_formats.specs.Sample.{sample_at}
use Rattle.area_kernels.specs.Sequences.{sum_of}

-- each sum is that of a column of so many rows of samples, which are stride samples apart, from row first on
pub record HoldsColumns (depth stride side first : ℕ) (samples : List ℕ) (sums : ℕ → ℕ) : Type 0 where
  pub columns : (i : ℕ) → i < stride → sums i ≡ sum_of side (λ j. sample_at depth samples ((first + j) * stride + i))
