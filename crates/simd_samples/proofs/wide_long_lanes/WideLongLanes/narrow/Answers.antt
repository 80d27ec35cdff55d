use Rattle.std.proofs.Common.{ℕ, get_or, refl, ap, arith}
use Rattle.simd_samples.proofs.Arithmetic.{Makes-cast}
use Rattle.simd_samples.proofs.Pointwise.{Makes-from_lanes}
use Rattle.simd_samples.proofs.wide_long_lanes.WideLongLanes.narrow.Goals as goal

pub invariant_of-result : goal.invariant_of-result
invariant_of-result c =
    let v = c.self.inside.lanes in
    let value : ℕ → ℕ = λ j. get_or v j 0 in
    record {
      samples = (Makes-cast 4294967296 v value (omega arith)
          (Makes-from_lanes 4294967296 v value (omega arith) c.self.invariant.long (λ j lt. refl) (λ j lt. omega (arith, c.requires j lt, ap (λ l. get_or l j 0) c.self.view_is)))).0;
    }
