use Rattle.std.proofs.Common.{◌+◌, ◌-◌, ◌%◌, ◌∙◌, sym}
use Rattle.std.proofs.lemmas.Simd.{length-zip2}
use Rattle.simd_samples.proofs.four_long_lanes.FourLongLanes.wrapping_sub.Goals as goal

pub invariant_of-result : goal.invariant_of-result
invariant_of-result c =
    length-zip2 (λ a b. (a + (18446744073709551616 - b)) % 18446744073709551616) c.self.inside.lanes c.other.inside.lanes (c.self.invariant ∙ sym c.other.invariant) ∙ c.self.invariant
