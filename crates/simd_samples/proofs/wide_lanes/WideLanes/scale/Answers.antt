use Rattle.std.proofs.Common.{◌+◌, ◌*◌, ◌/◌, ◌^◌, slice_index, ap, ◌∙◌, arith}
use Rattle.simd_samples.proofs.Arithmetic.{fit_longs}
use Rattle.simd_samples.proofs.Scaling.{Makes-scaled_longs, Makes-shifted_longs, scaled_longs}
use Rattle.simd_samples.proofs.wide_lanes.WideLanes.scale.Goals as goal

pub overflow_cast-halves : goal.overflow_cast-halves
overflow_cast-halves c =
    fit_longs (scaled_longs c.self.inside.lanes c.args.offset c.from.result)
    (Makes-scaled_longs c.self.inside.lanes c.args.self c.args.offset c.from.result c.self.view_is c.self.invariant.long (omega arith) c.requires.small).0

pub invariant_of-result : goal.invariant_of-result
invariant_of-result c =
    (Makes-shifted_longs c.self.inside.lanes c.args.self c.args.offset c.from.result c.self.view_is c.self.invariant.long (omega arith) c.requires.small c.args.shift).0

pub returns : goal.returns
returns c j lt =
    (Makes-shifted_longs c.self.inside.lanes c.args.self c.args.offset c.from.result c.self.view_is c.self.invariant.long (omega arith) c.requires.small c.args.shift).1 j lt
    ∙ ap (λ f. (slice_index c.args.self j + c.args.offset) * f / 2147483648 / 2 ^ c.args.shift) c.from.ensures
