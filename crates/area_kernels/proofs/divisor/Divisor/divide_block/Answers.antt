use Rattle.std.proofs.Common.{◌≡◌, ◌+◌, ◌*◌, ◌/◌, ◌^◌, ◌≤◌, slice_index, refl, ap, ◌∙◌, arith}
use Rattle.pixel_formats.specs.Sample.{max_sample_of}
use Rattle.area_kernels.proofs.DivisorLaws.{mean-below, mean-by_shift, sum-fits}
use Rattle.area_kernels.proofs.divisor.Divisor.divide_block.Goals as goal

pub scale-wide-requires-clause-small : goal.scale-wide-requires-clause-small
scale-wide-requires-clause-small g c j lt =
    let divisor = c.args.self in
    let max_sample = max_sample_of g.L.Lanes.depth in
    let shallow : max_sample ≤ 65535 = omega (arith, g.met.L.Widen.narrow_levels, g.met.L.Lanes.levels) in
    let sum = slice_index c.load_at.result j in
    let small : sum ≤ divisor.count * max_sample = omega (arith, c.load_at.ensures j lt, c.requires.small (c.args.at + j)) in
    sum-fits divisor.count max_sample sum shallow small divisor.few

pub narrow-requires : goal.narrow-requires
narrow-requires g c j lt =
    let divisor = c.args.self in
    let max_sample = max_sample_of g.L.Lanes.depth in
    let shallow : max_sample ≤ 65535 = omega (arith, g.met.L.Widen.narrow_levels, g.met.L.Lanes.levels) in
    let sum = slice_index c.load_at.result j in
    let small : sum ≤ divisor.count * max_sample = omega (arith, c.load_at.ensures j lt, c.requires.small (c.args.at + j)) in
    let is : slice_index c.scale-wide.result j ≡ (sum + divisor.count / 2) / divisor.count =
    c.scale-wide.ensures j lt
    ∙ mean-by_shift divisor.count max_sample sum shallow small divisor.factor (2147483648 * 2 ^ divisor.shift) divisor.shift divisor.some divisor.exact divisor.reciprocal refl in
    omega (arith, is, mean-below divisor.count max_sample sum divisor.some small)

pub returns-clause-here : goal.returns-clause-here
returns-clause-here g c j lt =
    let divisor = c.args.self in
    let max_sample = max_sample_of g.L.Lanes.depth in
    let shallow : max_sample ≤ 65535 = omega (arith, g.met.L.Widen.narrow_levels, g.met.L.Lanes.levels) in
    let sum = slice_index c.load_at.result j in
    let small : sum ≤ divisor.count * max_sample = omega (arith, c.load_at.ensures j lt, c.requires.small (c.args.at + j)) in
    c.store_at.ensures.here j lt ∙ c.narrow.ensures j lt ∙ c.scale-wide.ensures j lt
    ∙ mean-by_shift divisor.count max_sample sum shallow small divisor.factor (2147483648 * 2 ^ divisor.shift) divisor.shift divisor.some divisor.exact divisor.reciprocal refl
    ∙ ap (λ n. (n + divisor.count / 2) / divisor.count) (c.load_at.ensures j lt)
