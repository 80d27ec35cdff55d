use Rattle.std.proofs.Common.{rules, ◌≡◌, ◌+◌, ◌*◌, ◌/◌, ◌∙◌}
use Rattle.area_kernels.proofs.DivisorLaws.{mean-by_half}
use Rattle.area_kernels.proofs.long_divisor.LongDivisor.mean.Goals as goal

pub returns : goal.returns
returns c =
    let divisor = c.args.self in
    let doubled : c.from-2.result ≡ 2 * (c.args.sum + divisor.count / 2) = search rules in
    let factor : c.from-3.result ≡ divisor.factor = search rules in
    (λ t. doubled t * factor t / 18446744073709551616)
    ∙ mean-by_half divisor.count c.args.sum divisor.few c.requires divisor.factor divisor.some divisor.reciprocal
