use Rattle.std.proofs.Common.{ap, ◌+◌, ◌*◌, ◌≤◌, ◌∙◌, arith}
use Rattle.std.proofs.Math.Nat.{mul-le-mul_right}
use Rattle.std.proofs.lemmas.Nat.{mul-add-lt}
use Rattle.pixel_formats.specs.Sample.{max_sample_of}
use Rattle.area_kernels.specs.Sequences.{mean_sum}
use Rattle.area_kernels.proofs.MeanLaws.{squares_small}
use Rattle.area_kernels.proofs.means.mean_row.Goals as goal

pub sum_row-requires-clause-small : goal.sum_row-requires-clause-small
sum_row-requires-clause-small g c i within =
    let side = 2 * c.args.area.radius + 1 in
    let few : side ≤ 129 = omega arith in
    omega (arith, c.requires.small i within, mul-le-mul_right (max_sample_of g.L.Lanes.depth) few)

pub divide_row-requires-clause-small : goal.divide_row-requires-clause-small
divide_row-requires-clause-small g c =
    squares_small c.args.area.width c.args.channels c.args.area.radius (max_sample_of g.L.Lanes.depth) (g.S.SquareSums.count c.args.divisor)
    (g.S.SquareSums.sum c.sum_row.new.squares) (g.C.ColumnSums.sum c.args.columns.now) c.requires.count c.sum_row.ensures.made c.requires.small c.sum_row.ensures.clear

pub returns-clause-made : goal.returns-clause-made
returns-clause-made g c x k column channel =
    c.divide_row.ensures (x * c.args.channels + k) (omega (arith, mul-add-lt x c.args.channels k c.args.area.width column channel))
    ∙ ap (mean_sum (g.S.SquareSums.count c.args.divisor)) (c.sum_row.ensures.made x k column channel)
