use Rattle.std.proofs.Common.{◌+◌, ◌*◌, arith}
use Rattle.area_kernels.specs.Sequences.{mean_sum}
use Rattle.area_kernels.proofs.DivisorLaws.{means_more}
use Rattle.area_kernels.proofs.square_sums.divide_row.Goals as goal

pub loop-block-preserved : goal.loop-block-preserved
loop-block-preserved g c =
    let squares = c.args.squares.now in
    means_more g.L.Lanes.depth (16 * c.loop-block.block) (16 * (c.loop-block.block + 1)) c.loop-block.means c.divide_block.new.means
    (λ i. mean_sum (g.S.SquareSums.count c.args.divisor) (g.S.SquareSums.sum squares i)) (omega arith) c.loop-block.invariant c.divide_block.ensures.here c.divide_block.ensures.before

pub returns : goal.returns
returns g c i lt = c.loop-block.invariant i (omega arith)
