use Rattle.std.proofs.Common.{◌+◌, ◌*◌, ◌<◌, arith}
use Rattle.std.proofs.lemmas.Nat.{mul-add-lt}
use Rattle.pixel_formats.specs.Sample.{max_sample_of}
use Rattle.area_kernels.proofs.SumLaws.{sum-next}
use Rattle.area_kernels.proofs.sums.first_sums.Goals as goal

pub loop-pixel-preserved : goal.loop-pixel-preserved
loop-pixel-preserved g c k channel =
    let n = c.args.channels in
    let s = g.C.ColumnSums.sum in
    let row = c.args.row.now in
    let pixel = c.loop-pixel.pixel in
    let lane : k < 4 = omega arith in
    sum-next g.F.FourSums.limit (129 * max_sample_of g.L.Lanes.depth) (omega (arith, g.met.C.ColumnSums.square_room)) (λ m. s row (m * n + k)) pixel
    (g.F.FourSums.lane c.loop-pixel.sums k) (g.F.FourSums.lane c.four.result k) (g.F.FourSums.lane c.wrapping_add-sums.result k) (omega arith)
    (λ m le. c.requires.small (m * n + k) (omega (arith, mul-add-lt m n k c.args.count (omega arith) channel)))
    (c.wrapping_add-sums.ensures k lane) (c.loop-pixel.invariant k channel) (c.four.ensures k lane)
