use Rattle.std.proofs.Common.{◌+◌, ◌*◌, ◌≤◌, ap, arith}
use Rattle.std.proofs.Math.Nat.{mul-le-mul_right}
use Rattle.pixel_formats.specs.Sample.{sample_at}
use Rattle.area_kernels.proofs.PartLaws.{squares_picked}
use Rattle.area_kernels.proofs.CopiedSamples.{row_within}
use Rattle.area_kernels.proofs.extremes.pick_squares.Goals as goal

pub pick_windows-requires-2-clause-few : goal.pick_windows-requires-2-clause-few
pick_windows-requires-2-clause-few g c =
    let area = c.args.area in
    let n = c.args.channels in
    let stride = c.stride-stride.result in
    let wide : 2 * area.radius + 1 ≤ area.width + 2 * area.radius = omega arith in
    omega (arith, c.stride-stride.ensures, ap (λ m. m * n) c.side-side.ensures, mul-le-mul_right n wide, row_within 0 area.height stride area.some_rows)

pub returns : goal.returns
returns g c x y channel column row within =
    let area = c.args.area in
    let s = sample_at g.L.Lanes.depth in
    squares_picked g.P.Pick.pick c.args.channels area.width area.height area.radius c.stride-stride.result c.side-side.result c.read_rows.result
    (s c.args.patch.now) (s c.pick_windows.new.samples) (s c.pick_windows-2.new.samples) c.stride-stride.ensures c.side-side.ensures c.read_rows.ensures
    c.pick_windows.ensures c.pick_windows-2.ensures x y channel column row within
