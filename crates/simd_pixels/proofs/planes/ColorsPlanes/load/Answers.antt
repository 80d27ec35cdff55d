use Rattle.std.proofs.Common.{ℕ, ◌+◌, ◌*◌, ap, ◌∙◌, zero-add}
use Rattle.pixel_formats.specs.Sample.{sample_at}
use Rattle.simd_pixels.proofs.PlaneLaws.{three_planes}
use Rattle.simd_pixels.proofs.planes.ColorsPlanes.load.Goals as goal

pub returns : goal.returns
returns g c k i lt within =
    let L = g.L.Lanes in
    let s = λ (j : ℕ). sample_at L.depth c.args.src.now (0 + j) in
    let thirds = c.split_thirds-red in
    three_planes s (L.lane thirds.result.0) (L.lane thirds.result.1) (L.lane thirds.result.2)
    (thirds.ensures.first s c.load_three-first.ensures) (thirds.ensures.second s c.load_three-first.ensures) (thirds.ensures.third s c.load_three-first.ensures) k i lt within
    ∙ ap (sample_at L.depth c.args.src.now) (zero-add (k * 3 + i))
