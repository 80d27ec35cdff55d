use Rattle.pixel_formats.specs.Sample.{sample_at}
use Rattle.simd_pixels.proofs.PlaneLaws.{two_planes}
use Rattle.simd_pixels.proofs.planes.GrayAlphaPlanes.load.Goals as goal

pub returns : goal.returns
returns g c =
    let L = g.L.Lanes in
    let s = sample_at L.depth c.args.src.now in
    two_planes s (L.lane c.deinterleave-gray.result.0) (L.lane c.deinterleave-gray.result.1)
    (c.deinterleave-gray.ensures.even s c.load_two-first.ensures) (c.deinterleave-gray.ensures.odd s c.load_two-first.ensures)
