use Rattle.std.proofs.Common.{ℕ, ◌+◌, ◌*◌, ◌≡◌, refl, ap, ◌∙◌, arith}
use Rattle.pixel_formats.specs.Blend.{blended}
use Rattle.pixel_formats.specs.Sample.{max_sample_of, sample_at}
use Rattle.simd_pixels.proofs.PlaneLaws.{mixed_first}
use Rattle.simd_pixels.proofs.planes.GrayPlanes.blend.Goals as goal

pub returns : goal.returns
returns g c k i lt within =
    let L = g.L.Lanes in
    let at : k * 1 + i ≡ k = omega arith in
    let base = sample_at L.depth c.args.base.now in
    let made = sample_at L.depth c.args.made.now in
    c.store.ensures.here (k * 1 + i) (omega arith)
    ∙ mixed_first (max_sample_of L.depth) base made (L.lane c.blend_at.result) (L.lane c.args.weights) (L.lane c.args.weights) c.blend_at.ensures (λ j near. refl) (k * 1 + i) (omega arith)
    ∙ ap (λ l. blended (max_sample_of L.depth) (base (k * 1 + i)) (made (k * 1 + i)) (L.lane c.args.weights l)) at
