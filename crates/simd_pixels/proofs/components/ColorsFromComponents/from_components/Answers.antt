use Rattle.std.proofs.Common.{ℕ, ap, ◌∙◌}
use Rattle.pixel_formats.specs.Sample.{max_sample_of, rescaled}
use Rattle.simd_pixels.proofs.PlaneLaws.{three_parts}
use Rattle.simd_pixels.proofs.components.ColorsFromComponents.from_components.Goals as goal

pub returns : goal.returns
returns g c k i lt =
    let part = g.P.Components.components (max_sample_of g.S.Lanes.depth) (λ (j : ℕ). g.P.Planes.sample c.args.pixels j k) in
    let at = rescaled g.S.Lanes.depth g.L.Lanes.depth in
    three_parts (λ (n : ℕ). at (part n)) (g.L.Lanes.lane c.rescale.result) (g.L.Lanes.lane c.rescale-2.result) (g.L.Lanes.lane c.rescale-3.result) k
    (c.rescale.ensures k lt ∙ ap at (c.colors-red.ensures.red k lt)) (c.rescale-2.ensures k lt ∙ ap at (c.colors-red.ensures.green k lt))
    (c.rescale-3.ensures k lt ∙ ap at (c.colors-red.ensures.blue k lt)) i
