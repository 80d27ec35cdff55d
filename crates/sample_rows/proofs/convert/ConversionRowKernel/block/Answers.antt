use Rattle.std.proofs.Common.{ℕ, ap, ◌∙◌}
use Rattle.pixel_formats.specs.Convert.{rescaled}
use Rattle.pixel_formats.specs.Format.{max_sample_of}
use Rattle.sample_rows.specs.Groups.{group_at, groups}
use Rattle.simd_pixels.specs.Components.{component_for}
use Rattle.simd_pixels.proofs.PlaneLaws.{component_for-le}
use Rattle.sample_rows.proofs.convert.ConversionRowKernel.block.Goals as goal

pub returns : goal.returns
returns g c k i lt within =
    let S = g.S.Lanes in
    let P = g.P.Planes in
    let Q = g.Q.Planes in
    c.store.ensures.here k i lt within ∙ c.from_components.ensures k i lt within
    ∙ ap (rescaled S.depth g.D.Lanes.depth)
    (g.met.P.Components.components_of_pixel (max_sample_of S.depth) (λ (j : ℕ). P.sample c.load.result j k) (group_at (groups P.channels S.depth) c.args.src.now k)
    (λ j inside. c.load.ensures k j lt inside) (component_for Q.channels i) (component_for-le Q.channels i g.met.Q.Planes.sizes.few_channels within))
