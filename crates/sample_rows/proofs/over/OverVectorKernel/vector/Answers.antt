use Rattle.std.proofs.Common.{◌≡◌, ℕ, ◌+◌, ◌-◌, ◌*◌, ◌∙◌}
use Rattle.pixel_formats.specs.Add.{added}
use Rattle.pixel_formats.specs.Format.{max_sample_of}
use Rattle.pixel_formats.specs.Mask.{scaled_by}
use Rattle.sample_rows.proofs.over.OverVectorKernel.vector.Goals as goal

pub returns : goal.returns
returns g c k i lt within =
    let L = g.L.Lanes in
    let P = g.P.Layout in
    let most = max_sample_of L.depth in
    let at = k * P.channels + i in
    let near = g.met.P.Layout.index k i lt within in
    let cap = P.cap most (λ (j : ℕ). L.lane c.args.a (k * P.channels + j)) in
    let left : L.lane c.saturating_sub-left.result at ≡ most - cap =
    ◌∙◌ {b = L.lane c.max_sample.result at - L.lane c.caps.result at} (c.saturating_sub-left.ensures at near) (λ p. c.max_sample.ensures at near p - c.caps.ensures k i lt within p) in
    let below : L.lane c.scale_by.result at ≡ scaled_by most (L.lane c.args.b at) (most - cap) =
    ◌∙◌ {b = scaled_by most (L.lane c.args.b at) (L.lane c.saturating_sub-left.result at)} (c.scale_by.ensures at near) (λ p. scaled_by most (L.lane c.args.b at) (left p)) in
    ◌∙◌ {b = added most (L.lane c.args.a at) (L.lane c.scale_by.result at)} (c.saturating_add.ensures at near) (λ p. added most (L.lane c.args.a at) (below p))
