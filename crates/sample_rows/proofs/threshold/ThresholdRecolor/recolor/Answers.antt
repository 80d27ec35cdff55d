use Rattle.std.proofs.Common.{◌≡◌, ℕ, ◌+◌, ◌*◌, min, arith}
use Rattle.pixel_formats.specs.Format.{max_sample_of}
use Rattle.sample_rows.proofs.RecolorLaws.{lane_at_threshold}
use Rattle.sample_rows.proofs.threshold.ThresholdRecolor.recolor.Goals as goal

pub returns : goal.returns
returns g c k i lt within =
    let L = g.L.Lanes in
    let P = g.P.Layout in
    let at = k * P.channels + i in
    let near = g.met.P.Layout.index k i lt within in
    let pixel : ℕ → ℕ = λ j. L.lane c.args.samples (k * P.channels + j) in
    let none : L.lane c.splat-none.result at ≡ 0 = omega (arith, c.splat-none.ensures at near) in
    lane_at_threshold (P.is_alpha i) (pixel i) (min (max_sample_of L.depth) c.args.self.now.at) (c.threshold.ensures at near)
    (c.with_alpha-thresholds.ensures k i lt within) none (c.splat.ensures at near) (c.caps.ensures k i lt within)
    (g.met.P.Layout.alpha_is_cap (max_sample_of L.depth) pixel i)
