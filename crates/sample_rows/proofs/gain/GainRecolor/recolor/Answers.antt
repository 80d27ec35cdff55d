use Rattle.std.proofs.Common.{◌+◌, ◌*◌}
use Rattle.sample_rows.specs.ScaledGain.{scaled}
use Rattle.sample_rows.proofs.RecolorLaws.{lane_with_alpha}
use Rattle.sample_rows.proofs.gain.GainRecolor.recolor.Goals as goal

pub returns : goal.returns
returns g c k i lt within =
    let L = g.L.Lanes in
    let at = k * g.P.Layout.channels + i in
    let gain = c.args.self.now in
    let sample = L.lane c.args.samples at in
    lane_with_alpha (g.P.Layout.is_alpha i) sample (λ cap. scaled L.depth gain.factor gain.offset gain.last cap sample) (c.with_alpha.ensures k i lt within)
    (c.gained-gained.ensures at (g.met.P.Layout.index k i lt within)) (c.caps.ensures k i lt within)
