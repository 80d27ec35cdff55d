use Rattle.std.proofs.Common.{◌+◌, ◌*◌, ◌-◌}
use Rattle.sample_rows.proofs.RecolorLaws.{lane_with_alpha}
use Rattle.sample_rows.proofs.invert.InvertRecolor.recolor.Goals as goal

pub returns : goal.returns
returns g c k i lt within =
    let at = k * g.P.Layout.channels + i in
    let sample = g.L.Lanes.lane c.args.samples at in
    lane_with_alpha (g.P.Layout.is_alpha i) sample (λ cap. cap - sample) (c.with_alpha.ensures k i lt within)
    (c.saturating_sub-inverted.ensures at (g.met.P.Layout.index k i lt within)) (c.caps.ensures k i lt within)
