use Rattle.std.proofs.Common.{◌≡◌, ◌+◌, ◌*◌, refl, arith}
use Rattle.sample_rows.proofs.RecolorLaws.{lane_with_alpha}
use Rattle.sample_rows.proofs.threshold.ClearRecolor.recolor.Goals as goal

pub returns : goal.returns
returns g c k i lt within =
    let at = k * g.P.Layout.channels + i in
    let none : g.L.Lanes.lane c.splat-none.result at ≡ 0 = omega (arith, c.splat-none.ensures at (g.met.P.Layout.index k i lt within)) in
    lane_with_alpha (g.P.Layout.is_alpha i) (g.L.Lanes.lane c.args.samples at) (λ cap. 0) {cap = 0} (c.with_alpha.ensures k i lt within) none refl
