use Rattle.std.proofs.Common.{◌+◌, ◌*◌, ◌∙◌}
use Rattle.pixel_formats.specs.Average.{mean_of_four}
use Rattle.sample_rows.proofs.average.mean_of_pixels.Goals as goal

pub returns : goal.returns
returns g c s t both below k i lt within =
    let up = c.halves-first.ensures in
    let down = c.halves-third.ensures in
    let lane = g.L.Lanes.lane in
    let at = k * g.P.Layout.channels + i in
    ◌∙◌
    {b = mean_of_four (lane c.halves-first.result.0 at) (lane c.halves-first.result.1 at) (lane c.halves-third.result.0 at) (lane c.halves-third.result.1 at)}
    (c.mean_of_four.ensures at (g.met.P.Layout.index k i lt within))
    (λ p. mean_of_four (up.even s both k i lt within p) (up.odd s both k i lt within p) (down.even t below k i lt within p) (down.odd t below k i lt within p))
