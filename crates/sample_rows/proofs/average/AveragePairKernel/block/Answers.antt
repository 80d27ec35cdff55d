use Rattle.std.proofs.Common.{◌+◌, ◌*◌, ◌∙◌}
use Rattle.pixel_formats.specs.Row.{sample_at}
use Rattle.sample_rows.proofs.average.AveragePairKernel.block.Goals as goal

pub returns : goal.returns
returns g c k i lt within =
    let d = g.L.Lanes.depth in
    c.store.ensures.here (k * g.P.Layout.channels + i) (g.met.P.Layout.index k i lt within)
    ∙ c.mean_of_pixels.ensures (sample_at d c.args.a.now) (sample_at d c.args.b.now) c.load_two.ensures c.load_two-2.ensures k i lt within
