use Rattle.std.proofs.Common.{sym}
use Rattle.area_kernels.proofs.MeanLaws.{part_of_means}
use Rattle.area_kernels.proofs.means.mean_part.Goals as goal

pub returns : goal.returns
returns g c f u v held =
    let area = c.args.area in
    part_of_means c.args.format area.width area.height area.radius g.L.Lanes.depth c.channels.result c.args.patch.now c.mean_rows.new.dst f u v
    c.requires.depth (sym c.channels.ensures) c.mean_rows.ensures held
