use Rattle.std.proofs.Common.{sym}
use Rattle.area_kernels.proofs.PartLaws.{part_picked}
use Rattle.area_kernels.proofs.extremes.pick_part.Goals as goal

pub returns : goal.returns
returns g c f u v held =
    let area = c.args.area in
    part_picked g.P.Pick.pick c.args.format area.width area.height area.radius g.L.Lanes.depth c.channels-channels.result c.stride.result
    c.args.patch.now c.pick_squares.new.patch c.copy_rows.new.to f u v c.requires.depth (sym c.channels-channels.ensures) c.stride.ensures
    c.pick_squares.ensures c.copy_rows.ensures held
