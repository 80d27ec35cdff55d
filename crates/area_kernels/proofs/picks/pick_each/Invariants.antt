use Rattle.std.proofs.Common.{◌*◌}
use Rattle.pixel_formats.specs.Sample.{sample_at}
use Rattle.area_kernels.proofs.Sweeps.{PickedBelow}
use Rattle.area_kernels.proofs.picks.pick_each.Given as goal

abbrev pub invariant-loop-block : goal.invariant-loop-block
invariant-loop-block g l = PickedBelow g.P.Pick.pick l.by (16 * l.block) (sample_at g.L.Lanes.depth l.fn.samples) (sample_at g.L.Lanes.depth l.samples)
