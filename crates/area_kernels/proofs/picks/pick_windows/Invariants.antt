use Rattle.std.proofs.Common.{◌-◌, ◌<◌, ◌≤◌}
use Rattle.pixel_formats.specs.Sample.{sample_at}
use Rattle.area_kernels.proofs.Sweeps.{PickedOf}
use Rattle.area_kernels.proofs.picks.pick_windows.Given as goal

abbrev pub invariant-loop-picked : goal.invariant-loop-picked
invariant-loop-picked g l = record {
  some : 0 < l.picked;
  few : l.picked ≤ l.size;
  windows : PickedOf g.P.Pick.pick l.by l.valid l.picked (sample_at g.L.Lanes.depth l.fn.samples) (sample_at g.L.Lanes.depth l.samples);
}

abbrev pub decreases-loop-picked : goal.decreases-loop-picked
decreases-loop-picked g l = l.size - l.picked
