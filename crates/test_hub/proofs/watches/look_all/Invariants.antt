use Rattle.scene_hub.specs.Hub.{IsSameViewerHub}
use Rattle.test_hub.proofs.watches.look_all.Given as goal

abbrev pub invariant-loop-frame : goal.invariant-loop-frame
invariant-loop-frame g l = IsSameViewerHub l.fn.viewer l.viewer
