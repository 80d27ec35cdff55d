use Rattle.scene_hub.specs.Hub.{IsViewerOf}
use Rattle.test_hub.proofs.watches.watch_often.Given as goal

abbrev pub invariant-loop-round : goal.invariant-loop-round
invariant-loop-round g l = IsViewerOf l.one l.editor × IsViewerOf l.two l.editor
