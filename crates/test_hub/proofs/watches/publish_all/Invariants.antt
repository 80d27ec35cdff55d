use Rattle.scene_hub.specs.Hub.{IsSameEditorHub}
use Rattle.test_hub.proofs.watches.publish_all.Given as goal

abbrev pub invariant-loop-page : goal.invariant-loop-page
invariant-loop-page g l = IsSameEditorHub l.fn.editor l.editor
