use Rattle.std.proofs.Common.{subst, ◌∙◌}
use Rattle.scene_hub.specs.HubList.{scenes}
use Rattle.scene_hub.specs.SceneLog.{AllFollow}
use Rattle.scene_hub.proofs.HubSteps.{last_after}
use Rattle.scene_hub.proofs.editor.Editor.publish.Goals as goal

pub show-requires-clause-shown : goal.show-requires-clause-shown
show-requires-clause-shown g c =
    let self = c.args.self.now in
    let numbered = g.S.Numbered in
    let follow = subst (λ l. AllFollow numbered.follows (scenes l)) self.last_is self.last.follow.0 in
    let is = c.in_ok-scene.ensures.ok in
    let last = last_after numbered.number_of numbered.follows numbered.transitive c.again-list.result c.append.new.self.whole self.list.whole c.deref.result.now c.args.scene c.number-number.result
    c.again-list.ensures c.append.new.self.reached c.append.ensures.appended (c.deref.ensures ∙ is) c.number-number.ensures follow c.requires.follows in
    rw is last

pub invariant_of-drop : goal.invariant_of-drop
invariant_of-drop g c =
    let self = c.args.self.now in
    let numbered = g.S.Numbered in
    let follow = subst (λ l. AllFollow numbered.follows (scenes l)) self.last_is self.last.follow.0 in
    let last = last_after numbered.number_of numbered.follows numbered.transitive c.again.result c.append.new.self.whole self.list.whole c.deref.result.now c.args.scene c.number-number.result
    c.again.ensures c.append.new.self.reached c.append.ensures.appended (c.deref.ensures ∙ c.in_ok-scene.ensures.ok) c.number-number.ensures follow c.requires.follows in
    record { reached = last.0; follow = last.1 }
