use Rattle.std.proofs.Common.{Some, sym, ap, subst, ◌∙◌}
use Rattle.render_workers.specs.Scenes.{SceneOf}
use Rattle.scene_viewers.specs.Viewers.{AllFollowWholly, AreRightFor, ViewerOf, seen_by}
use Rattle.scene_viewers.proofs.viewer.Viewer.scene.Goals as goal

pub returns-clause-right : goal.returns-clause-right
returns-clause-right g c = λ chain.
    let m = g.Op.OpMeaning.meanings in
    let last = c.scene.ensures ∙ ap (λ (s : SceneOf g.row.Op.Denot). Some s) (sym c.scene-2.ensures.scene) in
    let right = c.self.invariant.right (subst (λ (v : ViewerOf g.row.Op.Denot). AllFollowWholly m (seen_by v)) (sym c.self.view_is) chain) c.scene-2.result.now last in
    subst (λ (v : ViewerOf g.row.Op.Denot). AreRightFor m c.scene-2.result.now v.entries) c.self.view_is right
