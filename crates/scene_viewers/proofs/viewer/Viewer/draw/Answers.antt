use Rattle.std.proofs.Common.{◌≡◌, Some, sym, ap, subst, ◌∙◌}
use Rattle.render_workers.specs.Scenes.{SceneOf}
use Rattle.scene_hub.specs.HubList.{scenes}
use Rattle.scene_viewers.specs.Frames.{frame_of}
use Rattle.scene_viewers.specs.Viewers.{AllFollowWholly, AreSizedFor, ViewerOf, seen_by}
use Rattle.scene_viewers.proofs.Drawn.{of-last, right-cut, right-drawn, sized-cut}
use Rattle.scene_viewers.proofs.viewer.Viewer.draw.Goals as goal

pub invariant_of-self : goal.invariant_of-self
invariant_of-self g c =
    let m = g.Op.OpMeaning.meanings in
    let seen = scenes c.self.inside.entrance.showing.list in
    let scene = c.scene-scene.result.now in
    let last = c.scene.ensures ∙ ap (λ (s : SceneOf g.row.Op.Denot). Some s) (sym c.scene-scene.ensures.scene) in
    let es = c.self.inside.cache.tiles.entries in
    let drawn = c.frame-drawn.new.cache.tiles.entries in
    let fs = c.trim_to.new.self.tiles.entries in
    record {
      over = c.trim_to.ensures.over;
      some = c.self.invariant.some;
      sized = of-last m seen scene last (λ s. AreSizedFor s fs) (sized-cut m seen scene last c.self.inside.capacity drawn fs c.trim_to.ensures.sizes c.in-Ok.ensures.sized);
      right = right-drawn m seen scene last es fs (λ right. right-cut m seen scene last c.self.inside.capacity drawn fs c.trim_to.ensures.cached (c.in-Ok.ensures.right right)) c.self.invariant.right;
    }

pub invariant_of-self-in-Err : goal.invariant_of-self-in-Err
invariant_of-self-in-Err g c =
    let m = g.Op.OpMeaning.meanings in
    let seen = scenes c.self.inside.entrance.showing.list in
    let scene = c.scene-scene.result.now in
    let last = c.scene.ensures ∙ ap (λ (s : SceneOf g.row.Op.Denot). Some s) (sym c.scene-scene.ensures.scene) in
    let es = c.self.inside.cache.tiles.entries in
    let fs = c.frame-drawn.new.cache.tiles.entries in
    record {
      over = c.in-Err.ensures.over;
      some = c.self.invariant.some;
      sized = of-last m seen scene last (λ s. AreSizedFor s fs) c.in-Err.ensures.sized;
      right = right-drawn m seen scene last es fs c.in-Err.ensures.right c.self.invariant.right;
    }

pub returns-in-Ok-clause-image : goal.returns-in-Ok-clause-image
returns-in-Ok-clause-image g c = λ chain.
    let m = g.Op.OpMeaning.meanings in
    let seen = scenes c.self.inside.entrance.showing.list in
    let scene = c.scene-scene.result.now in
    let last = c.scene.ensures ∙ ap (λ (s : SceneOf g.row.Op.Denot). Some s) (sym c.scene-scene.ensures.scene) in
    let chained : AllFollowWholly m seen = subst (λ (v : ViewerOf g.row.Op.Denot). AllFollowWholly m (seen_by v)) (sym c.self.view_is) chain in
    let same = ap (λ (v : ViewerOf g.row.Op.Denot). seen_by v) c.self.view_is in
    let shown = c.in-Ok.ensures.shown (c.self.invariant.right chained scene last) in
    λ z is. of-last m seen scene last (λ s. c.in-Ok.patch ≡ frame_of m s c.args.node c.args.rect) shown z (cc (same, is))
