use Rattle.std.proofs.Common.{List, sym, ap, subst, ◌∙◌}
use Rattle.std.specs.Option.{ForSome}
use Rattle.render_workers.specs.Scenes.{SceneOf}
use Rattle.scene_hub.specs.HubList.{scenes}
use Rattle.scene_hub.specs.SceneLog.{last_of}
use Rattle.scene_viewers.specs.HubScenes.{damages_of}
use Rattle.scene_viewers.specs.Viewers.{AllFollowWholly, AreRightFor, AreSizedFor}
use Rattle.scene_viewers.proofs.Entered.{right-entered, sized-entered}
use Rattle.scene_viewers.proofs.viewer.Viewer.enter.Goals as goal

pub invariant_of-self : goal.invariant_of-self
invariant_of-self g c =
    let m = g.Op.OpMeaning.meanings in
    let es = c.self.inside.cache.tiles.entries in
    record {
      over = c.self.invariant.over;
      some = c.self.invariant.some;
      sized = subst (λ (l : List (SceneOf g.row.Op.Denot)). ForSome (last_of l) (λ scene. AreSizedFor scene es)) (sym c.in-Err.ensures.refused) c.self.invariant.sized;
      right = subst (λ (l : List (SceneOf g.row.Op.Denot)). AllFollowWholly m l → ForSome (last_of l) (λ scene. AreRightFor m scene es)) (sym c.in-Err.ensures.refused) c.self.invariant.right;
    }

pub invariant_of-self-2 : goal.invariant_of-self-2
invariant_of-self-2 g c =
    let m = g.Op.OpMeaning.meanings in
    let old = scenes c.self.inside.entrance.showing.list in
    let new = scenes c.enter.new.self.showing.list in
    let x = c.scene.result.now in
    let y = c.scene-3.result.now in
    let es = c.self.inside.cache.tiles.entries in
    let fs = c.leave.new.cache.tiles.entries in
    let eb = c.number-before.ensures ∙ ap (λ (s : SceneOf g.row.Op.Denot). s.number) c.scene-2.ensures.scene in
    let en = c.number.ensures ∙ ap (λ (s : SceneOf g.row.Op.Denot). s.number) c.scene-scene.ensures.scene in
    let ed = c.damages.ensures ∙ ap (λ (s : SceneOf g.row.Op.Denot). damages_of s) c.scene-scene.ensures.scene in
    record {
      over = c.leave.ensures.over;
      some = c.self.invariant.some;
      sized = sized-entered m old new x y c.scene.ensures c.scene-3.ensures c.in_default.ensures.seen.0 c.number-before.result c.number.result c.damages.result.now eb en ed
          c.enter.ensures.follow c.scene-2.ensures.stated c.scene-scene.ensures.stated es fs c.leave.ensures.sizes c.self.invariant.sized;
      right = right-entered m old new x y c.scene.ensures c.scene-3.ensures c.in_default.ensures.seen.0 c.number-before.result c.number.result c.damages.result.now eb en ed
          es fs c.leave.ensures.cached c.self.invariant.right;
    }
