use Rattle.std.proofs.Common.{List, sym, subst}
use Rattle.std.specs.Option.{ForSome}
use Rattle.render_workers.specs.Scenes.{SceneOf}
use Rattle.scene_hub.specs.SceneLog.{last_of}
use Rattle.scene_viewers.specs.Viewers.{AllFollowWholly, AreRightFor, AreSizedFor}
use Rattle.scene_viewers.proofs.viewer.Viewer.told.Goals as goal

pub invariant_of-self : goal.invariant_of-self
invariant_of-self g c =
    let m = g.Op.OpMeaning.meanings in
    let es = c.self.inside.cache.tiles.entries in
    record {
      over = c.self.invariant.over;
      some = c.self.invariant.some;
      sized = subst (λ (l : List (SceneOf g.row.Op.Denot)). ForSome (last_of l) (λ scene. AreSizedFor scene es)) (sym c.told.ensures.seen) c.self.invariant.sized;
      right = subst (λ (l : List (SceneOf g.row.Op.Denot)). AllFollowWholly m l → ForSome (last_of l) (λ scene. AreRightFor m scene es)) (sym c.told.ensures.seen) c.self.invariant.right;
    }
