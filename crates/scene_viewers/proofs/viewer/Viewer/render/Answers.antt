use Rattle.std.proofs.Common.{◌≡◌, ℕ, sym, subst}
use Rattle.std.specs.Prelude.{IfOk}
use Rattle.std.specs.Option.{ForSome}
use Rattle.node_cache.specs.NodeNames.{pairs_in}
use Rattle.render_workers.specs.Scenes.{SceneOf}
use Rattle.scene_hub.specs.declared.prefix.ListPrefix.{ListPrefix}
use Rattle.scene_hub.specs.HubList.{scenes}
use Rattle.scene_hub.specs.SceneLog.{last_of}
use Rattle.scene_viewers.specs.Frames.{Draws, IfUnknown, IsFrameOf, LacksNode, frame_of}
use Rattle.scene_viewers.specs.Viewers.{AllFollowWholly, LooksUp, ShowsUnknown, seen_by}
use Rattle.scene_viewers.proofs.Framed.{if-unknown}
use Rattle.scene_viewers.proofs.Rendered.{if-err, looks-up, on-ok, shows-unknown}
use Rattle.scene_viewers.proofs.viewer.Viewer.render.Goals as goal

pub returns-clause-frame : goal.returns-clause-frame
returns-clause-frame g c =
    subst (λ (p : ListPrefix (SceneOf g.row.Op.Denot)). IfOk c.draw.result (λ frame. ForSome (last_of (scenes p)) (λ scene. IsFrameOf scene c.args.node c.args.rect frame.number frame.patch)))
    (sym c.draw.ensures.lists.0) c.draw.ensures.frame

pub returns-clause-image : goal.returns-clause-image
returns-clause-image g c =
    subst (λ (p : ListPrefix (SceneOf g.row.Op.Denot)). AllFollowWholly g.Op.OpMeaning.meanings (scenes p) → IfOk c.draw.result (λ frame. ForSome (last_of (scenes p)) (λ scene. frame.patch ≡ frame_of g.Op.OpMeaning.meanings scene c.args.node c.args.rect)))
    (sym c.draw.ensures.lists.0) c.draw.ensures.image

pub returns-clause-looked : goal.returns-clause-looked
returns-clause-looked g c =
    let m = g.Op.OpMeaning.meanings in
    let permits = g.K.OpKit.permits c.args.purse.now in
    let permits' = g.K.OpKit.permits c.draw.new.purse in
    let entered = c.enter.new.self in
    let after = c.draw.new.self in
    on-ok c.draw.result
    (ForSome (last_of (seen_by entered)) (λ scene. Draws m c.args.node c.args.rect scene (pairs_in entered.entries) (pairs_in after.entries) entered.capacity permits permits'))
    (LooksUp m c.args.node c.args.rect c.args.self.now after permits permits')
    (λ drawn. looks-up c.args.self.now entered after c.in_ok-enter.ensures.left c.draw.ensures.lists.0 m c.args.node c.args.rect permits permits' c.enter.ensures.capacity drawn)
    c.draw.ensures.drawn

pub returns-clause-unknown : goal.returns-clause-unknown
returns-clause-unknown g c =
    let permits = g.K.OpKit.permits c.args.purse.now in
    let permits' = g.K.OpKit.permits c.draw.new.purse in
    let entered = c.enter.new.self in
    let after = c.draw.new.self in
    let was : ℕ → Type 0 = λ number. ForSome (last_of (seen_by entered)) (λ scene. LacksNode scene c.args.node number) × (pairs_in after.entries ≡ pairs_in entered.entries) × (permits' ≡ permits) in
    let is : ℕ → Type 0 = λ number. ShowsUnknown c.args.node c.args.self.now after permits permits' number in
    if-err c.draw.result (IfUnknown was) (IfUnknown is)
    (λ e. if-unknown e was is (λ number p.
    shows-unknown c.args.self.now entered after c.in_ok-enter.ensures.left c.draw.ensures.lists.0 c.args.node permits permits' number c.in_ok-enter.ensures.entered.1 p.0 p.1 p.2))
    c.draw.ensures.unknown
