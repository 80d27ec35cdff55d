use Rattle.std.proofs.Common.{◌≡◌, [], ◌∷◌, refl, ap, ◌∙◌}
use Rattle.render_workers.specs.Scenes.{SceneOf}
use Rattle.scene_hub.specs.Hub.{IsViewerOf, seen, told}
use Rattle.scene_viewers.specs.Viewers.{IsFresh, fresh_viewer}
use Rattle.scene_viewers.proofs.Started.{all-made}
use Rattle.scene_viewers.proofs.hub.Hub.start.Goals as goal

pub returns-in-Ok-clause-viewers : goal.returns-in-Ok-clause-viewers
returns-in-Ok-clause-viewers g c =
    let first = ap (λ (s : SceneOf g.row.Op.Denot). s ∷ []) c.new.ensures in
    all-made c.in_ok-editor.entrances.items c.in-Ok.viewers.items
    (λ entrance. fresh_viewer c.args.capacity entrance.showing.list entrance.told.list)
    (λ entrance. IsViewerOf entrance c.in_ok-editor.editor × (seen entrance ≡ c.new.result ∷ []) × (told entrance ≡ c.new.result ∷ []))
    (IsFresh c.args.capacity c.args.first c.in_ok-editor.editor.list.whole)
    (λ entrance p. record {
      entered = record { hub = p.0; seen = p.1 ∙ first; told_is = p.2 ∙ first };
      none_cached = refl;
      capacity_is = refl;
    })
    c.in-Ok.ensures c.in_ok-editor.ensures.viewers
