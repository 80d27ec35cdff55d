-- A frame after a viewer entered.
use Rattle.std.proofs.Common.{◌≡◌, ℕ, List, Ok, Err, Some, sym, subst, ◌∙◌}
use Rattle.std.specs.Prelude.{IfErr, OnOk, Result}
use Rattle.std.specs.Option.{ForSome}
use Rattle.plane_rect.specs.Rectangle.{Rectangle}
use Rattle.model_graphs.specs.Meanings.{Meanings}
use Rattle.model_states.specs.Cache.{Pair, itself}
use Rattle.model_scenes.specs.Follows.{left_at}
use Rattle.node_cache.specs.NodeNames.{pairs_in}
use Rattle.render_workers.specs.Scenes.{SceneOf}
use Rattle.scene_hub.specs.declared.prefix.ListPrefix.{ListPrefix}
use Rattle.scene_hub.specs.HubList.{scenes}
use Rattle.scene_hub.specs.SceneLog.{Begins, last_of}
use Rattle.scene_viewers.specs.HubScenes.{damages_of}
use Rattle.scene_viewers.specs.Frames.{Draws, LacksNode}
use Rattle.scene_viewers.specs.Viewers.{HaveLeft, LooksUp, ShowsUnknown, ViewerOf, seen_by, told_by}

pub on-ok : {T E : Type 0} (r : Result T E) (P Q : Type 0) → (P → Q) → OnOk r P → OnOk r Q
on-ok (Ok x) P Q of is = of is
on-ok (Err e) P Q of is = tt

pub if-err : {T E : Type 0} (r : Result T E) (P Q : E → Type 0) → ((e : E) → P e → Q e) → IfErr r P → IfErr r Q
if-err (Ok x) P Q of is = tt
if-err (Err e) P Q of is = of e is

module _ {Op : Type 0} (before entered after : ViewerOf Op) (left : HaveLeft before entered) (shown : after.shown ≡ entered.shown) where
  last-again : (y : SceneOf Op) → last_of (seen_by after) ≡ Some y → last_of (seen_by entered) ≡ Some y
  last-again y is = subst (λ (p : ListPrefix (SceneOf Op)). last_of (scenes p) ≡ Some y) shown is

  pub looks-up : (meanings : Meanings Op) (node : List ℕ) (rect : Rectangle) (permits permits' : ℕ) → entered.capacity ≡ before.capacity
      → ForSome (last_of (seen_by entered)) (λ scene. Draws meanings node rect scene (pairs_in entered.entries) (pairs_in after.entries) entered.capacity permits permits')
      → LooksUp meanings node rect before after permits permits'
  looks-up meanings node rect permits permits' capacity drawn x isx y isy =
      subst (λ n. Draws meanings node rect y (left_at itself x.number y.number (damages_of y) (pairs_in before.entries)) (pairs_in after.entries) n permits permits') capacity
      (subst (λ (ps : List Pair). Draws meanings node rect y ps (pairs_in after.entries) entered.capacity permits permits') (left x isx y (last-again y isy)) (drawn y (last-again y isy)))

  pub shows-unknown : (node : List ℕ) (permits permits' number : ℕ) → Begins (told_by before) (seen_by entered)
      → ForSome (last_of (seen_by entered)) (λ scene. LacksNode scene node number) → pairs_in after.entries ≡ pairs_in entered.entries → permits' ≡ permits
      → ShowsUnknown node before after permits permits' number
  shows-unknown node permits permits' number begins lacks pairs spent = record {
    entered = subst (λ (p : ListPrefix (SceneOf Op)). Begins (told_by before) (scenes p)) (sym shown) begins;
    lacks = λ y is. lacks y (last-again y is);
    left = λ x isx y isy. pairs ∙ left x isx y (last-again y isy);
    spent = spent;
  }
