-- What a viewer holds after it entered.
use Rattle.std.proofs.Common.{◌≡◌, ℕ, true, List, Some, sym, ap, subst, ◌∙◌, map}
use Rattle.std.specs.Option.{ForSome}
use Rattle.model_graphs.specs.Meanings.{Meanings}
use Rattle.model_states.specs.Cache.{AreRight, Cached, Pair, by_pair}
use Rattle.model_states.specs.declared.damage.Damage.{Damage}
use Rattle.model_scenes.specs.Follows.{left_at}
use Rattle.model_scenes.proofs.Transitive.{follows-both}
use Rattle.node_cache.specs.HandTiles.{HandEntries, hand_bytes, hand_size}
use Rattle.node_cache.specs.Stores.{Sized, by_sized}
use Rattle.strip_renders.specs.Strips.{AreSizedPairs}
use Rattle.render_workers.specs.Scenes.{SceneOf}
use Rattle.scene_hub.specs.SceneLog.{AllFollow, Begins, last_of}
use Rattle.scene_viewers.specs.HubScenes.{MayFollow, WhollyFollows, damages_of, shown_scene, state_of}
use Rattle.scene_viewers.specs.Viewers.{AllFollowWholly, AreRightFor, AreSizedFor}
use Rattle.scene_viewers.proofs.Chains.{chain-begun, chain-pairs, last-related}
use Rattle.scene_viewers.proofs.Left.{IsStatedScene, right-left, sized-left}

same-left : {X Op : Type 0} (key : X → Pair) (x y : SceneOf Op) (before number : ℕ) (damages : List Damage) (list left : List X)
    → before ≡ x.number → number ≡ y.number → damages ≡ damages_of y → left ≡ left_at key before number damages list
    → left ≡ left_at key x.number y.number (damages_of y) list
same-left key x y before number damages list left eb en ed is =
    is ∙ (ap (λ b. left_at key b number damages list) eb ∙ (ap (λ n. left_at key x.number n damages list) en ∙ ap (λ ds. left_at key x.number y.number ds list) ed))

module _ {Op : Type 0} (meanings : Meanings Op) (old new : List (SceneOf Op)) (x y : SceneOf Op) (is_x : last_of old ≡ Some x) (is_y : last_of new ≡ Some y) (begins : Begins old new)
    (before number : ℕ) (damages : List Damage) (eb : before ≡ x.number) (en : number ≡ y.number) (ed : damages ≡ damages_of y) where
  pub sized-entered : AllFollow (MayFollow meanings) new → IsStatedScene meanings x → IsStatedScene meanings y → (es fs : HandEntries)
      → map hand_size fs ≡ left_at by_sized before number damages (map hand_size es)
      → ForSome (last_of old) (λ scene. AreSizedFor scene es) → ForSome (last_of new) (λ scene. AreSizedFor scene fs)
  sized-entered follow sx sy es fs left sized z is =
      let same : y ≡ z = cc (is_y, is) in
      let either = last-related (λ a b. ∥ MayFollow meanings a b ∥₁) old new x y begins is_x is_y follow in
      subst (λ (s : SceneOf Op). AreSizedFor s fs) same
      (subst (AreSizedPairs y.nodes) (sym (same-left by_sized x y before number damages (map hand_size es) (map hand_size fs) eb en ed left))
      (sized-left meanings x y sx sy either (map hand_size es) (sized x is_x)))

  pub right-entered : (es fs : HandEntries) → map hand_bytes fs ≡ left_at by_pair before number damages (map hand_bytes es)
      → (AllFollowWholly meanings old → ForSome (last_of old) (λ scene. AreRightFor meanings scene es))
      → AllFollowWholly meanings new → ForSome (last_of new) (λ scene. AreRightFor meanings scene fs)
  right-entered es fs left right chain z is =
      let same : y ≡ z = cc (is_y, is) in
      let both : (a b c : SceneOf Op) → WhollyFollows meanings a b → WhollyFollows meanings b c → WhollyFollows meanings a c =
      λ a b c first second. follows-both meanings true (shown_scene a) (shown_scene b) (shown_scene c) first second in
      let either = last-related (WhollyFollows meanings) old new x y begins is_x is_y (chain-pairs (WhollyFollows meanings) both new chain) in
      subst (λ (s : SceneOf Op). AreRightFor meanings s fs) same
      (subst (AreRight meanings (state_of y)) (sym (same-left by_pair x y before number damages (map hand_bytes es) (map hand_bytes fs) eb en ed left))
      (right-left meanings x y either (map hand_bytes es) (right (chain-begun (WhollyFollows meanings) old new begins chain) x is_x)))
