-- What a frame leaves of the cached tiles of the last scene.
use Rattle.std.proofs.Common.{◌≡◌, ℕ, zero, suc, List, [], ◌∷◌, map, take, Some, sym, subst}
use Rattle.std.specs.List.{AllByRecursion}
use Rattle.std.specs.Option.{ForSome}
use Rattle.model_graphs.specs.Meanings.{Meanings}
use Rattle.model_states.specs.Cache.{AreRight, IsRight}
use Rattle.node_cache.specs.HandTiles.{HandEntries, hand_bytes, hand_size}
use Rattle.strip_renders.specs.Strips.{AreSizedPairs, IsSizedPair}
use Rattle.render_workers.specs.Scenes.{SceneOf}
use Rattle.scene_hub.specs.SceneLog.{last_of}
use Rattle.scene_viewers.specs.HubScenes.{state_of}
use Rattle.scene_viewers.specs.Viewers.{AllFollowWholly, AreRightFor, AreSizedFor}

all-taken : {X : Type 0} (P : X → Type 0) (n : ℕ) (xs : List X) → AllByRecursion P xs → AllByRecursion P (take n xs)
all-taken P zero xs all = tt
all-taken P (suc n) [] all = tt
all-taken P (suc n) (x ∷ xs) all = (all.0, all-taken P n xs all.1)

module _ {Op : Type 0} (meanings : Meanings Op) (seen : List (SceneOf Op)) (scene : SceneOf Op) (last : last_of seen ≡ Some scene) where
  -- what holds of the last scene
  pub of-last : (P : SceneOf Op → Type 0) → P scene → ForSome (last_of seen) P
  of-last P holds z is = let same : scene ≡ z = cc (last, is) in subst P same holds

  pub right-drawn : (es fs : HandEntries) → (AreRightFor meanings scene es → AreRightFor meanings scene fs)
      → (AllFollowWholly meanings seen → ForSome (last_of seen) (λ s. AreRightFor meanings s es))
      → AllFollowWholly meanings seen → ForSome (last_of seen) (λ s. AreRightFor meanings s fs)
  right-drawn es fs of right chain = of-last (λ s. AreRightFor meanings s fs) (of (right chain scene last))

  pub sized-cut : (n : ℕ) (es fs : HandEntries) → map hand_size fs ≡ take n (map hand_size es) → AreSizedFor scene es → AreSizedFor scene fs
  sized-cut n es fs is all = subst (AreSizedPairs scene.nodes) (sym is) (all-taken (IsSizedPair scene.nodes) n (map hand_size es) all)

  pub right-cut : (n : ℕ) (es fs : HandEntries) → map hand_bytes fs ≡ take n (map hand_bytes es) → AreRightFor meanings scene es → AreRightFor meanings scene fs
  right-cut n es fs is all = subst (AreRight meanings (state_of scene)) (sym is) (all-taken (IsRight meanings (state_of scene)) n (map hand_bytes es) all)
