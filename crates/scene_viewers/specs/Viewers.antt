-- What a viewer of scenes has seen, and the cached tiles that it has for the last scene of it.
use Rattle.std.specs.Prelude.{◌≡◌, ◌≤◌, ◌^◌, ◌-◌, ℕ, List, [], ◌∷◌, map}
use Rattle.std.specs.Option.{ForSome}
use Rattle.plane_rect.specs.Rectangle.{Rectangle}
use Rattle.model_graphs.specs.Meanings.{Meanings}
use Rattle.model_states.specs.Cache.{AreRight, itself}
use Rattle.model_scenes.specs.Follows.{IsChain, left_at}
use Rattle.node_cache.specs.HandTiles.{HandEntries, IsHandCache, hand_bytes, hand_size}
use Rattle.node_cache.specs.NodeNames.{pairs_in}
use Rattle.strip_renders.specs.Strips.{AreSizedPairs}
use Rattle.render_workers.specs.Scenes.{SceneOf}
use Rattle.scene_hub.specs.declared.prefix.ListPrefix.{ListPrefix}
use Rattle.scene_hub.specs.HubList.{IsSameHub, scenes}
use Rattle.scene_hub.specs.SceneLog.{Begins, last_of}
use Rattle.scene_viewers.specs.Frames.{Draws, LacksNode}
use Rattle.scene_viewers.specs.HubScenes.{WhollyFollows, damages_of, state_of}

-- the prefixes of its hub's list that it has seen and that it was told, its cached tiles, and how many of them a frame leaves
pub record ViewerOf (Op : Type 0) : Type 0 where
  pub shown : ListPrefix (SceneOf Op)
  pub told : ListPrefix (SceneOf Op)
  pub entries : HandEntries
  pub most : ℕ
  pub capacity : ℕ

-- what it has seen, and what it was told
abbrev pub seen_by : {Op : Type 0} → ViewerOf Op → List (SceneOf Op)
seen_by viewer = scenes viewer.shown

abbrev pub told_by : {Op : Type 0} → ViewerOf Op → List (SceneOf Op)
told_by viewer = scenes viewer.told

-- each scene of a list but the first follows the one before it, and evaluations agree
abbrev pub AllFollowWholly : {Op : Type 0} → Meanings Op → List (SceneOf Op) → Type 0
AllFollowWholly meanings scenes = IsChain (WhollyFollows meanings) scenes

-- cached tiles are right for a scene
abbrev pub AreRightFor : {Op : Type 0} → Meanings Op → SceneOf Op → HandEntries → Type 0
AreRightFor meanings scene entries = AreRight meanings (state_of scene) (map hand_bytes entries)

-- each is as long as a tile of its node
abbrev pub AreSizedFor : {Op : Type 0} → SceneOf Op → HandEntries → Type 0
AreSizedFor scene entries = AreSizedPairs scene.nodes (map hand_size entries)

-- The cached tiles are of nodes of the last scene that the viewer has seen, and right for it where each scene that it has
-- seen wholly follows the one before it.
pub record IsViewer {Op : Type 0} (meanings : Meanings Op) (viewer : ViewerOf Op) : Type 0 where
  pub over : IsHandCache viewer.entries viewer.most
  pub some : 1 ≤ viewer.capacity
  pub sized : ForSome (last_of (seen_by viewer)) (λ scene. AreSizedFor scene viewer.entries)
  pub right : AllFollowWholly meanings (seen_by viewer) → ForSome (last_of (seen_by viewer)) (λ scene. AreRightFor meanings scene viewer.entries)

-- what is left of cached pairs where a viewer that showed the first scene shows the second
abbrev pub AreLeftBetween : {Op : Type 0} → SceneOf Op → SceneOf Op → HandEntries → HandEntries → Type 0
AreLeftBetween old new before after =
    pairs_in after ≡ left_at itself old.number new.number (damages_of new) (pairs_in before)

-- the pairs have left by the damages between what it had seen and what it has
abbrev pub HaveLeft : {Op : Type 0} → ViewerOf Op → ViewerOf Op → Type 0
HaveLeft before after =
    ForSome (last_of (seen_by before)) (λ old. ForSome (last_of (seen_by after)) (λ new. AreLeftBetween old new before.entries after.entries))

-- nothing has changed, but for what it was told
pub record IsSameAs {Op : Type 0} (before after : ViewerOf Op) : Type 0 where
  pub seen : seen_by after ≡ seen_by before
  pub entries : after.entries ≡ before.entries

-- A frame draws on the pairs that are left at the scene that was entered.
abbrev pub LooksUp : {Op : Type 0} → Meanings Op → List ℕ → Rectangle → ViewerOf Op → ViewerOf Op → ℕ → ℕ → Type 0
LooksUp meanings node rect before after permits permits' =
    ForSome (last_of (seen_by before)) (λ old. ForSome (last_of (seen_by after)) (λ new.
    Draws meanings node rect new (left_at itself old.number new.number (damages_of new) (pairs_in before.entries)) (pairs_in after.entries) before.capacity permits permits'))

-- The scene of the number that it entered lacks the node, the pairs have left, and nothing was spent.
pub record ShowsUnknown {Op : Type 0} (node : List ℕ) (before after : ViewerOf Op) (permits permits' number : ℕ) : Type 0 where
  pub entered : Begins (told_by before) (seen_by after)
  pub lacks : ForSome (last_of (seen_by after)) (λ scene. LacksNode scene node number)
  pub left : HaveLeft before after
  pub spent : permits' ≡ permits

-- what enters a hub has seen the first scene, and was told of it
pub record IsEntrance {Op : Type 0} (first : SceneOf Op) (whole shown told : ListPrefix (SceneOf Op)) : Type 0 where
  pub hub : IsSameHub shown whole
  pub seen : scenes shown ≡ first ∷ []
  pub told_is : scenes told ≡ first ∷ []

-- A viewer of the hub of this list has seen the first scene, and has cached nothing.
pub record IsFresh {Op : Type 0} (capacity : ℕ) (first : SceneOf Op) (whole : ListPrefix (SceneOf Op)) (viewer : ViewerOf Op) : Type 0 where
  pub entered : IsEntrance first whole viewer.shown viewer.told
  pub none_cached : viewer.entries ≡ []
  pub capacity_is : viewer.capacity ≡ capacity

-- the viewer that has seen and was told this, and has cached nothing
abbrev pub fresh_viewer : {Op : Type 0} → ℕ → ListPrefix (SceneOf Op) → ListPrefix (SceneOf Op) → ViewerOf Op
fresh_viewer capacity shown told = record { shown = shown; told = told; entries = []; most = 2 ^ 64 - 1; capacity = capacity }
