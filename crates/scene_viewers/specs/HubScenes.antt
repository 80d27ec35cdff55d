-- Scenes in a hub: what they show, and when one may come after another.
use Rattle.std.specs.Prelude.{◌<◌, false, true, List}
use Rattle.frozen_images.specs.Scenes.{images_in}
use Rattle.model_graphs.specs.Meanings.{Meanings}
use Rattle.model_states.specs.declared.damage.Damage.{Damage}
use Rattle.model_states.specs.State.{Scene}
use Rattle.model_scenes.specs.Follows.{Follows, ShownScene}
use Rattle.model_scenes.proofs.Transitive.{follows-both}
use Rattle.node_tiles.specs.Stated.{scene_of}
use Rattle.render_workers.specs.Scenes.{SceneOf}

-- the damages of its last commits
abbrev pub damages_of : {Op : Type 0} → SceneOf Op → List Damage
damages_of scene = scene.damages

-- the nodes of a scene over the images of its buffers
abbrev pub state_of : {Op : Type 0} → SceneOf Op → Scene Op
state_of scene = scene_of scene.nodes (images_in scene.buffers)

-- the same with its number and its damages
abbrev pub shown_scene : {Op : Type 0} → SceneOf Op → ShownScene Op
shown_scene scene = record { number = scene.number; scene = state_of scene; damages = damages_of scene }

-- one may come after another: it follows it, but it need not be known that evaluations agree
abbrev pub MayFollow : {Op : Type 0} → Meanings Op → SceneOf Op → SceneOf Op → Type 0
MayFollow meanings old new = Follows meanings false (shown_scene old) (shown_scene new)

-- it follows it, and evaluations agree
abbrev pub WhollyFollows : {Op : Type 0} → Meanings Op → SceneOf Op → SceneOf Op → Type 0
WhollyFollows meanings old new = Follows meanings true (shown_scene old) (shown_scene new)

-- The laws that a hub asks are here and not among the proofs, since its scenes are declared with them.
pub following-rises : {Op : Type 0} (meanings : Meanings Op) (a b : SceneOf Op) → MayFollow meanings a b → a.number < b.number
following-rises meanings a b follows = follows.later

pub following-transitive : {Op : Type 0} (meanings : Meanings Op) (a b c : SceneOf Op) → MayFollow meanings a b → MayFollow meanings b c → MayFollow meanings a c
following-transitive meanings a b c first second =
    follows-both meanings false (shown_scene a) (shown_scene b) (shown_scene c) first second
