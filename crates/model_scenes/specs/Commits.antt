-- Commits as viewers see them: the damages that the next scene tells of.
use Rattle.std.specs.Prelude.{◌≡◌, suc, ◌-◌, ℕ, Bool, IsTrue, List, [], ◌∷◌, ◌++◌, drop, length}
use Rattle.model_graphs.specs.Evaluation.{Buffers}
use Rattle.model_graphs.specs.Facts.{AreImagesOf}
use Rattle.model_graphs.specs.Meanings.{Meanings}
use Rattle.model_states.specs.Damage.{Change, IsStatedChange, Side, damage}
use Rattle.model_states.specs.declared.damage.Damage.{Damage}
use Rattle.model_states.specs.Neighbors.{AgreeOutsideRoots, scene_of_side}
use Rattle.model_states.specs.Rectangles.{Rectangles, rectangle_of}
use Rattle.model_scenes.specs.Follows.{ShownScene, most_damages}

-- damages with one more, of which the last ones stay
abbrev pub with_damage : List Damage → Damage → List Damage
with_damage damages one = drop (suc (length damages) - most_damages) (damages ++ one ∷ [])

-- A step from one state to another, over images of their buffers: the rectangles are the damages of its nodes. `known` says
-- whether it is known that the images agree outside the rectangles of their roots.
pub record IsStepBetween {Op : Type 0} (same : Op → Op → Bool) (meanings : Meanings Op) (known : Bool) (change : Change Op) (rects : Rectangles) (old new : Buffers) : Type 0 where
  pub stated : IsStatedChange meanings change
  pub each : (name : List ℕ) → rectangle_of rects name ≡ damage same meanings change name
  pub old_images : AreImagesOf change.old.buffers old
  pub new_images : AreImagesOf change.new.buffers new
  pub agree : IsTrue known → AgreeOutsideRoots change.old.buffers change.new.buffers old new change.rectangles

-- a state under its number, with the damages of the last commits
abbrev pub shown_side : {Op : Type 0} → ℕ → Side Op → Buffers → List Damage → ShownScene Op
shown_side number side images damages = record { number = number; scene = scene_of_side side images; damages = damages }
