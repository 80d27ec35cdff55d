-- Neighbors: changes of which the images of the buffers are known.
use Rattle.std.specs.Prelude.{◌≡◌, ℕ, List, Some}
use Rattle.plane_rect.specs.Rectangle.{Rectangle, Inside}
use Rattle.model_images.specs.Agreement.{AgreeOutside}
use Rattle.model_images.specs.Image.{Image, at}
use Rattle.model_graphs.specs.declared.buffer.BufferFact.{BufferFact}
use Rattle.model_graphs.specs.Evaluation.{Buffers, buffer_image}
use Rattle.model_graphs.specs.Facts.{AreImagesOf, Facts, fact_of, specs_of}
use Rattle.model_graphs.specs.Meanings.{Meanings}
use Rattle.model_states.specs.Damage.{AreSteady, Change, IsStatedChange, Side}
use Rattle.model_states.specs.Rectangles.{Rectangles, rectangle_of}
use Rattle.model_states.specs.State.{Scene}

-- the images of each buffer that both states have agree outside the rectangle of its root
abbrev pub AgreeOutsideRoots : Facts → Facts → Buffers → Buffers → Rectangles → Type 0
AgreeOutsideRoots old new old_images new_images rectangles =
    (name : List ℕ) (a b : BufferFact) → fact_of old name ≡ Some a → fact_of new name ≡ Some b →
    AgreeOutside (buffer_image old_images name) (buffer_image new_images name) (rectangle_of rectangles b.root)

-- A table of buffers and the next: each buffer that both have has one root, one box and one format, and images that
-- agree outside the rectangle of the root.
pub record AreNeighbors (old new : Facts) (old_images new_images : Buffers) (rectangles : Rectangles) : Type 0 where
  pub steady : AreSteady old new
  pub images : AgreeOutsideRoots old new old_images new_images rectangles

-- both states are valid, these are the images of their buffers, and these agree outside the rectangles
pub record IsChange {Op : Type 0} (meanings : Meanings Op) (change : Change Op) (old new : Buffers) : Type 0 where
  pub stated : IsStatedChange meanings change
  pub old_images : AreImagesOf change.old.buffers old
  pub new_images : AreImagesOf change.new.buffers new
  pub images : AgreeOutsideRoots change.old.buffers change.new.buffers old new change.rectangles

-- a state with the images of its buffers
abbrev pub scene_of_side : {Op : Type 0} → Side Op → Buffers → Scene Op
scene_of_side side images = record { table = images; nodes = specs_of side.nodes }

-- two images, whatever their boxes, have the same samples at each position outside a rectangle
abbrev pub SamplesAgreeOutside : Image → Image → Rectangle → Type 0
SamplesAgreeOutside a b r = (u v c : ℕ) → ¬ Inside u v r → at a u v c ≡ at b u v c
