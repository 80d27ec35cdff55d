-- States that differ in samples alone.
use Rattle.std.specs.Prelude.{◌≡◌, ℕ, List, is_some}
use Rattle.model_graphs.specs.Facts.{Facts, fact_of}
use Rattle.model_graphs.specs.Node.{Node}
use Rattle.model_graphs.specs.Meanings.{Meanings}
use Rattle.model_states.specs.Commits.{side_of}
use Rattle.model_states.specs.Damage.{AreSteady, Change}
use Rattle.model_states.specs.Rectangles.{Rectangles}

-- rectangles of the roots of buffers are written, under the same nodes
abbrev pub samples_change : {Op : Type 0} → Meanings Op → Facts → List (Node Op) → Rectangles → Change Op
samples_change meanings buffers nodes rectangles =
    record {
      old = side_of meanings buffers nodes;
      new = side_of meanings buffers nodes;
      rectangles = rectangles;
    }

-- both have the same names, and what they have is steady
pub record HaveSameBuffers (old new : Facts) : Type 0 where
  pub names : (name : List ℕ) → is_some (fact_of old name) ≡ is_some (fact_of new name)
  pub steady : AreSteady old new
