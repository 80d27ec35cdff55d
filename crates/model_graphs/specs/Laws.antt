-- The laws that the meanings of operations keep.
use Rattle.std.specs.Prelude.{◌≡◌, ℕ, ◌<◌, Bool, true, List, length, slice_index_or}
use Rattle.plane_rect.specs.Rectangle.{Rectangle, Inside, Includes, AreDisjoint, empty, is_empty}
use Rattle.model_images.specs.Agreement.{AgreeOver}
use Rattle.model_images.specs.Image.{Image}
use Rattle.model_images.specs.Paint.{no_image}
use Rattle.model_graphs.specs.Meanings.{Meanings, boxes_of, formats_of, result_box, result_of}

-- the rectangle of one position
abbrev pub unit_rectangle : ℕ → ℕ → Rectangle
unit_rectangle u v = record { first_column = u; first_row = v; width = 1; height = 1 }

-- the images of inputs have one box and one format, and agree where a part of the output requires them
pub record AgreeWhereRequired {Op : Type 0} (meanings : Meanings Op) (operation : Op) (a b : List Image) (part : Rectangle) : Type 0 where
  pub boxes : boxes_of a ≡ boxes_of b
  pub formats : formats_of a ≡ formats_of b
  pub samples : (i : ℕ) → i < length a →
      AgreeOver (slice_index_or a i no_image) (slice_index_or b i no_image) (meanings.required operation (boxes_of a) i part)

-- The samples of a part of the box depend only on what it requires.
abbrev pub IsLocal : {Op : Type 0} → Meanings Op → Type 0
IsLocal {Op} meanings =
    (operation : Op) (a b : List Image) (part : Rectangle) →
    Includes (result_box meanings operation (boxes_of a)) part →
    AgreeWhereRequired meanings operation a b part →
    AgreeOver (result_of meanings operation a) (result_of meanings operation b) part

-- A position of the box that is not invalidated by a change requires no position that changed.
abbrev pub IsDual : {Op : Type 0} → Meanings Op → Type 0
IsDual {Op} meanings =
    (operation : Op) (boxes : List Rectangle) (i : ℕ) (changed : Rectangle) (u v : ℕ) →
    Inside u v (result_box meanings operation boxes) →
    ¬ Inside u v (meanings.invalidated operation boxes i changed) →
    AreDisjoint (meanings.required operation boxes i (unit_rectangle u v)) changed

-- What is required of an input is in its box, and what is invalidated in the box of the result.
pub record IsBoxed {Op : Type 0} (meanings : Meanings Op) : Type 0 where
  pub required : (operation : Op) (boxes : List Rectangle) (i : ℕ) (part : Rectangle) →
      Includes (slice_index_or boxes i empty) (meanings.required operation boxes i part)
  pub invalidated : (operation : Op) (boxes : List Rectangle) (i : ℕ) (changed : Rectangle) →
      Includes (result_box meanings operation boxes) (meanings.invalidated operation boxes i changed)

-- the two laws by which a change reaches no further than what it invalidates
pub record KeepsLaws {Op : Type 0} (meanings : Meanings Op) : Type 0 where
  pub local : IsLocal meanings
  pub dual : IsDual meanings

-- A change without a pixel invalidates none. It is no law of each type of operations: one that answers its whole box
-- for such a change is right too.
abbrev pub KeepsNothing : {Op : Type 0} → Meanings Op → Type 0
KeepsNothing {Op} meanings =
    (operation : Op) (boxes : List Rectangle) (i : ℕ) (changed : Rectangle) →
    is_empty changed ≡ true → is_empty (meanings.invalidated operation boxes i changed) ≡ true

-- operations that pass the test are one
abbrev pub Distinguishes : {Op : Type 0} → (Op → Op → Bool) → Type 0
Distinguishes {Op} same = (f g : Op) → same f g ≡ true → f ≡ g

-- and each passes it against itself
pub record IsEquality {Op : Type 0} (same : Op → Op → Bool) : Type 0 where
  pub apart : Distinguishes same
  pub itself : (operation : Op) → same operation operation ≡ true
