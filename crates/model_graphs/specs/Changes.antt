-- Images that are known apart as inputs.
use Rattle.std.specs.Prelude.{◌≡◌, ◌≢◌, ℕ, List, slice_index_or}
use Rattle.plane_rect.specs.Rectangle.{Inside, Rectangle}
use Rattle.model_images.specs.Image.{Image, at}
use Rattle.model_images.specs.Paint.{no_image}
use Rattle.model_graphs.specs.Meanings.{boxes_of, formats_of}

-- the image of an input
abbrev pub input_image : List Image → ℕ → Image
input_image images i = slice_index_or images i no_image

-- two lists of images have the same boxes and the same formats
pub record HaveEqualShapes (before after : List Image) : Type 0 where
  pub boxes : boxes_of before ≡ boxes_of after
  pub formats : formats_of before ≡ formats_of after

-- two lists of images are equal, and have the same samples but for positions of a rectangle in one of them
pub record ChangedWithin (i : ℕ) (r : Rectangle) (before after : List Image) : Type 0 where
  pub equal : HaveEqualShapes before after
  pub changed : (u v c : ℕ) → (Inside u v r → ⊥) → at (input_image before i) u v c ≡ at (input_image after i) u v c
  pub others : (j u v c : ℕ) → j ≢ i → at (input_image before j) u v c ≡ at (input_image after j) u v c
