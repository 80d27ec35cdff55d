-- What an operation asks of its inputs, and of the windows that it is applied to.
use Rattle.std.specs.Prelude.{◌≡◌, ◌<◌, ◌≤◌, ℕ, IsSome, List, map, slice_get, Some, Option, None, if◌then◌else◌}
use Rattle.std.specs.Option.{option_and_then}
use Rattle.plane_rect.specs.Rectangle.{Includes, Inside, Rectangle, in_limits}
use Rattle.plane_rect.specs.Tile.{Tile, tile_square}
use Rattle.pixel_formats.specs.Format.{channels, max_sample}
use Rattle.pixel_formats.specs.declared.format.Format.{Format}
use Rattle.model_images.specs.Image.{Image, at}
use Rattle.model_graphs.specs.Meanings.{Meanings, boxes_of, formats_of, result_of}
use Rattle.model_graphs.specs.Windows.{Window, window_image}

-- the box of an operation's result, where there is one and it is in limits
abbrev pub bounds_of : {Op : Type 0} → Meanings Op → Op → List Rectangle → Option Rectangle
bounds_of meanings operation boxes =
    option_and_then (λ box. if in_limits box then Some box else None) (meanings.box operation boxes)

-- the boxes and the formats of the images that windows show
abbrev pub window_bounds : List Window → List Rectangle
window_bounds windows = map (λ (window : Window). window.bounds) windows

abbrev pub window_formats : List Window → List Format
window_formats windows = map (λ (window : Window). window.format) windows

-- the images that windows show, in their order
abbrev pub window_images : List Window → List Image
window_images windows = map window_image windows

-- some tile contains the whole part
abbrev pub IsInOneTile : Rectangle → Type 0
IsInOneTile part = (tile : Tile) × Includes (tile_square tile) part

-- Each window is needed at all that a part of the result requires of the input of its number.
abbrev pub HaveRequired : {Op : Type 0} → Meanings Op → Op → List Rectangle → List Window → Rectangle → Type 0
HaveRequired meanings operation boxes windows part =
    (i : ℕ) (window : Window) → slice_get windows i ≡ Some window → Includes window.need (meanings.required operation boxes i part)

-- the result of the images that windows show
abbrev pub result_of_windows : {Op : Type 0} → Meanings Op → Op → List Window → Image
result_of_windows meanings operation windows = result_of meanings operation (window_images windows)

-- An operation copies an input over a part of its result: the input has each position of the part, and the result has the
-- input's format and its samples there.
pub record CopiesInput {Op : Type 0} (meanings : Meanings Op) (operation : Op) (boxes : List Rectangle) (part : Rectangle) (input : ℕ) : Type 0 where
  pub inside : (box : Rectangle) → slice_get boxes input ≡ Some box → Includes box part
  pub format : (formats : List Format) (format : Format) → meanings.format operation formats ≡ Some format →
      slice_get formats input ≡ Some format
  pub samples : (images : List Image) → boxes_of images ≡ boxes → IsSome (meanings.format operation (formats_of images)) →
      (image : Image) → slice_get images input ≡ Some image → (u v c : ℕ) → Inside u v part → c < channels image.format →
      at image u v c ≤ max_sample image.format → meanings.value operation images u v c ≡ at image u v c
