-- What the operations of a type mean. Nothing else of an operation is read.
use Rattle.std.specs.Prelude.{ℕ, List, map, Option, unwrap_or}
use Rattle.plane_rect.specs.Rectangle.{Rectangle, empty}
use Rattle.pixel_formats.specs.declared.format.Format.{Format}
use Rattle.pixel_formats.specs.declared.format.Format.TheVariants.{Y8}
use Rattle.model_images.specs.Image.{Image, image_from_fn}

-- The number of inputs; the format and the box of the inputs' formats and boxes, where there is one; the sample at a
-- column, a row and a channel of the inputs' images. By the inputs' boxes and which input: what of it a rectangle of
-- the output requires, and what of the output a rectangle of it that changes invalidates.
pub record Meanings (Op : Type 0) : Type 0 where
  pub input_count : Op → ℕ
  pub format : Op → List Format → Option Format
  pub box : Op → List Rectangle → Option Rectangle
  pub value : Op → List Image → ℕ → ℕ → ℕ → ℕ
  pub required : Op → List Rectangle → ℕ → Rectangle → Rectangle
  pub invalidated : Op → List Rectangle → ℕ → Rectangle → Rectangle

-- the boxes and the formats of images
abbrev pub boxes_of : List Image → List Rectangle
boxes_of images = map (λ (image : Image). image.box) images

abbrev pub formats_of : List Image → List Format
formats_of images = map (λ (image : Image). image.format) images

-- the box and the format of an operation's image, and those of the image of no position where there is none
abbrev pub result_box : {Op : Type 0} → Meanings Op → Op → List Rectangle → Rectangle
result_box meanings operation boxes = unwrap_or (meanings.box operation boxes) empty

abbrev pub result_format : {Op : Type 0} → Meanings Op → Op → List Format → Format
result_format meanings operation formats = unwrap_or (meanings.format operation formats) Y8

-- The image that an operation gives of the images of its inputs: its values over its box, and 0 outside.
abbrev pub result_of : {Op : Type 0} → Meanings Op → Op → List Image → Image
result_of meanings operation images =
    image_from_fn
    (result_box meanings operation (boxes_of images))
    (result_format meanings operation (formats_of images))
    (meanings.value operation images)
