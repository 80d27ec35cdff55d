-- The box and the format of an image, without its samples.
use Rattle.std.specs.Prelude.{ℕ, List, map, Option}
use Rattle.std.specs.Map.{lookup}
use Rattle.std.specs.Str.{bytes_eq}
use Rattle.plane_rect.specs.Rectangle.{Rectangle, empty}
use Rattle.pixel_formats.specs.declared.format.Format.{Format}
use Rattle.pixel_formats.specs.declared.format.Format.TheVariants.{Y8}
use Rattle.model_images.specs.Image.{Image}
use Rattle.model_graphs.specs.Evaluation.{Buffers}

pub record Shape : Type 0 where
  pub box : Rectangle
  pub format : Format

-- that of the image without a pixel
abbrev pub no_shape : Shape
no_shape = record { box = empty; format = Y8 }

abbrev pub shape_of_image : Image → Shape
shape_of_image image = record { box = image.box; format = image.format }

-- the shapes of buffers, by their names
abbrev pub Shapes : Type 0
Shapes = List (List ℕ × Shape)

-- the shape of the buffer of a name
abbrev pub shape_in : Shapes → List ℕ → Option Shape
shape_in shapes name = lookup (bytes_eq name) shapes

-- the shapes of the images of buffers
abbrev pub shapes_of_images : Buffers → Shapes
shapes_of_images images = map (λ (entry : List ℕ × Image). (entry.0, shape_of_image entry.1)) images
