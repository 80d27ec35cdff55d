-- What operations give of whole images.
use Rattle.std.specs.Prelude.{◌≤◌, ℕ, List}
use Rattle.pixel_formats.specs.Format.{max_sample}
use Rattle.pixel_formats.specs.declared.format.Format.{Format}
use Rattle.model_images.specs.Image.{Image, at}
use Rattle.model_graphs.specs.Meanings as meanings
use Rattle.model_operations.specs.Meanings.{int_meanings}
use Rattle.model_operations.specs.declared.operation.IntOp.{IntOp}

-- the format of what an operation gives, where there is one
abbrev pub result_format : IntOp → List Format → Format
result_format op formats = meanings.result_format int_meanings op formats

-- the image that an operation gives of images
abbrev pub result_of : IntOp → List Image → Image
result_of op images = meanings.result_of int_meanings op images

-- no sample of an image is above the largest of its format
abbrev pub IsInRange : Image → Type 0
IsInRange image = (u v c : ℕ) → at image u v c ≤ max_sample image.format
