-- Results.
use Rattle.std.proofs.Common.{◌≡◌, ℕ, ◌<◌, List, Option, Some, unwrap_or, ap}
use Rattle.plane_rect.specs.Rectangle.{Inside, Rectangle, empty}
use Rattle.pixel_formats.specs.Format.{channels}
use Rattle.pixel_formats.specs.declared.format.Format.{Format}
use Rattle.pixel_formats.specs.declared.format.Format.TheVariants.{Y8}
use Rattle.model_images.proofs.Laws.{at-image_from_fn}
use Rattle.model_images.specs.Image.{Image, IsImage, at}
use Rattle.model_images.proofs.Laws.{length-sampled}
use Rattle.model_operations.specs.Boxes.{box_of, result_box}
use Rattle.model_operations.specs.Formats.{format_of}
use Rattle.model_operations.specs.Inputs.{boxes_of, formats_of}
use Rattle.model_operations.specs.Results.{result_format, result_of}
use Rattle.model_operations.specs.Values.{value_at}
use Rattle.model_operations.specs.declared.operation.IntOp.{IntOp}

pub result-box : (op : IntOp) (images : List Image) (box : Rectangle) → box_of op (boxes_of images) ≡ Some box → (result_of op images).box ≡ box
result-box op images box stated = ap (λ (o : Option Rectangle). unwrap_or o empty) stated

pub result-format : (op : IntOp) (images : List Image) (format : Format) → format_of op (formats_of images) ≡ Some format → (result_of op images).format ≡ format
result-format op images format stated = ap (λ (o : Option Format). unwrap_or o Y8) stated

pub result-whole : (op : IntOp) (images : List Image) → IsImage (result_of op images)
result-whole op images =
    length-sampled (result_box op (boxes_of images)) (channels (result_format op (formats_of images))) (value_at op images)

pub result-at : (op : IntOp) (images : List Image) (u v c : ℕ) → Inside u v (result_box op (boxes_of images)) → c < channels (result_format op (formats_of images))
    → at (result_of op images) u v c ≡ value_at op images u v c
result-at op images u v c there known =
    at-image_from_fn (result_box op (boxes_of images)) (result_format op (formats_of images)) (value_at op images) u v c there known

pub ruleset result_laws = (result-whole, result-box, result-format, result-at)
