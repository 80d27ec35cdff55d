-- Rows of pixels as the raw bytes of rectangles.
use Rattle.std.proofs.Common.{◌≡◌, ℕ, ◌*◌, List, length, ap, ◌∙◌, subst}
use Rattle.plane_rect.specs.Rectangle.{Rectangle, area, offset}
use Rattle.pixel_formats.specs.Format.{pixel_bytes}
use Rattle.pixel_formats.specs.Row.{HasPixels, pixel_at}
use Rattle.pixel_formats.specs.declared.format.Format.{Format}
use Rattle.model_images.specs.FromRaw.{byte_count, image_from_raw}
use Rattle.model_images.specs.Image.{Image, at, image_from_fn}
use Rattle.op_contracts.specs.PartBytes.{AreRawBytesOf}
use Rattle.op_contracts.proofs.Pixels.{image-of_pixels}
use Rattle.point_ops.specs.Changes.{changed_format, changed_pixel}
use Rattle.point_ops.specs.declared.change.Change.{Change}
use Rattle.point_ops.proofs.Agreeing.{changed-agrees}

-- the image of changed pixels of an image's raw bytes over a rectangle
pub changed-image : (image : Image) (r : Rectangle) (src : List ℕ) → AreRawBytesOf image r src → (change : Change) (dst : List ℕ)
    → length dst ≡ byte_count r (changed_format change image.format)
    → HasPixels (changed_format change image.format) dst (λ k. changed_pixel change image.format (pixel_at image.format src k))
    → image_from_raw r (changed_format change image.format) dst
    ≡ image_from_fn r (changed_format change image.format) (λ u v. changed_pixel change image.format (at image u v))
changed-image image r src are change dst whole has =
    image-of_pixels r (changed_format change image.format) dst (λ k. changed_pixel change image.format (pixel_at image.format src k))
    (λ u v. changed_pixel change image.format (at image u v)) whole has
    (λ u v c there known.
    changed-agrees change image.format (pixel_at image.format src (offset r u v)) (at image u v) c (λ k few. are.samples u v k there few) known)

pub changed-of : (image : Image) (r : Rectangle) (src : List ℕ) → AreRawBytesOf image r src → (change : Change) (from to : Format) (dst : List ℕ)
    → from ≡ image.format → to ≡ changed_format change from → length dst ≡ area r * pixel_bytes (changed_format change from)
    → HasPixels (changed_format change from) dst (λ k. changed_pixel change from (pixel_at from src k))
    → image_from_raw r to dst ≡ image_from_fn r (changed_format change image.format) (λ u v. changed_pixel change image.format (at image u v))
changed-of image r src are change from to dst format its whole has =
    let Whole : Format → Type 0 = λ f. length dst ≡ area r * pixel_bytes (changed_format change f) in
    let Has : Format → Type 0 = λ f. HasPixels (changed_format change f) dst (λ k. changed_pixel change f (pixel_at f src k)) in
    ap (λ (f : Format). image_from_raw r f dst) (its ∙ ap (changed_format change) format)
    ∙ changed-image image r src are change dst (subst Whole format whole) (subst Has format has)
