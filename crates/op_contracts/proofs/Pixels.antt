-- Rows of pixels as the raw bytes of rectangles.
use Rattle.std.proofs.Common.{◌≡◌, ℕ, ◌<◌, List, length, sym, ◌∙◌, subst}
use Rattle.plane_rect.specs.Rectangle.{Inside, Rectangle, area, offset}
use Rattle.plane_rect.proofs.RectangleLaws.{offset-below}
use Rattle.pixel_formats.specs.Format.{channels}
use Rattle.pixel_formats.specs.Row.{HasPixels, Pixel}
use Rattle.pixel_formats.specs.declared.format.Format.{Format}
use Rattle.model_images.specs.FromRaw.{byte_count, image_from_raw, pixels_from_raw}
use Rattle.model_images.specs.Image.{image_from_fn}
use Rattle.model_images.proofs.Laws.{generated_equal}
use Rattle.sample_rows.proofs.RowLaws.{pixel_count_of}

-- the image of a rectangle's raw bytes by the pixels of these
pub image-of_pixels : (r : Rectangle) (format : Format) (bytes : List ℕ) (pixels : ℕ → Pixel) (f : ℕ → ℕ → Pixel)
    → length bytes ≡ byte_count r format → HasPixels format bytes pixels
    → ((u v c : ℕ) → Inside u v r → c < channels format → pixels (offset r u v) c ≡ f u v c)
    → image_from_raw r format bytes ≡ image_from_fn r format f
image-of_pixels r format bytes pixels f whole has same =
    generated_equal r format (pixels_from_raw r format bytes) f
    (λ u v c there known.
    has (offset r u v) c (subst (λ n. offset r u v < n) (sym (pixel_count_of format bytes (area r) whole)) (offset-below u v r there)) known
    ∙ same u v c there known)
