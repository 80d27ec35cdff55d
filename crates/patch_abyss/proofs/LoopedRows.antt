-- Rows that read an image under `Loop`.
use Rattle.std.proofs.Common.{◌≡◌, ℕ, ◌+◌, ◌-◌, ◌*◌, ◌%◌, ◌<◌, ◌≤◌, List, get_or, ap, ◌∙◌, arith}
use Rattle.plane_rect.specs.Rectangle.{Rectangle, Within, end_row}
use Rattle.pixel_formats.specs.Format.{channels, pixel_bytes}
use Rattle.pixel_formats.specs.Row.{pixel_at}
use Rattle.model_images.specs.Image.{Image, at}
use Rattle.pixel_formats.specs.declared.abyss.Abyss.TheVariants.{Loop}
use Rattle.model_images.specs.Abyss.{abyss_at, wrapped}
use Rattle.patch_abyss.specs.Fetched.{RowsFilled}
use Rattle.patch_abyss.specs.Rows.{moved_to}
use Rattle.patch_abyss.proofs.CopiedRows.{before_position}
use Rattle.patch_abyss.proofs.FilledRows.{RowsFilled-by_pixels}
use Rattle.patch_abyss.proofs.ReadPixels.{looped_pixel}
use Rattle.patch_abyss.proofs.RowPixels.{cycled_position}

module _ (image : Image) (rect : Rectangle) (s e first : ℕ) (from to : List ℕ) (first_row : image.box.first_row ≤ s) (end : e ≤ end_row image.box) (wide : 0 < image.box.width)
    (samples : (u v c : ℕ) → Within image.box.first_column image.box.width u → s ≤ v → v < e → c < channels image.format →
    pixel_at image.format from ((v - s) * image.box.width + (u - image.box.first_column)) c ≡ at image u v c)
    (at_first : first ≡ wrapped image.box.first_column image.box.width rect.first_column - image.box.first_column)
    (bytes : (j k : ℕ) → j < e - s → k < rect.width * pixel_bytes image.format →
    get_or to (j * (rect.width * pixel_bytes image.format) + k) 0
    ≡ get_or from (j * (image.box.width * pixel_bytes image.format) + (first * pixel_bytes image.format + k) % (image.box.width * pixel_bytes image.format)) 0) where
  abbrev n : ℕ
  n = pixel_bytes image.format

  abbrev len : ℕ
  len = image.box.width

  pub RowsFilled-looped : RowsFilled (moved_to s rect) image.format (abyss_at image Loop) (e - s) to
  RowsFilled-looped =
      RowsFilled-by_pixels (moved_to s rect) image.format (abyss_at image Loop) (e - s) to
      (λ j k c below inside known.
      looped_pixel image (s + j) from (j * len) (omega arith, omega arith)
      (λ u c column known.
      let level : s + j - s ≡ j = omega arith in
      ap (λ (i : ℕ). pixel_at image.format from (i * len + (u - image.box.first_column)) c) (omega arith)
      ∙ samples u (s + j) c column (omega arith) (omega arith) known)
      to (j * rect.width + k) rect.first_column first k c wide at_first known
      (λ b within.
      let position : k * n + b < rect.width * n = before_position k rect.width n b inside within in
      ap (λ (i : ℕ). get_or to i 0) (omega arith)
      ∙ bytes j (k * n + b) below position
      ∙ ap (λ (i : ℕ). get_or from (j * (len * n) + i) 0) (cycled_position n len first k b within wide)
      ∙ ap (λ (i : ℕ). get_or from i 0) (omega arith)))
