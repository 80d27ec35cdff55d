-- Rows that are generated one after the other.
use Rattle.std.proofs.Common.{◌≡◌, ℕ, ◌+◌, ◌-◌, ◌*◌, ◌%◌, ◌<◌, ◌≤◌, List, length, get_or, inl, inr, sym, ap, ◌∙◌, arith}
use Rattle.std.proofs.Math.Nat.{add-mod_left, mod-eq_of_lt}
use Rattle.std.proofs.lemmas.Bool.{cases_lt}
use Rattle.std.proofs.lemmas.Nat.{mul-add-lt, mod_below}
use Rattle.plane_rect.specs.Rectangle.{Rectangle, Includes, end_row, offset}
use Rattle.pixel_formats.specs.Format.{channels, pixel_bytes}
use Rattle.pixel_formats.specs.Row.{Pixel, HasPixels, pixel_at}
use Rattle.pixel_formats.specs.declared.format.Format.{Format}
use Rattle.model_images.specs.Image.{Image, at, image_from_fn}
use Rattle.model_images.proofs.Laws.{generated_equal}
use Rattle.pixel_formats.specs.declared.abyss.Abyss.{Abyss}
use Rattle.pixel_formats.specs.declared.abyss.Abyss.TheVariants.{None}
use Rattle.model_images.specs.Abyss.{abyss_at}
use Rattle.model_images.proofs.PolicyLaws.{abyss_at-inside, none-everywhere}
use Rattle.model_images.specs.FromRaw.{image_from_raw, pixels_from_raw}
use Rattle.sample_rows.proofs.RowLaws.{pixel_count_of}
use Rattle.patch_abyss.specs.Fetched.{RowsFilled}
use Rattle.patch_abyss.specs.Rows.{moved_to}
use Rattle.patch_abyss.proofs.CopiedRows.{before_position, written-before, written-there}
use Rattle.patch_abyss.proofs.RowPixels.{pixel_moved, cycled_position}
use borrow.Rule.Slice.PartMut.{put_mid}

pub RowsFilled-none : (box : Rectangle) (format : Format) (f : ℕ → ℕ → Pixel) (rows : ℕ) (bytes : List ℕ) → rows ≡ 0 → RowsFilled box format f rows bytes
RowsFilled-none box format f rows bytes none = record { generated = λ u v c there known. absurd (omega (arith, there.row)) }

pub RowsFilled-all : (box : Rectangle) (format : Format) (f : ℕ → ℕ → Pixel) (bytes : List ℕ) → RowsFilled box format f box.height bytes → image_from_raw box format bytes ≡ image_from_fn box format f
RowsFilled-all box format f bytes all =
    generated_equal box format (pixels_from_raw box format bytes) f
    (λ u v c there known. all.generated u v c (record { column = there.column; row = there.row }) known)

-- the pixels of one row
pub RowsFilled-pixels : (box : Rectangle) (format : Format) (f : ℕ → ℕ → Pixel) (v rows : ℕ) (bytes : List ℕ) → rows ≡ 1 → length bytes ≡ box.width * pixel_bytes format →
    RowsFilled (moved_to v box) format f rows bytes → HasPixels format bytes (λ k. f (box.first_column + k) v)
RowsFilled-pixels box format f v rows bytes one long generated = λ k c inside known.
    let below : k < box.width = rw (pixel_count_of format bytes box.width long) at inside in
    let here : v - v ≡ 0 = omega arith in
    let level : (v - v) * box.width + (box.first_column + k - box.first_column) ≡ k = omega (arith, ap (λ (i : ℕ). i * box.width) here) in
    ap (λ (i : ℕ). pixel_at format bytes i c) (sym level)
    ∙ generated.generated (box.first_column + k) v c (record { column = (omega arith, omega arith); row = (omega arith, omega (arith, one)) }) known

module _ (box : Rectangle) (format : Format) (f : ℕ → ℕ → Pixel) (j : ℕ) (now new : List ℕ) (before : RowsFilled box format f j now) where
  abbrev n : ℕ
  n = pixel_bytes format

  next_rows : (more : ℕ) → ((i : ℕ) → i < j * (box.width * n) → get_or new i 0 ≡ get_or now i 0) →
      ((i k c : ℕ) → i < more → k < box.width → c < channels format → pixel_at format new ((j + i) * box.width + k) c ≡ f (box.first_column + k) (box.first_row + (j + i)) c) →
      RowsFilled box format f (j + more) new
  next_rows more kept rows = record {
    generated = λ u v c there known.
        elim (cases_lt v (box.first_row + j)) [
          | inl above ↦
              let index : offset box u v < j * box.width = omega (arith, mul-add-lt (v - box.first_row) box.width (u - box.first_column) j (omega (arith, there.row)) (omega (arith, there.column))) in
              pixel_moved format new now (offset box u v) (offset box u v) c known
              (λ b within. kept (offset box u v * n + b) (omega (arith, before_position (offset box u v) (j * box.width) n b index within)))
              ∙ before.generated u v c (record { column = there.column; row = (there.row.0, above) }) known
          | inr from_here ↦
              let i = v - box.first_row - j in
              let down : v - box.first_row ≡ j + i = omega (arith, there.row) in
              let here : box.first_row + (j + i) ≡ v = omega (arith, there.row) in
              let k = u - box.first_column in
              let column : box.first_column + k ≡ u = omega (arith, there.column) in
              ap (λ (a : ℕ). pixel_at format new (a * box.width + k) c) down
              ∙ rows i k c (omega (arith, there.row)) (omega (arith, there.column)) known
              ∙ ap (λ (a : ℕ). f a (box.first_row + (j + i)) c) column
              ∙ ap (λ (b : ℕ). f u b c) here
        ];
  }

  module _ (count : ℕ) (is_count : count ≡ box.width * n) where
    -- rows that are written one after the other, and that have the samples of others
    pub RowsFilled-written : (start len more source : ℕ) (piece : List ℕ) → start ≡ j * count → len ≡ more * count → start + more * count ≤ length now → length piece ≡ more * count →
        new ≡ put_mid start len now piece → RowsFilled (moved_to source box) format f more piece → ((i u c : ℕ) → i < more → f u (source + i) c ≡ f u (box.first_row + (j + i)) c) →
        RowsFilled box format f (j + more) new
    RowsFilled-written start len more source piece at_start at_len room long is filled same =
        let begins : start ≡ j * (box.width * n) = at_start ∙ ap (λ (m : ℕ). j * m) is_count in
        let fits : length piece ≡ len = long ∙ sym at_len in
        next_rows more
        (λ i lt. ap (λ (xs : List ℕ). get_or xs i 0) is ∙ written-before now piece start len (omega arith) fits i (omega (arith, begins)))
        (λ i k c below inside known.
        let at_i : source + i - source ≡ i = omega arith in
        let aside : box.first_column + k - box.first_column ≡ k = omega arith in
        let positions : i * box.width + k < more * box.width = before_position i more box.width k below inside in
        pixel_moved format new piece ((j + i) * box.width + k) (i * box.width + k) c known
        (λ b within.
        ap (λ (xs : List ℕ). get_or xs (((j + i) * box.width + k) * n + b) 0) is
        ∙ written-there now piece start len (omega arith) fits (((j + i) * box.width + k) * n + b) ((i * box.width + k) * n + b) (omega (arith, begins))
        (omega (arith, before_position (i * box.width + k) (more * box.width) n b positions within, at_len, ap (λ (m : ℕ). more * m) is_count)))
        ∙ ap (λ (a : ℕ). pixel_at format piece (a * box.width + k) c) (sym at_i)
        ∙ ap (λ (a : ℕ). pixel_at format piece ((source + i - source) * box.width + a) c) (sym aside)
        ∙ filled.generated (box.first_column + k) (source + i) c (record { column = (omega arith, omega arith); row = (omega arith, omega arith) }) known
        ∙ same i (box.first_column + k) c below)

    -- a row that is written after those above it
    pub RowsFilled-row : (start len : ℕ) (piece : List ℕ) → start ≡ j * count → len ≡ count → start + count ≤ length now → length piece ≡ count →
        new ≡ put_mid start len now piece → HasPixels format piece (λ k. f (box.first_column + k) (box.first_row + j)) → RowsFilled box format f (j + 1) new
    RowsFilled-row start len piece at_start at_len room long is pixels =
        RowsFilled-written start len 1 (box.first_row + j) piece at_start (omega (arith, at_len)) (omega (arith, room)) (omega (arith, long)) is
        (record {
          generated = λ u v c there known.
              let here : v ≡ box.first_row + j = omega (arith, there.row) in
              let k = u - box.first_column in
              let column : box.first_column + k ≡ u = omega (arith, there.column) in
              let level : v - (box.first_row + j) ≡ 0 = omega arith in
              let first : (v - (box.first_row + j)) * box.width + k ≡ k = omega (arith, ap (λ (i : ℕ). i * box.width) level) in
              ap (λ (i : ℕ). pixel_at format piece i c) first
              ∙ pixels k c (rw (pixel_count_of format piece box.width (long ∙ is_count)) (omega (arith, there.column))) known
              ∙ ap (λ (a : ℕ). f a (box.first_row + j) c) column
              ∙ ap (λ (b : ℕ). f u b c) (sym here);
        })
        (λ i u c below. ap (λ (v : ℕ). f u v c) (omega arith))

    -- rows that have the bytes of those above them, periodically
    pub RowsFilled-repeated : (start len period more : ℕ) (piece : List ℕ) → 0 < period → period ≤ j → start ≡ (j - period) * count → len ≡ (period + more) * count → start + len ≤ length now →
        length piece ≡ len → new ≡ put_mid start len now piece → ((i : ℕ) → i < len → get_or piece i 0 ≡ get_or now (start + i % (period * count)) 0) →
        ((i u c : ℕ) → i < more → f u (box.first_row + (j - period + i % period)) c ≡ f u (box.first_row + (j + i)) c) → RowsFilled box format f (j + more) new
    RowsFilled-repeated start len period more piece some above at_start at_len room long is again repetition =
        let back : j - period + period ≡ j = omega (arith, above) in
        let begins : start + period * count ≡ j * count = omega (arith, at_start, ap (λ (i : ℕ). i * count) back) in
        let whole : j * count ≡ j * (box.width * n) = ap (λ (m : ℕ). j * m) is_count in
        next_rows more
        (λ i lt.
        ap (λ (xs : List ℕ). get_or xs i 0) is
        ∙ elim (cases_lt i start) [
          | inl prefix ↦ written-before now piece start len room long i prefix
          | inr trailing ↦
              let q = i - start in
              let below : q < period * count = omega (arith, begins, whole) in
              let inside : q < len = omega (arith, at_len, below) in
              written-there now piece start len room long i q (omega arith) inside
              ∙ again q inside
              ∙ ap (λ (p : ℕ). get_or now (start + p) 0) (mod-eq_of_lt below)
              ∙ ap (λ (p : ℕ). get_or now p 0) (omega arith)
        ])
        (λ i k c below inside known.
        let e = j - period + i % period in
        let under : e < j = omega (arith, mod_below i period some) in
        let down : box.first_row + e - box.first_row ≡ e = omega arith in
        let aside : box.first_column + k - box.first_column ≡ k = omega arith in
        pixel_moved format new now ((j + i) * box.width + k) (e * box.width + k) c known
        (λ b within.
        let r = k * n + b in
        let in_row : r < count = omega (arith, before_position k box.width n b inside within, is_count) in
        let q = (period + i) * count + r in
        let in_piece : q < len = omega (arith, at_len, before_position (period + i) (period + more) count r (omega arith) in_row) in
        let whole_turn : (0 + (period + i)) % period ≡ i % period = ap (λ (a : ℕ). a % period) (omega arith) ∙ add-mod_left period i in
        let turned : q % (period * count) ≡ (i % period) * count + r =
        ap (λ (a : ℕ). a % (period * count)) (omega arith)
        ∙ cycled_position count period 0 (period + i) r in_row some
        ∙ ap (λ (a : ℕ). a * count + r) whole_turn in
        ap (λ (xs : List ℕ). get_or xs (((j + i) * box.width + k) * n + b) 0) is
        ∙ written-there now piece start len room long (((j + i) * box.width + k) * n + b) q (omega (arith, begins, is_count, ap (λ (m : ℕ). (j + i) * m) is_count)) in_piece
        ∙ again q in_piece
        ∙ ap (λ (p : ℕ). get_or now (start + p) 0) turned
        ∙ ap (λ (p : ℕ). get_or now p 0) (omega (arith, at_start, ap (λ (m : ℕ). e * m) is_count)))
        ∙ ap (λ (i : ℕ). pixel_at format now (i * box.width + k) c) (sym down)
        ∙ ap (λ (i : ℕ). pixel_at format now ((box.first_row + e - box.first_row) * box.width + i) c) (sym aside)
        ∙ before.generated (box.first_column + k) (box.first_row + e) c (record { column = (omega arith, omega arith); row = (omega arith, omega arith) }) known
        ∙ repetition i (box.first_column + k) c below)

-- rows that are generated pixel by pixel
pub RowsFilled-by_pixels : (box : Rectangle) (format : Format) (f : ℕ → ℕ → Pixel) (many : ℕ) (bytes : List ℕ) →
    ((j k c : ℕ) → j < many → k < box.width → c < channels format → pixel_at format bytes (j * box.width + k) c ≡ f (box.first_column + k) (box.first_row + j) c) →
    RowsFilled box format f many bytes
RowsFilled-by_pixels box format f many bytes pixels = record {
  generated = λ u v c there known.
      let j = v - box.first_row in
      let k = u - box.first_column in
      pixels j k c (omega (arith, there.row)) (omega (arith, there.column)) known
      ∙ ap (λ (a : ℕ). f a (box.first_row + j) c) (omega (arith, there.column))
      ∙ ap (λ (b : ℕ). f u b c) (omega (arith, there.row));
}

-- the rows of a box above one of them, or all, are generated
pub record FilledAbove (box : Rectangle) (format : Format) (f : ℕ → ℕ → Pixel) (row : ℕ) (bytes : List ℕ) : Type 0 where
  pub first_row : box.first_row ≤ row
  pub end_row : row ≤ end_row box
  pub rows_filled : RowsFilled box format f (row - box.first_row) bytes

-- ---- images that are read where the policy has no say

pub image_from_fn-none : (image : Image) (policy : Abyss) (box : Rectangle) → policy ≡ None → image_from_fn box image.format (at image) ≡ image_from_fn box image.format (abyss_at image policy)
image_from_fn-none image policy box none =
    generated_equal box image.format (at image) (abyss_at image policy)
    (λ u v c there known. sym (none-everywhere image u v c) ∙ ap (λ (p : Abyss). abyss_at image p u v c) (sym none))

pub image_from_fn-inside : (image : Image) (policy : Abyss) (box : Rectangle) → Includes image.box box → image_from_fn box image.format (at image) ≡ image_from_fn box image.format (abyss_at image policy)
image_from_fn-inside image policy box inside =
    generated_equal box image.format (at image) (abyss_at image policy)
    (λ u v c there known. sym (abyss_at-inside image policy u v c (inside u v there)))
