-- Pixels of rows of bytes.
use Rattle.std.proofs.Common.{◌≡◌, ℕ, ◌+◌, ◌-◌, ◌*◌, ◌/◌, ◌%◌, ◌<◌, ◌≤◌, List, length, take, drop, get_or, sym, ap, ◌∙◌, arith, length-take, length-drop}
use Rattle.std.proofs.Math.Nat.{div-add-mod, mul-le-mul_right}
use Rattle.std.proofs.lemmas.List.{get_or-take, get_or-drop}
use Rattle.std.proofs.lemmas.Nat.{mul-add-lt, mod-mul-add, mod_below}
use Rattle.plane_rect.specs.Rectangle.{Rectangle, Includes, Within, area, end_row, offset}
use Rattle.pixel_formats.specs.Format.{channels, depth, pixel_bytes}
use Rattle.pixel_formats.specs.Row.{pixel_at}
use Rattle.pixel_formats.specs.declared.format.Format.{Format}
use Rattle.pixel_formats.proofs.FormatLaws.{sample_equal}
use Rattle.model_images.specs.Image.{at}
use Rattle.model_images.specs.FromRaw.{image_from_raw}
use Rattle.patch_abyss.specs.Copied.{AreRows, row_byte}
use Rattle.patch_abyss.specs.declared.rows.Rows.{Rows}
use Rattle.patch_abyss.proofs.CopiedRows.{before_position, byte_of_part}
use Rattle.model_images.proofs.FromRawLaws.{at-image_from_raw}
use Rattle.patch_abyss.proofs.Parts.{byte_index, byte_within}

-- pixel number k of one row has the bytes of pixel number j of another, n each
abbrev pub SamePixel : ℕ → List ℕ → ℕ → List ℕ → ℕ → Type 0
SamePixel n row k other j = (b : ℕ) → b < n → get_or row (k * n + b) 0 ≡ get_or other (j * n + b) 0

-- pixels of equal bytes have equal samples
pub pixel_moved : (format : Format) (xs ys : List ℕ) (a b c : ℕ) → c < channels format → SamePixel (pixel_bytes format) xs a ys b → pixel_at format xs a c ≡ pixel_at format ys b c
pixel_moved format xs ys a b c known same =
    let m = channels format in
    let d = depth format in
    sample_equal d xs ys (a * m + c) (b * m + c)
    (λ k within. rw (byte_index a m d c k, byte_index b m d c k) (same (d * c + k) (byte_within m d c k known within)))

-- where a byte of a pixel is that is written periodically
pub cycled_position : (n w s k b : ℕ) → b < n → 0 < w → (s * n + (k * n + b)) % (w * n) ≡ ((s + k) % w) * n + b
cycled_position n w s k b within some =
    let q = (s + k) / w in
    let r = (s + k) % w in
    let all : s * n + (k * n + b) ≡ q * (w * n) + (r * n + b) = omega (arith, ap (λ (i : ℕ). i * n) (div-add-mod (s + k) w)) in
    ap (λ (i : ℕ). i % (w * n)) all
    ∙ mod-mul-add q (w * n) (r * n + b) (omega (arith, mul-add-lt r n b w (mod_below (s + k) w some) within))

-- where rows that follow one another are among the bytes of a box whose pixels have n each
module _ (box : Rectangle) (n s e p f l z : ℕ) (first_row : box.first_row ≤ s) (some : s < e) (end : e ≤ end_row box)
    (pixel : p ≡ n) (at_f : f ≡ offset box box.first_column s) (at_l : l ≡ offset box box.first_column (e - 1)) (at_z : z ≡ l + box.width) where
  rows_begin : f * p ≡ (s - box.first_row) * (box.width * n)
  rows_begin =
      let first : f ≡ (s - box.first_row) * box.width = omega (arith, at_f) in
      ap (λ (i : ℕ). i * p) first ∙ ap (λ (i : ℕ). (s - box.first_row) * box.width * i) pixel ∙ omega arith

  rows_long : z * p ≡ f * p + (e - s) * (box.width * n)
  rows_long =
      let last : z ≡ (e - 1 - box.first_row + 1) * box.width = omega (arith, at_l, at_z) in
      let down : e - 1 - box.first_row + 1 ≡ s - box.first_row + (e - s) = omega arith in
      ap (λ (i : ℕ). i * p) (last ∙ ap (λ (i : ℕ). i * box.width) down)
      ∙ ap (λ (i : ℕ). (s - box.first_row + (e - s)) * box.width * i) pixel
      ∙ omega (arith, rows_begin)

  pub rows_fit : z * p ≤ area box * n
  rows_fit =
      let above : s - box.first_row + (e - s) ≤ box.height = omega arith in
      omega (arith, rows_long, rows_begin, mul-le-mul_right (box.width * n) above)

  position_in_rows : (u v : ℕ) → s ≤ v → offset box u v * n ≡ f * p + ((v - s) * box.width + (u - box.first_column)) * n
  position_in_rows u v from_here =
      let down : v - box.first_row ≡ s - box.first_row + (v - s) = omega arith in
      omega (arith, rows_begin, ap (λ (i : ℕ). i * (box.width * n)) down)

-- Rows of a box from s to before e begin at pixel number f of its bytes, of p each, the last of them at number l, and end at number z.
pub record AreRowsOf (box : Rectangle) (format : Format) (s e p f l z : ℕ) (bytes : List ℕ) : Type 0 where
  pub first_row : box.first_row ≤ s
  pub some : s < e
  pub end : e ≤ end_row box
  pub whole : length bytes ≡ area box * pixel_bytes format
  pub pixel : p ≡ pixel_bytes format
  pub at_f : f ≡ offset box box.first_column s
  pub at_l : l ≡ offset box box.first_column (e - 1)
  pub at_z : z ≡ l + box.width

-- rows of an image that follow one another, cut from its bytes
module _ {box : Rectangle} {format : Format} {s e p f l z : ℕ} {bytes : List ℕ} (are : AreRowsOf box format s e p f l z bytes) where
  abbrev n : ℕ
  n = pixel_bytes format

  abbrev cut : List ℕ
  cut = take (z * p - f * p) (drop (f * p) bytes)

  long : z * p ≡ f * p + (e - s) * (box.width * n)
  long = rows_long box n s e p f l z are.first_row are.some are.end are.pixel are.at_f are.at_l are.at_z

  pub rows_in_order : f * p ≤ z * p
  rows_in_order = omega (arith, long)

  pub rows_within : z * p ≤ length bytes
  rows_within = omega (arith, are.whole, rows_fit box n s e p f l z are.first_row are.some are.end are.pixel are.at_f are.at_l are.at_z)

  pub length-rows : length cut ≡ (e - s) * (box.width * n)
  length-rows = omega (arith, length-take (z * p - f * p) (drop (f * p) bytes), length-drop (f * p) bytes, rows_within, long)

  pub rows_samples : (u v c : ℕ) → Within box.first_column box.width u → s ≤ v → v < e → c < channels format →
      pixel_at format cut ((v - s) * box.width + (u - box.first_column)) c ≡ at (image_from_raw box format bytes) u v c
  rows_samples u v c column from_here above known =
      let i = (v - s) * box.width + (u - box.first_column) in
      let below : i < (e - s) * box.width = omega (arith, mul-add-lt (v - s) box.width (u - box.first_column) (e - s) (omega arith) (omega (arith, column))) in
      pixel_moved format cut bytes i (offset box u v) c known
      (λ b within.
      get_or-take (z * p - f * p) (drop (f * p) bytes) (i * n + b) 0 (omega (arith, long, mul-add-lt i n b ((e - s) * box.width) below within))
      ∙ get_or-drop (f * p) bytes (i * n + b) 0
      ∙ ap (λ (q : ℕ). get_or bytes q 0) (omega (arith, position_in_rows box n s e p f l z are.first_row are.some are.end are.pixel are.at_f are.at_l are.at_z u v from_here)))
      ∙ sym (at-image_from_raw box format bytes u v c (record { column = column; row = (omega arith, omega arith) }) known)

-- the pixels of a part of an image, whose rows are cut from its bytes
module _ (r part : Rectangle) (format : Format) (rows : Rows) (count : ℕ) (source bytes : List ℕ) (inside : Includes r part)
    (begins : rows.start ≡ offset r part.first_column part.first_row * pixel_bytes format) (apart : rows.stride ≡ r.width * pixel_bytes format)
    (of_count : count ≡ part.width * pixel_bytes format) (cut : AreRows rows count part.height source bytes) where
  pub part_pixels : (j k c : ℕ) → j < part.height → k < part.width → c < channels format →
      pixel_at format bytes (j * part.width + k) c ≡ at (image_from_raw r format source) (part.first_column + k) (part.first_row + j) c
  part_pixels j k c below within known =
      let n = pixel_bytes format in
      let corner = inside part.first_column part.first_row (record { column = (omega arith, omega arith); row = (omega arith, omega arith) }) in
      let there = inside (part.first_column + k) (part.first_row + j) (record { column = (omega arith, omega arith); row = (omega arith, omega arith) }) in
      let down : part.first_row + j - part.first_row ≡ j = omega arith in
      let aside : part.first_column + k - part.first_column ≡ k = omega arith in
      pixel_moved format bytes source (j * part.width + k) (offset r (part.first_column + k) (part.first_row + j)) c known
      (λ b small.
      let in_row : k * n + b < part.width * n = before_position k part.width n b within small in
      ap (λ (i : ℕ). get_or bytes i 0) (omega (arith, ap (λ (m : ℕ). j * m) of_count))
      ∙ cut.cut j (k * n + b) below (omega (arith, of_count, in_row))
      ∙ ap (λ (i : ℕ). get_or source i 0)
      (sym
      (byte_of_part r part n rows (part.first_column + k) (part.first_row + j) b corner begins apart (omega arith) (omega arith)
      ∙ ap (λ (i : ℕ). row_byte rows i ((part.first_column + k - part.first_column) * n + b)) down
      ∙ ap (λ (i : ℕ). row_byte rows j (i * n + b)) aside)))
      ∙ sym (at-image_from_raw r format source (part.first_column + k) (part.first_row + j) c there known)
