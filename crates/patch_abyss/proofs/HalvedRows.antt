-- Rows that are averaged to the rows of a halved image.
use Rattle.std.proofs.Common.{◌≡◌, ℕ, ◌+◌, ◌-◌, ◌*◌, ◌/◌, ◌%◌, ◌<◌, ◌≤◌, List, inl, inr, refl, sym, ap, ◌∙◌, subst, arith}
use Rattle.plane_rect.specs.Rectangle.{Rectangle, IsRectangle, Within, halved, half, end_column, end_row, origin, plane_side}
use Rattle.std.proofs.lemmas.Nat.{mod-mul-add, div-mul-add}
use Rattle.std.proofs.Math.Nat.{mod-add-div'}
use Rattle.plane_rect.proofs.Rectangles.{rectangle-some, some_or_empty}
use Rattle.pixel_formats.specs.Average.{mean_pixel}
use Rattle.pixel_formats.specs.Format.{channels}
use Rattle.pixel_formats.specs.Row.{HasPixels, pixel_at, pixel_count}
use Rattle.model_images.specs.Image.{Image, at}
use Rattle.pixel_formats.specs.declared.abyss.Abyss.TheVariants.{None}
use Rattle.model_images.specs.Abyss.{abyss_at}
use Rattle.model_images.specs.Level.{doubled, mean_at}
use Rattle.model_images.proofs.PolicyLaws.{none-everywhere}

-- what is halved does not begin before the position of half the plane's corner
pub halved-trailing : (r : Rectangle) → IsRectangle r → origin ≤ 2 * (halved r).first_column
halved-trailing r is =
    elim (some_or_empty r is) [
      | inl some ↦
          let here = rectangle-some (half r.first_column) (half r.first_row) (half (end_column r + 1) - half r.first_column) (half (end_row r + 1) - half r.first_row) (omega (arith, some.0)) (omega (arith, some.1)) in
          rw here (omega arith)
      | inr none ↦ subst (λ (q : Rectangle). origin ≤ 2 * (halved q).first_column) (sym none) (omega arith)
    ]

-- its rows are halves of rows of the plane
pub halved-rows : (r : Rectangle) → IsRectangle r → (origin ≤ 2 * (halved r).first_row) × (2 * ((halved r).first_row + (halved r).height) ≤ plane_side + origin)
halved-rows r is =
    elim (some_or_empty r is) [
      | inl some ↦
          let here = rectangle-some (half r.first_column) (half r.first_row) (half (end_column r + 1) - half r.first_column) (half (end_row r + 1) - half r.first_row) (omega (arith, some.0)) (omega (arith, some.1)) in
          rw here (omega arith, omega (arith, is.rows))
      | inr none ↦ subst (λ (q : Rectangle). (origin ≤ 2 * (halved q).first_row) × (2 * ((halved q).first_row + (halved q).height) ≤ plane_side + origin)) (sym none) (omega arith, omega arith)
    ]

pub whole_pixels : (w n length : ℕ) → 0 < n → length ≡ w * n → length % n ≡ 0
whole_pixels w n length some long = ap (λ (l : ℕ). l % n) (long ∙ omega arith) ∙ mod-mul-add w n 0 some

pub pair_count : (n length columns : ℕ) → 0 < n → length % n ≡ 0 → 2 * length ≡ columns * n → columns ≡ 2 * (length / n)
pair_count n length columns some whole twice =
    let all : columns * n + 0 ≡ 2 * (length / n) * n + 0 = omega (arith, mod-add-div' length n) in
    sym (div-mul-add columns n 0 some) ∙ ap (λ (l : ℕ). l / n) all ∙ div-mul-add (2 * (length / n)) n 0 some

-- the pixels of a row are an image's, from a column on
abbrev pub Shows : Image → List ℕ → ℕ → ℕ → ℕ → Type 0
Shows image row columns first_column v =
    (i c : ℕ) → i < columns → c < channels image.format → pixel_at image.format row i c ≡ at image (first_column + i) v c

pub shows_own : (image : Image) (row : List ℕ) (columns first_column v end : ℕ) → image.box.first_column ≡ first_column → image.box.width ≡ columns → v < end →
    ((u w c : ℕ) → Within image.box.first_column image.box.width u → v ≤ w → w < end → c < channels image.format →
    pixel_at image.format row ((w - v) * image.box.width + (u - image.box.first_column)) c ≡ at image u w c) →
    Shows image row columns first_column v
shows_own image row columns first_column v end start many some samples i c below known =
    let level : v - v ≡ 0 = omega arith in
    let index : i ≡ (v - v) * image.box.width + (first_column + i - image.box.first_column) = omega (arith, start, ap (λ (j : ℕ). j * image.box.width) level) in
    ap (λ (k : ℕ). pixel_at image.format row k c) index
    ∙ samples (first_column + i) v c (omega (arith, start), omega (arith, start, many)) (omega arith) some known

pub shows_read : (image : Image) (row : List ℕ) (columns first_column v : ℕ) → pixel_count image.format row ≡ columns →
    HasPixels image.format row (λ k. abyss_at image None (first_column + k) v) → Shows image row columns first_column v
shows_read image row columns first_column v many pixels i c below known =
    pixels i c (rw many below) known ∙ none-everywhere image (first_column + i) v c

-- the mean of two pixels of a row and the two below them
abbrev pub mean_of_pair : Image → ℕ → ℕ → ℕ → ℕ → ℕ
mean_of_pair image first_column v k c =
    mean_pixel (at image (first_column + 2 * k) v) (at image (first_column + (2 * k + 1)) v) (at image (first_column + 2 * k) (v + 1)) (at image (first_column + (2 * k + 1)) (v + 1)) c

pub mean_row : (image : Image) (up down : List ℕ) (columns first_column v : ℕ) → Shows image up columns first_column v → Shows image down columns first_column (v + 1) →
    (k c : ℕ) → 2 * k + 1 < columns → c < channels image.format →
    mean_pixel (pixel_at image.format up (2 * k)) (pixel_at image.format up (2 * k + 1)) (pixel_at image.format down (2 * k)) (pixel_at image.format down (2 * k + 1)) c
    ≡ mean_of_pair image first_column v k c
mean_row image up down columns first_column v first second k c inside known =
    let one = first (2 * k) c (omega arith) known in
    let two = first (2 * k + 1) c inside known in
    let three = second (2 * k) c (omega arith) known in
    let four = second (2 * k + 1) c inside known in
    rw (one, two, three, four) refl

pub mean_doubled : (image : Image) (first_column row columns k c : ℕ) → origin ≤ 2 * first_column → columns ≡ doubled first_column → mean_of_pair image columns (doubled row) k c ≡ mean_at image (first_column + k) row c
mean_doubled image first_column row columns k c trailing at_columns =
    let near : columns + 2 * k ≡ doubled (first_column + k) = omega (arith, at_columns) in
    let far : columns + (2 * k + 1) ≡ doubled (first_column + k) + 1 = omega (arith, at_columns) in
    ap (λ (u : ℕ). mean_pixel (at image u (doubled row)) (at image (columns + (2 * k + 1)) (doubled row)) (at image u (doubled row + 1)) (at image (columns + (2 * k + 1)) (doubled row + 1)) c) near
    ∙ ap (λ (u : ℕ). mean_pixel (at image (doubled (first_column + k)) (doubled row)) (at image u (doubled row)) (at image (doubled (first_column + k)) (doubled row + 1)) (at image u (doubled row + 1)) c) far
