-- The bytes of bands, as parts of a raster.
use Rattle.std.proofs.Common.{◌≡◌, ℕ, ◌+◌, ◌-◌, ◌*◌, ◌/◌, ◌<◌, ◌⊎◌, inl, inr, ◌==◌, List, Option, Result, subst, ap, ◌∙◌, arith}
use Rattle.std.proofs.lemmas.Bool.Decides.{nat_tests}
use Rattle.std.proofs.lemmas.Nat.{mul-le}
use Rattle.model_images.specs.FromRaw.{byte_count}
use Rattle.pixel_formats.specs.Format.{pixel_bytes}
use Rattle.pixel_formats.specs.declared.format.Format.{Format}
use Rattle.pixel_formats.proofs.FormatLaws.{few_bytes}
use Rattle.plane_rect.proofs.Rectangles.{some_or_empty}
use Rattle.plane_rect.specs.Rectangle.{IsRectangle, Rectangle, empty, end_row}
use Rattle.plane_rect.specs.Tile.{tile_side}
use Rattle.run_lines.specs.Bands.{BeginsBand, IsReached, bytes_of_rows}
use Rattle.run_lines.specs.Rasters.{IsPart, Reads}
use Rattle.run_lines.specs.declared.stop.Stop.{Stop}

rows_add : (w a b p : ℕ) → w * a * p + w * b * p ≡ w * (a + b) * p
rows_add w a b p = omega arith

-- no rows have no bytes
pub nothing : (r : Rectangle) (format : Format) → bytes_of_rows r format 0 ≡ 0
nothing r format = omega arith

module _ (r : Rectangle) (format : Format) (is : IsRectangle r) (end row : ℕ) (reached : IsReached r end) (begins : BeginsBand r end row) where
  abbrev pub start : ℕ
  start = bytes_of_rows r format (row - r.first_row)

  abbrev pub count : ℕ
  count = bytes_of_rows r format (end - row)

  pub before-end : start + count ≡ bytes_of_rows r format (end - r.first_row)
  before-end =
      let sum : (row - r.first_row) + (end - row) ≡ end - r.first_row = omega (arith, begins.first, begins.last) in
      rows_add r.width (row - r.first_row) (end - row) (pixel_bytes format) ∙ ap (bytes_of_rows r format) sum

  pub after-row : start + bytes_of_rows r format (end_row r - row) ≡ byte_count r format
  after-row =
      let sum : (row - r.first_row) + (end_row r - row) ≡ r.height = omega (arith, begins.first, begins.last, reached.last) in
      rows_add r.width (row - r.first_row) (end_row r - row) (pixel_bytes format) ∙ ap (bytes_of_rows r format) sum

  pub after-end : bytes_of_rows r format (end - r.first_row) + bytes_of_rows r format (end_row r - end) ≡ byte_count r format
  after-end =
      let sum : (end - r.first_row) + (end_row r - end) ≡ r.height = omega (arith, reached.first, reached.last) in
      rows_add r.width (end - r.first_row) (end_row r - end) (pixel_bytes format) ∙ ap (bytes_of_rows r format) sum

  -- the bytes of a band are part of a raster's
  pub band-part : IsPart start count (end == end_row r) (byte_count r format)
  band-part = record {
    within = omega (arith, before-end, after-end);
    ends = λ last.
        let at : end ≡ end_row r = grind (arith, nat_tests, last) in
        let none : bytes_of_rows r format (end_row r - end) ≡ 0 = ap (bytes_of_rows r format) (let flat : end_row r - end ≡ 0 = omega (arith, at) in flat) ∙ nothing r format in
        omega (arith, before-end, after-end, none);
    some = λ none. start-none (some_or_empty r is) none;
  }
    where
      start-none : ((0 < r.width) × (0 < r.height)) ⊎ (r ≡ empty) → bytes_of_rows r format (end - row) ≡ 0 → bytes_of_rows r format (row - r.first_row) ≡ 0
      start-none (inl (wide, high)) none =
          let below : row < end = begins.some (reached.some (omega (arith, high))) in
          let few = mul-le 1 1 (r.width * (end - row)) (pixel_bytes format) (mul-le 1 1 r.width (end - row) wide (omega (arith, below))) (few_bytes format).0 in
          absurd (omega (arith, few, none))
      start-none (inr none) flat =
          let w : r.width ≡ 0 = ap (λ (r : Rectangle). r.width) none in
          ap (λ (w : ℕ). w * (row - r.first_row) * pixel_bytes format) w ∙ omega arith

-- ---- reads of bands

module _ (r : Rectangle) (format : Format) (is : IsRectangle r) (end row : ℕ) (reached : IsReached r end) (begins : BeginsBand r end row) where
  -- a read of the part that a band is
  pub band_read : (start_is count_is after : ℕ) → start_is ≡ bytes_of_rows r format (row - r.first_row) → count_is ≡ bytes_of_rows r format (end - row) → after ≡ end_row r →
      (found : Option (List ℕ)) (result : Result (Unit {0}) Stop) (read : List ℕ) →
      ((wanted : ℕ) → IsPart start_is count_is (end == after) wanted → Reads found start_is count_is (end == after) wanted result read) →
      Reads found (bytes_of_rows r format (row - r.first_row)) (bytes_of_rows r format (end - row)) (end == end_row r) (byte_count r format) result read
  band_read start_is count_is after first second third found result read gives =
      let one : (wanted : ℕ) → IsPart (bytes_of_rows r format (row - r.first_row)) count_is (end == after) wanted → Reads found (bytes_of_rows r format (row - r.first_row)) count_is (end == after) wanted result read =
      subst (λ (s : ℕ). (wanted : ℕ) → IsPart s count_is (end == after) wanted → Reads found s count_is (end == after) wanted result read) first gives in
      let two : (wanted : ℕ) → IsPart (bytes_of_rows r format (row - r.first_row)) (bytes_of_rows r format (end - row)) (end == after) wanted → Reads found (bytes_of_rows r format (row - r.first_row)) (bytes_of_rows r format (end - row)) (end == after) wanted result read =
      subst (λ (n : ℕ). (wanted : ℕ) → IsPart (bytes_of_rows r format (row - r.first_row)) n (end == after) wanted → Reads found (bytes_of_rows r format (row - r.first_row)) n (end == after) wanted result read) second one in
      subst (λ (e : ℕ). (wanted : ℕ) → IsPart (bytes_of_rows r format (row - r.first_row)) (bytes_of_rows r format (end - row)) (end == e) wanted → Reads found (bytes_of_rows r format (row - r.first_row)) (bytes_of_rows r format (end - row)) (end == e) wanted result read) third two
      (byte_count r format) (band-part r format is end row reached begins)

-- ---- the rows above a band

-- Others are left.
pub next-reached : (r : Rectangle) (end row : ℕ) → IsReached r end → BeginsBand r end row → r.first_row < row → IsReached r row
next-reached r end row reached begins left = record { first = begins.first; some = λ some. left; last = omega (arith, begins.last, reached.last); edge = edge begins.edge }
  where
    edge : (row ≡ r.first_row) ⊎ (row ≡ tile_side * (row / tile_side)) → (row ≡ end_row r) ⊎ (row ≡ tile_side * (row / tile_side))
    edge (inl first) = absurd (omega (arith, first, left))
    edge (inr on) = inr on
