-- The bytes of a rectangle, by the rows of tiles that it meets.
use Rattle.std.proofs.Common.{◌≡◌, ℕ, zero, suc, ◌+◌, ◌-◌, ◌*◌, ◌<◌, ◌≤◌, inl, inr, List, [], ◌∷◌, ◌++◌, map, refl, sym, ap, ◌∙◌, append_assoc, arith}
use Rattle.std.specs.Prelude.{min, max}
use Rattle.std.specs.List.{flat_map, range_with_len}
use Rattle.std.proofs.lemmas.Grind.{flat_map-append}
use Rattle.std.proofs.lemmas.List.{append-nil}
use Rattle.std.proofs.lemmas.List.FromFn.{map-range_with_len_more}
use Rattle.plane_rect.specs.Rectangle.{IsRectangle, Rectangle, empty, end_column, end_row, meet, plane_side}
use Rattle.plane_rect.specs.Tile.{tile_lines, tile_of, tile_side, strip_rectangles, tile_line}
use Rattle.plane_rect.proofs.Rectangles.{rectangle-some, some_or_empty}
use Rattle.pixel_formats.specs.declared.abyss.Abyss.TheVariants as policies
use Rattle.model_images.specs.Abyss.{raw_with}
use Rattle.model_images.specs.Image.{Image}
use Rattle.model_images.specs.Paint.{cut}
use Rattle.model_images.specs.Raw.{raw}
use Rattle.model_images.specs.Rows.{first_rows, row_below}
use Rattle.model_images.proofs.Agreeing.{at-cut}
use Rattle.model_images.proofs.ByteLaws.{raw_with-none}
use Rattle.model_images.proofs.RawLaws.{raw-over}
use Rattle.model_images.proofs.RowLaws.{raw_with-no_row, raw_with-row}

-- a rectangle that is cut out of an image has the image's bytes
pub raw-cut : (image : Image) (r : Rectangle) → raw (cut image r) r ≡ raw image r
raw-cut image r = raw-over (cut image r) image r refl (λ u v c inside. at-cut image r u v c inside)

-- ---- rows after rows

raw-no_row : (image : Image) (r : Rectangle) → raw image (first_rows r 0) ≡ []
raw-no_row image r = sym (raw_with-none image (first_rows r 0)) ∙ raw_with-no_row image policies.None r

raw-row : (image : Image) (r : Rectangle) (k : ℕ) → raw image (first_rows r (k + 1)) ≡ raw image (first_rows r k) ++ raw image (row_below r k)
raw-row image r k =
    sym (raw_with-none image (first_rows r (k + 1)))
    ∙ raw_with-row image policies.None r k
    ∙ ap (λ (bytes : List ℕ). bytes ++ raw_with image policies.None (row_below r k)) (raw_with-none image (first_rows r k))
    ∙ ap (λ (bytes : List ℕ). raw image (first_rows r k) ++ bytes) (raw_with-none image (row_below r k))

-- so many rows of a rectangle, below its first ones
abbrev rows_below : Rectangle → ℕ → ℕ → Rectangle
rows_below r above rows = record r { first_row = r.first_row + above; height = rows }

row_after : (r : Rectangle) (k j : ℕ) → row_below (rows_below r k j) j ≡ row_below r (k + j)
row_after r k j =
    let same : r.first_row + k + j ≡ r.first_row + (k + j) = omega arith in
    ap (λ (n : ℕ). let row : Rectangle = record r { first_row = n; height = 1 } in row) same

raw-rows : (image : Image) (r : Rectangle) (k j : ℕ) → raw image (first_rows r (k + j)) ≡ raw image (first_rows r k) ++ raw image (rows_below r k j)
raw-rows image r k zero =
    let none : raw image (rows_below r k 0) ≡ [] = raw-no_row image (rows_below r k 0) in
    let same : k + 0 ≡ k = omega arith in
    ap (λ (n : ℕ). raw image (first_rows r n)) same
    ∙ sym (append-nil (raw image (first_rows r k)))
    ∙ ap (λ (bytes : List ℕ). raw image (first_rows r k) ++ bytes) (sym none)
raw-rows image r k (suc j) =
    let above = raw image (first_rows r k) in
    let here = raw image (rows_below r k j) in
    let more : k + suc j ≡ k + j + 1 = omega arith in
    let one : suc j ≡ j + 1 = omega arith in
    ap (λ (n : ℕ). raw image (first_rows r n)) more
    ∙ raw-row image r (k + j)
    ∙ ap (λ (bytes : List ℕ). bytes ++ raw image (row_below r (k + j))) (raw-rows image r k j)
    ∙ append_assoc above here (raw image (row_below r (k + j)))
    ∙ ap (λ (row : Rectangle). above ++ (here ++ raw image row)) (sym (row_after r k j))
    ∙ ap (λ (bytes : List ℕ). above ++ bytes) (sym (raw-row image (rows_below r k j) j))
    ∙ ap (λ (n : ℕ). above ++ raw image (rows_below r k n)) (sym one)

-- ---- bands of rows of tiles

-- how many rows of a rectangle the first rows of tiles have that it meets
abbrev rows_in : Rectangle → ℕ → ℕ
rows_in r lines = min (end_row r) (tile_side * (tile_of r.first_row + lines)) - r.first_row

module _ (image : Image) (r : Rectangle) (is : IsRectangle r) (wide : 0 < r.width) (high : 0 < r.height) where
  first : ℕ
  first = tile_of r.first_row

  -- a band, as a record
  band-is : (k : ℕ) → k < tile_lines r → meet r (tile_line (tile_of r.first_row + k)) ≡ rows_below r (rows_in r k) (rows_in r (k + 1) - rows_in r k)
  band-is k below =
      let row = tile_of r.first_row + k in
      let left : max r.first_column 0 ≡ r.first_column = omega arith in
      let right : min (end_column r) (0 + plane_side) ≡ end_column r = omega (arith, is.columns) in
      let width : end_column r - r.first_column ≡ r.width = omega arith in
      let top : max r.first_row (tile_side * row) ≡ r.first_row + rows_in r k = omega (arith, below, high) in
      let height : min (end_row r) (tile_side * row + tile_side) - max r.first_row (tile_side * row) ≡ rows_in r (k + 1) - rows_in r k = omega (arith, below, high) in
      let some : 0 < rows_in r (k + 1) - rows_in r k = omega (arith, below, high) in
      rw (left, right, width, height, top) (rectangle-some r.first_column (r.first_row + rows_in r k) r.width (rows_in r (k + 1) - rows_in r k) wide some)

  first-bands : (k : ℕ) → k ≤ tile_lines r → flat_map (raw image) (map (λ row. meet r (tile_line row)) (range_with_len (tile_of r.first_row) k)) ≡ raw image (first_rows r (rows_in r k))
  first-bands zero few =
      let none : rows_in r 0 ≡ 0 = omega arith in
      sym (ap (λ (n : ℕ). raw image (first_rows r n)) none ∙ raw-no_row image r)
  first-bands (suc k) few =
      let f : ℕ → Rectangle = λ row. meet r (tile_line row) in
      let below : k < tile_lines r = omega (arith, few) in
      let before = map f (range_with_len (tile_of r.first_row) k) in
      let one : suc k ≡ k + 1 = omega arith in
      let sum : rows_in r k + (rows_in r (k + 1) - rows_in r k) ≡ rows_in r (k + 1) = omega arith in
      ap (λ (n : ℕ). flat_map (raw image) (map f (range_with_len (tile_of r.first_row) n))) one
      ∙ ap (flat_map (raw image)) (map-range_with_len_more f (tile_of r.first_row) k (tile_of r.first_row + k) refl)
      ∙ flat_map-append (raw image) before (f (tile_of r.first_row + k) ∷ [])
      ∙ ap (λ (bytes : List ℕ). bytes ++ flat_map (raw image) (f (tile_of r.first_row + k) ∷ [])) (first-bands k (omega (arith, few)))
      ∙ ap (λ (bytes : List ℕ). raw image (first_rows r (rows_in r k)) ++ bytes) (append-nil (raw image (f (tile_of r.first_row + k))))
      ∙ ap (λ (b : Rectangle). raw image (first_rows r (rows_in r k)) ++ raw image b) (band-is k below)
      ∙ sym (raw-rows image r (rows_in r k) (rows_in r (k + 1) - rows_in r k))
      ∙ ap (λ (n : ℕ). raw image (first_rows r n)) (sum ∙ ap (rows_in r) (sym one))

  some-bands : flat_map (raw image) (strip_rectangles r) ≡ raw image r
  some-bands =
      let all : rows_in r (tile_lines r) ≡ r.height = omega (arith, high) in
      first-bands (tile_lines r) (omega arith) ∙ ap (λ (n : ℕ). raw image (first_rows r n)) all

-- the bytes of a rectangle are those of its bands, one after another from the top
pub raw-bands : (image : Image) (r : Rectangle) → IsRectangle r → raw image r ≡ flat_map (raw image) (strip_rectangles r)
raw-bands image r is = elim (some_or_empty r is) [
  | inl some ↦ sym (some-bands image r is some.0 some.1)
  | inr none ↦ rw none (raw-no_row image empty)
]
