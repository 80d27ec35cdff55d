-- The first pixels of parts of images, as raw bytes.
use Rattle.std.proofs.Common.{◌≡◌, ℕ, ◌+◌, ◌-◌, ◌*◌, ◌/◌, ◌%◌, ◌<◌, ◌≤◌, List, [], ◌++◌, false, length, take, drop, get_or, max, min, sym, ap, ◌∙◌, inl, inr, subst, arith, length-take, length-drop}
use Rattle.std.proofs.Math.ListN.{length-append}
use Rattle.std.proofs.lemmas.Bool.{cases_lt}
use Rattle.std.proofs.lemmas.Bool.Decides.{nat_tests}
use Rattle.std.proofs.lemmas.Nat.{mul-add-lt}
use Rattle.std.proofs.lemmas.List.{get_or-append_right, get_or-drop, get_or-take, get_or_append_left}
use Rattle.plane_rect.specs.Rectangle.{Inside, Rectangle, Within, area, end_column, is_empty, offset}
use Rattle.plane_rect.specs.Tile.{tile_at, tile_end, tile_of, tile_square}
use Rattle.plane_rect.proofs.RectangleLaws.{offset-below, offset-column, offset-row}
use Rattle.pixel_formats.specs.Format.{channels, pixel_bytes}
use Rattle.pixel_formats.specs.Row.{pixel_at}
use Rattle.model_images.specs.FromRaw.{image_from_raw, pixels_from_raw}
use Rattle.model_images.specs.Image.{Image, at}
use Rattle.model_images.specs.Paint.{cut}
use Rattle.model_images.proofs.Laws.{generated_equal}
use Rattle.patch_abyss.proofs.RowPixels.{pixel_moved}
use Rattle.patch_abyss.specs.Lines.{HasFirstPixels}

-- up to which column the tiles before a column of tiles have the columns of a part
abbrev pub reached : Rectangle → ℕ → ℕ
reached part t = min (end_column part) (max part.first_column (64 * t))

-- a rectangle with a position has a column
pub has_columns : (r : Rectangle) → false ≡ is_empty r → 0 < r.width
has_columns r some = grind (arith, nat_tests)

-- it has a row too
pub has_rows : (r : Rectangle) → false ≡ is_empty r → 0 < r.height
has_rows r some = grind (arith, nat_tests)

-- the bytes of the pixels of a tile that are in one row of a part
pub piece_long : (part : Rectangle) (row t from upto b e size : ℕ) (tile piece : List ℕ)
    → tile_of part.first_column ≤ t → t < tile_end (end_column part) → 0 < part.width
    → from ≡ row % 64 * 64 + (max (64 * t) part.first_column - 64 * t) → upto ≡ row % 64 * 64 + (min (64 * t + 64) (end_column part) - 64 * t)
    → b ≡ from * size → e ≡ upto * size → e ≤ length tile → piece ≡ take (e - b) (drop b tile)
    → length piece ≡ (reached part (t + 1) - reached part t) * size
piece_long part row t from upto b e size tile piece first last some starts stops begins ends room is =
    let more : upto ≡ from + (reached part (t + 1) - reached part t) = omega (arith, first, last, some, starts, stops) in
    let bytes : e ≡ b + (reached part (t + 1) - reached part t) * size = omega (arith, begins, ends, ap (λ (n : ℕ). n * size) more) in
    ap length is ∙ omega (arith, length-take (e - b) (drop b tile), length-drop b tile, bytes, room)

module _ (image : Image) (part : Rectangle) where
  pub HasFirstPixels-none : (n : ℕ) (bytes : List ℕ) → n ≡ 0 → bytes ≡ [] → HasFirstPixels image part n bytes
  HasFirstPixels-none n bytes is none = record {
    count = omega (arith, ap length none, ap (λ (m : ℕ). m * pixel_bytes image.format) is);
    pixels = λ k c lt known. absurd (omega arith);
  }

  -- the bytes of all pixels are those of the part
  pub HasFirstPixels-all : (bytes : List ℕ) → HasFirstPixels image part (area part) bytes → image_from_raw part image.format bytes ≡ cut image part
  HasFirstPixels-all bytes h =
      generated_equal part image.format (pixels_from_raw part image.format bytes) (at image)
      (λ u v c there known.
      h.pixels (offset part u v) c (offset-below u v part there) known
      ∙ (λ e. at image (offset-column u v part there e) (offset-row u v part there e) c))

  -- the pixels of one tile more of a row
  module _ (row t from upto b e : ℕ) (old tile piece : List ℕ) (within : Within part.first_row part.height row)
      (first : tile_of part.first_column ≤ t) (last : t < tile_end (end_column part)) (its : (u c : ℕ) → Inside u row part → tile_of u ≡ t → c < channels image.format
      → pixels_from_raw (tile_square (tile_at u row)) image.format tile u row c ≡ at image u row c)
      (starts : from ≡ row % 64 * 64 + (max (64 * t) part.first_column - 64 * t)) (stops : upto ≡ row % 64 * 64 + (min (64 * t + 64) (end_column part) - 64 * t))
      (some : 0 < part.width) (begins : b ≡ from * pixel_bytes image.format) (ends : e ≡ upto * pixel_bytes image.format) (room : e ≤ length tile)
      (is : piece ≡ take (e - b) (drop b tile)) where
    abbrev start : ℕ
    start = max (64 * t) part.first_column

    abbrev stop : ℕ
    stop = min (64 * t + 64) (end_column part)

    few : start < stop
    few = omega arith

    here : reached part t ≡ start
    here = omega arith

    next : reached part (t + 1) ≡ stop
    next = omega arith

    abbrev size : ℕ
    size = pixel_bytes image.format

    count : upto ≡ from + (stop - start)
    count = omega (arith, starts, stops, few)

    bytes : e ≡ b + (stop - start) * size
    bytes = omega (arith, begins, ends, ap (λ (n : ℕ). n * size) count)

    long : length piece ≡ (stop - start) * size
    long = ap length is ∙ omega (arith, length-take (e - b) (drop b tile), length-drop b tile, bytes, room)

    -- the tile's pixel of a column of the part
    its_pixel : (u : ℕ) → start ≤ u → u < stop → offset (tile_square (tile_at u row)) u row ≡ from + (u - start)
    its_pixel u le lt = omega (arith, starts)

    added : (k b' : ℕ) → offset part start row ≤ k → k < offset part stop row → b' < size → length old ≡ offset part start row * size
        → get_or (old ++ piece) (k * size + b') 0 ≡ get_or tile ((from + (k - offset part start row)) * size + b') 0
    added k b' le lt byte is_long =
        let n = offset part start row in
        let i = k - n in
        let split : k * size ≡ n * size + i * size = omega (arith, ap (λ (m : ℕ). m * size) (let s : k ≡ n + i = omega arith in s)) in
        let near : i * size + b' < (stop - start) * size = omega (arith, mul-add-lt i size b' (stop - start) (omega arith) byte) in
        let from_split : (from + i) * size ≡ from * size + i * size = omega arith in
        get_or-append_right old piece (n * size) (k * size + b') 0 is_long (omega (arith, split))
        ∙ ap (λ (p : ℕ). get_or piece p 0) (omega (arith, split))
        ∙ ap (λ (l : List ℕ). get_or l (i * size + b') 0) is
        ∙ get_or-take (e - b) (drop b tile) (i * size + b') 0 (omega (arith, near, bytes))
        ∙ get_or-drop b tile (i * size + b') 0
        ∙ ap (λ (p : ℕ). get_or tile p 0) (omega (arith, begins, from_split))

    pub HasFirstPixels-more : HasFirstPixels image part (offset part (reached part t) row) old
        → HasFirstPixels image part (offset part (reached part (t + 1)) row) (old ++ piece)
    HasFirstPixels-more h =
        let n = offset part start row in
        let is_long : length old ≡ n * size = h.count ∙ ap (λ (u : ℕ). offset part u row * size) here in
        let more : offset part stop row ≡ n + (stop - start) = omega arith in
        subst (λ (u : ℕ). HasFirstPixels image part (offset part u row) (old ++ piece)) (sym next)
        record {
          count = length-append old piece ∙ omega (arith, is_long, long, ap (λ (m : ℕ). m * size) more);
          pixels = λ k c lt known. elim (cases_lt k n) [
            | inl earlier ↦
                pixel_moved image.format (old ++ piece) old k k c known
                (λ b' byte. get_or_append_left old piece 0 (k * size + b') (omega (arith, is_long, mul-add-lt k size b' n earlier byte)))
                ∙ h.pixels k c (subst (λ (u : ℕ). k < offset part u row) (sym here) earlier) known
            | inr later ↦
                let u = start + (k - n) in
                let inside_row : u < stop = omega (arith, more) in
                let there : Inside u row part = record { column = (omega arith, omega arith); row = within } in
                let index : offset part u row ≡ k = omega arith in
                let pixel : offset (tile_square (tile_at u row)) u row ≡ from + (k - n) = its_pixel u (omega arith) inside_row ∙ omega arith in
                let column : part.first_column + k % part.width ≡ u = ap (λ (m : ℕ). part.first_column + m % part.width) (sym index) ∙ offset-column u row part there in
                let line : part.first_row + k / part.width ≡ row = ap (λ (m : ℕ). part.first_row + m / part.width) (sym index) ∙ offset-row u row part there in
                pixel_moved image.format (old ++ piece) tile k (from + (k - n)) c known (λ b' byte. added k b' later lt byte is_long)
                ∙ sym (ap (λ (m : ℕ). pixel_at image.format tile m c) pixel)
                ∙ its u c there (omega arith) known
                ∙ (λ s. at image (sym column s) (sym line s) c)
          ];
        }
