-- How many rows of a part lines of tiles have.
use Rattle.std.proofs.Common.{◌≡◌, ℕ, ◌+◌, ◌-◌, ◌*◌, ◌<◌, ◌≤◌, max, min, ap, ◌∙◌, arith}
use Rattle.plane_rect.specs.Rectangle.{Rectangle, area, end_row, offset}
use Rattle.plane_rect.specs.Tile.{tile_end, tile_of}

-- up to which row the lines of tiles before a line have the rows of a part
abbrev pub reached_row : Rectangle → ℕ → ℕ
reached_row part line = min (end_row part) (max part.first_row (64 * line))

pub reached_first : (part : Rectangle) (line : ℕ) → 0 < part.height → line ≡ tile_of part.first_row → reached_row part line ≡ part.first_row
reached_first part line some first = omega (arith, some, first)

pub reached_line : (part : Rectangle) (line : ℕ) → 0 < part.height → line < tile_end (end_row part)
    → reached_row part line ≡ max (64 * line) part.first_row
reached_line part line some end = omega (arith, some, end)

pub reached_next : (part : Rectangle) (line : ℕ) → tile_of part.first_row ≤ line → reached_row part (line + 1) ≡ min (64 * line + 64) (end_row part)
reached_next part line first = omega (arith, first)

pub reached_all : (part : Rectangle) (line : ℕ) → line ≡ tile_end (end_row part) → reached_row part line ≡ end_row part
reached_all part line end = omega (arith, end)

-- how many bytes the rows up to a line have
pub bytes_more : (part : Rectangle) (line size old new : ℕ) → 0 < part.height → tile_of part.first_row ≤ line → line < tile_end (end_row part)
    → old ≡ (reached_row part line - part.first_row) * size
    → new ≡ old + (min (64 * line + 64) (end_row part) - max (64 * line) part.first_row) * size
    → new ≡ (reached_row part (line + 1) - part.first_row) * size
bytes_more part line size old new some first end before is =
    let rows : reached_row part (line + 1) - part.first_row
    ≡ reached_row part line - part.first_row + (min (64 * line + 64) (end_row part) - max (64 * line) part.first_row) = omega (arith, some, first, end) in
    omega (arith, before, is, ap (λ (n : ℕ). n * size) rows)

pub no_rows : (part : Rectangle) (row size : ℕ) → row ≡ part.first_row → (row - part.first_row) * size ≡ 0
no_rows part row size first =
    let none : row - part.first_row ≡ 0 = omega (arith, first) in
    omega (arith, ap (λ (n : ℕ). n * size) none)

pub no_pixels : (part : Rectangle) (row : ℕ) → row ≡ part.first_row → offset part part.first_column row ≡ 0
no_pixels part row first = omega (arith, no_rows part row part.width first)

pub all_rows : (part : Rectangle) (row size : ℕ) → row ≡ end_row part → (row - part.first_row) * (part.width * size) ≡ area part * size
all_rows part row size end =
    let rows : row - part.first_row ≡ part.height = omega (arith, end) in
    ap (λ (n : ℕ). n * (part.width * size)) rows ∙ omega arith

pub all_pixels : (part : Rectangle) (row : ℕ) → row ≡ end_row part → offset part part.first_column row ≡ area part
all_pixels part row end =
    let rows : row - part.first_row ≡ part.height = omega (arith, end) in
    omega (arith, ap (λ (n : ℕ). n * part.width) rows)
