-- A row of the tile that is averaged from four: a half from each of two.
use Rattle.std.proofs.Common.{◌≡◌, ℕ, ◌+◌, ◌-◌, ◌*◌, ◌%◌, ◌<◌, ◌≤◌, List, ◌++◌, Some, length, take, drop, get_or, inl, inr, ap, ◌∙◌, refl, arith}
use Rattle.std.proofs.lemmas.Bool.{cases_lt, cond_above, cond_below}
use Rattle.std.proofs.lemmas.List.{get_or-drop, get_or-take, get_or_append_left}
use Rattle.pixel_formats.specs.Average.{mean_pixel}
use Rattle.pixel_formats.specs.Format.{channels, pixel_bytes}
use Rattle.pixel_formats.specs.Row.{HasPixels, pixel_at}
use Rattle.pixel_formats.specs.declared.format.Format.{Format}
use Rattle.sample_rows.proofs.RowLaws.{pixel_count_of}
use Rattle.level_tables.specs.Means.{found_pixel, left_of, mean_in_row, mean_of_found, right_of}
use Rattle.level_tables.specs.declared.four_tiles.FourTiles.{FourTiles}
use Rattle.patch_abyss.proofs.CopiedRows.{before_position, written-before, written-there}
use Rattle.patch_abyss.proofs.RowPixels.{pixel_moved}
use borrow.Rule.Slice.PartMut.{put_mid}

-- a pixel of a row that is cut from the bytes of a tile
row-pixel : (format : Format) (bytes : List ℕ) (start len row k c : ℕ) → start ≡ row * (64 * pixel_bytes format) → len ≡ 64 * pixel_bytes format → k < 64 → c < channels format
    → pixel_at format (take len (drop start bytes)) k c ≡ found_pixel format (Some bytes) row k c
row-pixel format bytes start len row k c from long few known =
    let n = pixel_bytes format in
    pixel_moved format (take len (drop start bytes)) bytes k (row * 64 + k) c known (λ b within.
    get_or-take len (drop start bytes) (k * n + b) 0 (omega (arith, long, before_position k 64 n b few within))
    ∙ get_or-drop start bytes (k * n + b) 0
    ∙ ap (λ (i : ℕ). get_or bytes i 0) (omega (arith, from)))

-- the mean of four pixels of a row that is cut from the bytes of a tile and of the row below it
pub half-mean : (format : Format) (bytes : List ℕ) (upper up lower down row k c : ℕ) → upper ≡ row * (64 * pixel_bytes format) → up ≡ 64 * pixel_bytes format
    → lower ≡ (row + 1) * (64 * pixel_bytes format) → down ≡ 64 * pixel_bytes format → k < 32 → c < channels format
    → mean_pixel (pixel_at format (take up (drop upper bytes)) (2 * k)) (pixel_at format (take up (drop upper bytes)) (2 * k + 1))
    (pixel_at format (take down (drop lower bytes)) (2 * k)) (pixel_at format (take down (drop lower bytes)) (2 * k + 1)) c
    ≡ mean_of_found format (Some bytes) row k c
half-mean format bytes upper up lower down row k c above wide below broad few known =
    let one = row-pixel format bytes upper up row (2 * k) c above wide (omega (arith, few)) known in
    let two = row-pixel format bytes upper up row (2 * k + 1) c above wide (omega (arith, few)) known in
    let three = row-pixel format bytes lower down (row + 1) (2 * k) c below broad (omega (arith, few)) known in
    let last = row-pixel format bytes lower down (row + 1) (2 * k + 1) c below broad (omega (arith, few)) known in
    rw (one, two, three, last) refl

-- a row whose halves have the means of two tiles
pub halves-joined : (format : Format) (four : FourTiles) (row : ℕ) (left right rest : List ℕ) (start len : ℕ)
    → start ≡ 32 * pixel_bytes format → len ≡ 32 * pixel_bytes format → length left ≡ 32 * pixel_bytes format → length right ≡ 32 * pixel_bytes format
    → start + len ≤ length (left ++ rest)
    → HasPixels format left (mean_of_found format (left_of four row) (2 * row % 64)) → HasPixels format right (mean_of_found format (right_of four row) (2 * row % 64))
    → (k c : ℕ) → k < 64 → c < channels format → pixel_at format (put_mid start len (left ++ rest) right) k c ≡ mean_in_row format four row k c
halves-joined format four row left right rest start len from many left_long right_long room left_pixels right_pixels k c few known =
    let n = pixel_bytes format in
    let whole : length right ≡ len = omega (arith, right_long, many) in
    let bytes = left ++ rest in
    let lefts = mean_of_found format (left_of four row) (2 * row % 64) in
    let rights = mean_of_found format (right_of four row) (2 * row % 64) in
    elim (cases_lt k 32) [
      | inl before ↦
          pixel_moved format (put_mid start len bytes right) left k k c known (λ b within.
          let there = before_position k 32 n b before within in
          written-before bytes right start len room whole (k * n + b) (omega (arith, from, there)) ∙ get_or_append_left left rest 0 (k * n + b) (omega (arith, left_long, there)))
          ∙ left_pixels k c (rw (pixel_count_of format left 32 left_long) before) known
          ∙ ap (λ (p : ℕ → ℕ). p c) (cond_below k 32 (lefts k) (rights (k - 32)) before)
      | inr after ↦
          let there : k - 32 < 32 = omega (arith, few, after) in
          let is : k ≡ 32 + (k - 32) = omega (arith, after) in
          pixel_moved format (put_mid start len bytes right) right k (k - 32) c known (λ b within.
          written-there bytes right start len room whole (k * n + b) ((k - 32) * n + b)
          (ap (λ (i : ℕ). i * n + b) is ∙ omega (arith, from)) (omega (arith, many, before_position (k - 32) 32 n b there within)))
          ∙ right_pixels (k - 32) c (rw (pixel_count_of format right 32 right_long) there) known
          ∙ ap (λ (p : ℕ → ℕ). p c) (cond_above k 32 (lefts k) (rights (k - 32)) (rights (k - 32)) after refl)
    ]
