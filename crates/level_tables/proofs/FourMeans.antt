-- The tile that is averaged from four, pixel by pixel.
use Rattle.std.proofs.Common.{◌≡◌, ℕ, ◌+◌, ◌-◌, ◌*◌, ◌%◌, ◌<◌, ◌≤◌, List, Option, Some, None, length, inl, inr, refl, sym, ap, ◌∙◌, arith}
use Rattle.std.proofs.lemmas.Bool.{cases_lt, cond_above, cond_below}
use Rattle.plane_rect.specs.Rectangle.{Inside, IsRectangle}
use Rattle.plane_rect.specs.Tile.{Tile, tile_side, tile_square}
use Rattle.pixel_formats.specs.Average.{mean_of_four}
use Rattle.pixel_formats.specs.Format.{channels, depth, pixel_bytes}
use Rattle.pixel_formats.specs.Row.{HasPixels, pixel_at, sample_at}
use Rattle.pixel_formats.specs.declared.format.Format.{Format}
use Rattle.model_images.specs.FromRaw.{AreBytes, pixels_from_raw}
use Rattle.model_images.specs.Image.{Image, at}
use Rattle.model_images.specs.Level.{doubled, halved_image}
use Rattle.model_images.specs.Paint.{blank}
use Rattle.model_images.specs.Raw.{tile_bytes}
use Rattle.model_images.proofs.AgreeingLevels.{halved-mean}
use Rattle.model_images.proofs.FromRawLaws.{raw-is}
use Rattle.model_images.proofs.Laws.{at-image_from_fn}
use Rattle.model_images.proofs.Painting.{at-painted, painted-outside}
use Rattle.sample_rows.proofs.RowLaws.{pixel_count_of}
use Rattle.level_tables.specs.Found.{IsInHalf, half_origin, image_of_four, square_below, tile_below, with_found}
use Rattle.level_tables.specs.Means.{HasMeans, found_pixel, left_of, mean_in_row, mean_of_found, right_of}
use Rattle.level_tables.specs.Over.{tile_length}
use Rattle.level_tables.specs.declared.four_tiles.FourTiles.{FourTiles}
use Rattle.level_tables.proofs.Averaging.{square-is}
use Rattle.patch_abyss.proofs.CopiedRows.{before_position, written-before, written-there}
use Rattle.patch_abyss.proofs.RowPixels.{pixel_moved}
use borrow.Rule.Slice.PartMut.{put_mid}

-- ---- one tile that is laid into an image

box-of : (image : Image) (tile : Tile) (found : Option (List ℕ)) → (with_found image tile found).box ≡ image.box
box-of image tile None = refl
box-of image tile (Some bytes) = refl

format-of : (image : Image) (tile : Tile) (found : Option (List ℕ)) → (with_found image tile found).format ≡ image.format
format-of image tile None = refl
format-of image tile (Some bytes) = refl

miss : (image : Image) (tile : Tile) (found : Option (List ℕ)) (u v c : ℕ) → ¬ Inside u v (tile_square tile)
    → at (with_found image tile found) u v c ≡ at image u v c
miss image tile None u v c out = refl
miss image tile (Some bytes) u v c out = sym (painted-outside image (tile_square tile) (pixels_from_raw (tile_square tile) image.format bytes) u v c out)

hit : (image : Image) (format : Format) (tile : Tile) (found : Option (List ℕ)) (u v c row k : ℕ) → image.format ≡ format
    → Inside u v image.box → k < 64 → row < 64 → u ≡ tile_side * tile.column + k → v ≡ tile_side * tile.row + row → c < channels format
    → at image u v c ≡ 0 → at (with_found image tile found) u v c ≡ found_pixel format found row k c
hit image format tile None u v c row k of inside small few column line known zero = zero
hit image format tile (Some bytes) u v c row k of inside small few column line known zero =
    let there : Inside u v (tile_square tile) = record { column = (omega (arith, column), omega (arith, column, small)); row = (omega (arith, line), omega (arith, line, few)) } in
    let index : (v - tile_side * tile.row) * 64 + (u - tile_side * tile.column) ≡ row * 64 + k =
    ap (λ (i : ℕ). i * 64 + (u - tile_side * tile.column)) (omega (arith, line)) ∙ ap (λ (i : ℕ). row * 64 + i) (omega (arith, column)) in
    at-painted image (tile_square tile) (pixels_from_raw (tile_square tile) image.format bytes) u v c there inside (rw of known)
    ∙ ap (λ (f : Format). pixels_from_raw (tile_square tile) f bytes u v c) of
    ∙ ap (λ (i : ℕ). sample_at (depth format) bytes (i * channels format + c)) index

-- ---- the four

module _ (format : Format) (above : Tile) (four : FourTiles) (half : IsInHalf above) where
  abbrev first : Image
  first = blank (square_below above) format

  abbrev second : Image
  second = with_found first (tile_below above 0 0) four.upper_left

  abbrev third : Image
  third = with_found second (tile_below above 1 0) four.upper_right

  abbrev fourth : Image
  fourth = with_found third (tile_below above 0 1) four.lower_left

  abbrev all : Image
  all = image_of_four format above four

  box-second : second.box ≡ square_below above
  box-second = box-of first (tile_below above 0 0) four.upper_left

  box-third : third.box ≡ square_below above
  box-third = box-of second (tile_below above 1 0) four.upper_right ∙ box-second

  box-fourth : fourth.box ≡ square_below above
  box-fourth = box-of third (tile_below above 0 1) four.lower_left ∙ box-third

  box-all : all.box ≡ square_below above
  box-all = box-of fourth (tile_below above 1 1) four.lower_right ∙ box-fourth

  format-second : second.format ≡ format
  format-second = format-of first (tile_below above 0 0) four.upper_left

  format-third : third.format ≡ format
  format-third = format-of second (tile_below above 1 0) four.upper_right ∙ format-second

  format-fourth : fourth.format ≡ format
  format-fourth = format-of third (tile_below above 0 1) four.lower_left ∙ format-third

  pub format-all : all.format ≡ format
  format-all = format-of fourth (tile_below above 1 1) four.lower_right ∙ format-fourth

  -- a position of one of the four: the first column of the square and k more, its first row and `row` more
  abbrev column : ℕ → ℕ
  column k = tile_side * (2 * (above.column - half_origin)) + k

  abbrev line : ℕ → ℕ
  line row = tile_side * (2 * (above.row - half_origin)) + row

  -- a position isn't in another of the four
  not-left : (k v b : ℕ) → 64 ≤ k → ¬ Inside (column k) v (tile_square (tile_below above 0 b))
  not-left k v b right there = omega (arith, there.column, right)

  not-right : (k v b : ℕ) → k < 64 → ¬ Inside (column k) v (tile_square (tile_below above 1 b))
  not-right k v b left there = omega (arith, there.column, left)

  not-upper : (u row a : ℕ) → 64 ≤ row → ¬ Inside u (line row) (tile_square (tile_below above a 0))
  not-upper u row a lower there = omega (arith, there.row, lower)

  not-lower : (u row a : ℕ) → row < 64 → ¬ Inside u (line row) (tile_square (tile_below above a 1))
  not-lower u row a upper there = omega (arith, there.row, upper)

  in-square : (k row : ℕ) → k < 128 → row < 128 → Inside (column k) (line row) (square_below above)
  in-square k row few small = record { column = (omega arith, omega (arith, few)); row = (omega arith, omega (arith, small)) }

  zero-first : (k row c : ℕ) → k < 128 → row < 128 → c < channels format → at first (column k) (line row) c ≡ 0
  zero-first k row c few small known =
      at-image_from_fn (square_below above) format (λ u v c. 0) (column k) (line row) c (in-square k row few small) known

  pub at-upper_left : (k row c : ℕ) → k < 64 → row < 64 → c < channels format → at all (column k) (line row) c ≡ found_pixel format four.upper_left row k c
  at-upper_left k row c left upper known =
      miss fourth (tile_below above 1 1) four.lower_right (column k) (line row) c (not-right k (line row) 1 left)
      ∙ miss third (tile_below above 0 1) four.lower_left (column k) (line row) c (not-lower (column k) row 0 upper)
      ∙ miss second (tile_below above 1 0) four.upper_right (column k) (line row) c (not-right k (line row) 0 left)
      ∙ hit first format (tile_below above 0 0) four.upper_left (column k) (line row) c row k refl
      (in-square k row (omega (arith, left)) (omega (arith, upper))) left upper (omega arith) (omega arith) known
      (zero-first k row c (omega (arith, left)) (omega (arith, upper)) known)

  pub at-upper_right : (k row c : ℕ) → k < 64 → row < 64 → c < channels format → at all (column (64 + k)) (line row) c ≡ found_pixel format four.upper_right row k c
  at-upper_right k row c left upper known =
      let inside = in-square (64 + k) row (omega (arith, left)) (omega (arith, upper)) in
      miss fourth (tile_below above 1 1) four.lower_right (column (64 + k)) (line row) c (not-lower (column (64 + k)) row 1 upper)
      ∙ miss third (tile_below above 0 1) four.lower_left (column (64 + k)) (line row) c (not-lower (column (64 + k)) row 0 upper)
      ∙ hit second format (tile_below above 1 0) four.upper_right (column (64 + k)) (line row) c row k format-second
      (rw box-second inside) left upper (omega arith) (omega arith) known
      (miss first (tile_below above 0 0) four.upper_left (column (64 + k)) (line row) c (not-left (64 + k) (line row) 0 (omega arith))
      ∙ zero-first (64 + k) row c (omega (arith, left)) (omega (arith, upper)) known)

  pub at-lower_left : (k row c : ℕ) → k < 64 → row < 64 → c < channels format → at all (column k) (line (64 + row)) c ≡ found_pixel format four.lower_left row k c
  at-lower_left k row c left upper known =
      let inside = in-square k (64 + row) (omega (arith, left)) (omega (arith, upper)) in
      miss fourth (tile_below above 1 1) four.lower_right (column k) (line (64 + row)) c (not-right k (line (64 + row)) 1 left)
      ∙ hit third format (tile_below above 0 1) four.lower_left (column k) (line (64 + row)) c row k format-third
      (rw box-third inside) left upper (omega arith) (omega arith) known
      (miss second (tile_below above 1 0) four.upper_right (column k) (line (64 + row)) c (not-right k (line (64 + row)) 0 left)
      ∙ miss first (tile_below above 0 0) four.upper_left (column k) (line (64 + row)) c (not-upper (column k) (64 + row) 0 (omega arith))
      ∙ zero-first k (64 + row) c (omega (arith, left)) (omega (arith, upper)) known)

  pub at-lower_right : (k row c : ℕ) → k < 64 → row < 64 → c < channels format → at all (column (64 + k)) (line (64 + row)) c ≡ found_pixel format four.lower_right row k c
  at-lower_right k row c left upper known =
      let inside = in-square (64 + k) (64 + row) (omega (arith, left)) (omega (arith, upper)) in
      hit fourth format (tile_below above 1 1) four.lower_right (column (64 + k)) (line (64 + row)) c row k format-fourth
      (rw box-fourth inside) left upper (omega arith) (omega arith) known
      (miss third (tile_below above 0 1) four.lower_left (column (64 + k)) (line (64 + row)) c (not-left (64 + k) (line (64 + row)) 1 (omega arith))
      ∙ miss second (tile_below above 1 0) four.upper_right (column (64 + k)) (line (64 + row)) c (not-upper (column (64 + k)) (64 + row) 1 (omega arith))
      ∙ miss first (tile_below above 0 0) four.upper_left (column (64 + k)) (line (64 + row)) c (not-left (64 + k) (line (64 + row)) 0 (omega arith))
      ∙ zero-first (64 + k) (64 + row) c (omega (arith, left)) (omega (arith, upper)) known)

  -- ---- a row of two of them side by side

  -- what the left or the right tile shows in a row of the square
  at-left : (row k r c : ℕ) → row < 64 → r < 2 → k < 64 → c < channels format
      → at all (column k) (line (2 * row + r)) c ≡ found_pixel format (left_of four row) (2 * row % 64 + r) k c
  at-left row k r c small one left known = elim (cases_lt row 32) [
    | inl upper ↦
        at-upper_left k (2 * row + r) c left (omega (arith, upper, one)) known
        ∙ ap (λ (n : ℕ). found_pixel format four.upper_left n k c) (omega (arith, upper))
        ∙ ap (λ (t : Option (List ℕ)). found_pixel format t (2 * row % 64 + r) k c) (cond_below row 32 four.upper_left four.lower_left upper)
    | inr lower ↦
        ap (λ (n : ℕ). at all (column k) (line n) c) (omega (arith, lower))
        ∙ at-lower_left k (2 * row + r - 64) c left (omega (arith, small, one, lower)) known
        ∙ ap (λ (n : ℕ). found_pixel format four.lower_left n k c) (omega (arith, lower, small, one))
        ∙ ap (λ (t : Option (List ℕ)). found_pixel format t (2 * row % 64 + r) k c) (cond_above row 32 four.upper_left four.lower_left four.lower_left lower refl)
  ]

  at-right : (row k r c : ℕ) → row < 64 → r < 2 → k < 64 → c < channels format
      → at all (column (64 + k)) (line (2 * row + r)) c ≡ found_pixel format (right_of four row) (2 * row % 64 + r) k c
  at-right row k r c small one left known = elim (cases_lt row 32) [
    | inl upper ↦
        at-upper_right k (2 * row + r) c left (omega (arith, upper, one)) known
        ∙ ap (λ (n : ℕ). found_pixel format four.upper_right n k c) (omega (arith, upper))
        ∙ ap (λ (t : Option (List ℕ)). found_pixel format t (2 * row % 64 + r) k c) (cond_below row 32 four.upper_right four.lower_right upper)
    | inr lower ↦
        ap (λ (n : ℕ). at all (column (64 + k)) (line n) c) (omega (arith, lower))
        ∙ at-lower_right k (2 * row + r - 64) c left (omega (arith, small, one, lower)) known
        ∙ ap (λ (n : ℕ). found_pixel format four.lower_right n k c) (omega (arith, lower, small, one))
        ∙ ap (λ (t : Option (List ℕ)). found_pixel format t (2 * row % 64 + r) k c) (cond_above row 32 four.upper_right four.lower_right four.lower_right lower refl)
  ]

  -- ---- the mean

  abbrev mean-of : ℕ → ℕ → ℕ → ℕ
  mean-of k row c =
      mean_of_four
      (at all (column (2 * k)) (line (2 * row)) c)
      (at all (column (2 * k + 1)) (line (2 * row)) c)
      (at all (column (2 * k)) (line (2 * row + 1)) c)
      (at all (column (2 * k + 1)) (line (2 * row + 1)) c)

  mean-left : (row k c : ℕ) → row < 64 → k < 32 → c < channels format → mean-of k row c ≡ mean_of_found format (left_of four row) (2 * row % 64) k c
  mean-left row k c small few known =
      let t = left_of four row in
      let even : 2 * row ≡ 2 * row + 0 = omega arith in
      let one : at all (column (2 * k)) (line (2 * row)) c ≡ found_pixel format t (2 * row % 64) (2 * k) c =
      ap (λ (n : ℕ). at all (column (2 * k)) (line n) c) even ∙ at-left row (2 * k) 0 c small (omega arith) (omega (arith, few)) known
      ∙ ap (λ (n : ℕ). found_pixel format t n (2 * k) c) (omega arith) in
      let two : at all (column (2 * k + 1)) (line (2 * row)) c ≡ found_pixel format t (2 * row % 64) (2 * k + 1) c =
      ap (λ (n : ℕ). at all (column (2 * k + 1)) (line n) c) even ∙ at-left row (2 * k + 1) 0 c small (omega arith) (omega (arith, few)) known
      ∙ ap (λ (n : ℕ). found_pixel format t n (2 * k + 1) c) (omega arith) in
      let three = at-left row (2 * k) 1 c small (omega arith) (omega (arith, few)) known in
      let last = at-left row (2 * k + 1) 1 c small (omega arith) (omega (arith, few)) known in
      rw (one, two, three, last) refl

  mean-right : (row k c : ℕ) → row < 64 → k < 32 → c < channels format → mean-of (32 + k) row c ≡ mean_of_found format (right_of four row) (2 * row % 64) k c
  mean-right row k c small few known =
      let t = right_of four row in
      let even : 2 * row ≡ 2 * row + 0 = omega arith in
      let near : 2 * (32 + k) ≡ 64 + 2 * k = omega arith in
      let far : 2 * (32 + k) + 1 ≡ 64 + (2 * k + 1) = omega arith in
      let one : at all (column (2 * (32 + k))) (line (2 * row)) c ≡ found_pixel format t (2 * row % 64) (2 * k) c =
      ap (λ (m : ℕ). at all (column m) (line (2 * row)) c) near ∙ ap (λ (n : ℕ). at all (column (64 + 2 * k)) (line n) c) even
      ∙ at-right row (2 * k) 0 c small (omega arith) (omega (arith, few)) known
      ∙ ap (λ (n : ℕ). found_pixel format t n (2 * k) c) (omega arith) in
      let two : at all (column (2 * (32 + k) + 1)) (line (2 * row)) c ≡ found_pixel format t (2 * row % 64) (2 * k + 1) c =
      ap (λ (m : ℕ). at all (column m) (line (2 * row)) c) far ∙ ap (λ (n : ℕ). at all (column (64 + (2 * k + 1))) (line n) c) even
      ∙ at-right row (2 * k + 1) 0 c small (omega arith) (omega (arith, few)) known
      ∙ ap (λ (n : ℕ). found_pixel format t n (2 * k + 1) c) (omega arith) in
      let three : at all (column (2 * (32 + k))) (line (2 * row + 1)) c ≡ found_pixel format t (2 * row % 64 + 1) (2 * k) c =
      ap (λ (m : ℕ). at all (column m) (line (2 * row + 1)) c) near ∙ at-right row (2 * k) 1 c small (omega arith) (omega (arith, few)) known in
      let last : at all (column (2 * (32 + k) + 1)) (line (2 * row + 1)) c ≡ found_pixel format t (2 * row % 64 + 1) (2 * k + 1) c =
      ap (λ (m : ℕ). at all (column m) (line (2 * row + 1)) c) far ∙ at-right row (2 * k + 1) 1 c small (omega arith) (omega (arith, few)) known in
      rw (one, two, three, last) refl

  mean-row : (row k c : ℕ) → row < 64 → k < 64 → c < channels format → mean-of k row c ≡ mean_in_row format four row k c
  mean-row row k c small few known = elim (cases_lt k 32) [
    | inl left ↦ mean-left row k c small left known ∙ ap (λ (p : ℕ → ℕ). p c) (cond_below k 32 (mean_of_found format (left_of four row) (2 * row % 64) k) (mean_of_found format (right_of four row) (2 * row % 64) (k - 32)) left)
    | inr right ↦
        ap (λ (n : ℕ). mean-of n row c) (omega (arith, right))
        ∙ mean-right row (k - 32) c small (omega (arith, few, right)) known
        ∙ ap (λ (p : ℕ → ℕ). p c) (cond_above k 32 (mean_of_found format (left_of four row) (2 * row % 64) k) (mean_of_found format (right_of four row) (2 * row % 64) (k - 32)) _ right refl)
  ]

  mean-halved : (u v c : ℕ) → Inside u v (tile_square above) → at (halved_image all) u v c ≡ mean-of (u - tile_side * above.column) (v - tile_side * above.row) c
  mean-halved u v c there =
      let k = u - tile_side * above.column in
      let row = v - tile_side * above.row in
      let is : IsRectangle all.box = rw box-all (square-is above half) in
      let near : doubled u ≡ column (2 * k) = omega (arith, there.column, half.left) in
      let far : column (2 * k) + 1 ≡ column (2 * k + 1) = omega arith in
      let upper : doubled v ≡ line (2 * row) = omega (arith, there.row, half.top) in
      let lower : line (2 * row) + 1 ≡ line (2 * row + 1) = omega arith in
      halved-mean all u v c is (omega (arith, there.column, half.left)) (omega (arith, there.row, half.top))
      ∙ rw (near, upper, far, lower) refl

  -- bytes that have these means are those of the tile of the halved image
  pub means-are : (bytes : List ℕ) → AreBytes bytes → length bytes ≡ tile_length format → HasMeans format four 64 bytes → tile_bytes (halved_image all) above ≡ bytes
  means-are bytes small whole means =
      raw-is (halved_image all) (tile_square above) bytes small (whole ∙ rw format-all refl) (λ u v c there known.
      let few : c < channels format = rw (← format-all) known in
      mean-halved u v c there
      ∙ mean-row (v - tile_side * above.row) (u - tile_side * above.column) c (omega (arith, there.row)) (omega (arith, there.column)) few
      ∙ sym (means.each (v - tile_side * above.row) (u - tile_side * above.column) c (omega (arith, there.row)) (omega (arith, there.column)) few)
      ∙ ap (λ (f : Format). pixels_from_raw (tile_square above) f bytes u v c) (sym format-all))

-- ---- a row more

pub HasMeans-next : (format : Format) (four : FourTiles) (row : ℕ) (bytes piece : List ℕ) (start len : ℕ) → HasMeans format four row bytes
    → start ≡ row * (64 * pixel_bytes format) → len ≡ 64 * pixel_bytes format → start + len ≤ length bytes → length piece ≡ 64 * pixel_bytes format
    → HasPixels format piece (mean_in_row format four row) → HasMeans format four (row + 1) (put_mid start len bytes piece)
HasMeans-next format four row bytes piece start len before at_start at_len room long pixels = record {
  each = λ r k c below few known.
      let n = pixel_bytes format in
      let whole : length piece ≡ len = omega (arith, long, at_len) in
      elim (cases_lt r row) [
        | inl above ↦
            let index : r * 64 + k < row * 64 = omega (arith, above, few) in
            pixel_moved format (put_mid start len bytes piece) bytes (r * 64 + k) (r * 64 + k) c known
            (λ b within. written-before bytes piece start len room whole ((r * 64 + k) * n + b) (omega (arith, at_start, before_position (r * 64 + k) (row * 64) n b index within)))
            ∙ before.each r k c above few known
        | inr here ↦
            let is : r ≡ row = omega (arith, here, below) in
            ap (λ (i : ℕ). pixel_at format (put_mid start len bytes piece) (i * 64 + k) c) is
            ∙ pixel_moved format (put_mid start len bytes piece) piece (row * 64 + k) k c known
            (λ b within. written-there bytes piece start len room whole ((row * 64 + k) * n + b) (k * n + b) (omega (arith, at_start)) (omega (arith, at_len, before_position k 64 n b few within)))
            ∙ pixels k c (rw (pixel_count_of format piece 64 long) few) known
            ∙ ap (λ (i : ℕ). mean_in_row format four i k c) (sym is)
      ];
}
