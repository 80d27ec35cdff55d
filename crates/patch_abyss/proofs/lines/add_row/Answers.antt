use Rattle.std.proofs.Common.{◌≡◌, ℕ, ◌+◌, ◌-◌, ◌*◌, ◌%◌, ◌<◌, ◌≤◌, [], ◌++◌, List, Bor, length, take, drop, get_or, map, max, min, refl, sym, ap, ◌∙◌, subst, arith}
use Rattle.std.proofs.lemmas.List.{get_or-map, length-map}
use Rattle.std.proofs.Math.ListN.{length-append}
use Rattle.std.proofs.Math.Nat.{mul-le-mul_right}
use Rattle.plane_rect.specs.Rectangle.{end_column, offset}
use Rattle.plane_rect.specs.Tile.{tile_at, tile_end, tile_of, tile_square}
use Rattle.pixel_formats.specs.Format.{pixel_bytes}
use Rattle.model_images.specs.FromRaw.{pixels_from_raw}
use Rattle.patch_abyss.specs.Lines.{HasFirstPixels}
use Rattle.patch_abyss.proofs.FirstPixels.{HasFirstPixels-more, has_columns, piece_long, reached}
use Rattle.patch_abyss.proofs.lines.add_row.Goals as goal

-- the bytes of a tile of a line are as many as those of a tile
tile_long : (tiles : List (Bor (List ℕ))) (number n : ℕ) → number < length tiles
    → ((k : ℕ) → (d : List ℕ) → k < length (map (λ tile. tile.now) tiles) → length (get_or (map (λ tile. tile.now) tiles) k d) ≡ n)
    → length (get_or tiles number record { ref_ptr = (0, 0); now = [] }).now ≡ n
tile_long tiles number n lt long =
    ap length (sym (get_or-map (λ tile. tile.now) tiles number record { ref_ptr = (0, 0); now = [] } [] lt))
    ∙ long number [] (omega (arith, lt, length-map tiles (λ tile. tile.now)))

pub slice_bounds-extend_from_slice-end : goal.slice_bounds-extend_from_slice-end
slice_bounds-extend_from_slice-end c =
    let long = tile_long c.args.tiles.now c.loop-number.number (4096 * pixel_bytes c.args.format) c.loop-number-test.true c.requires.tiles.lengths in
    let few : c.pixels_of_tile-pixels.result.end ≤ 4096 = omega (arith, c.pixels_of_tile-pixels.ensures.end) in
    omega (arith, long, mul-le-mul_right (pixel_bytes c.args.format) few, ap (λ n. c.pixels_of_tile-pixels.result.end * n) c.pixel_bytes-pixel.ensures)

pub loop-number-init : goal.loop-number-init
loop-number-init c =
    let part = c.args.part.now in
    let begin : part.first_column ≡ reached part (tile_of part.first_column + 0) = omega (arith, has_columns part c.requires.some) in
    record {
      count =
          let none : reached part (tile_of part.first_column + 0) - part.first_column ≡ 0 = omega (arith, begin) in
          omega (arith, ap (λ (n : ℕ). n * pixel_bytes c.args.format) none);
      pixels = λ image same has before. subst (λ u. HasFirstPixels image part (offset part u c.args.row) c.args.bytes.now.items) begin before;
    }

pub loop-number-preserved : goal.loop-number-preserved
loop-number-preserved c =
    let part = c.args.part.now in
    let number = c.loop-number.number in
    let t = tile_of part.first_column + number in
    let pixels = c.pixels_of_tile-pixels in
    let pixel = c.pixel_bytes-pixel.result in
    let last : number < length c.args.tiles.now = c.loop-number-test.true in
    let tile = (get_or c.args.tiles.now number record { ref_ptr = (0, 0); now = [] }).now in
    let long = tile_long c.args.tiles.now number (4096 * pixel_bytes c.args.format) last c.requires.tiles.lengths in
    let few : pixels.result.end ≤ 4096 = omega (arith, pixels.ensures.end) in
    let begin = pixels.result.start * pixel in
    let stop = pixels.result.end * pixel in
    let piece = take (stop - begin) (drop begin tile) in
    let next : t + 1 ≡ tile_of part.first_column + (number + 1) = omega arith in
    let end : t < tile_end (end_column part) = omega (arith, c.requires.tiles.count, length-map c.args.tiles.now (λ tile. tile.now), last) in
    let starts : pixels.result.start ≡ c.args.row % 64 * 64 + (max (64 * t) part.first_column - 64 * t) = omega (arith, pixels.ensures.start, c.first_column-first.ensures.value) in
    let stops : pixels.result.end ≡ c.args.row % 64 * 64 + (min (64 * t + 64) (end_column part) - 64 * t) = omega (arith, pixels.ensures.end, c.first_column-first.ensures.value) in
    let room : stop ≤ length tile =
    omega (arith, long, mul-le-mul_right (pixel_bytes c.args.format) few, ap (λ n. pixels.result.end * n) c.pixel_bytes-pixel.ensures) in
    rw c.in_ok-extend_from_slice.ensures.items record {
      count =
          let size = pixel_bytes c.args.format in
          let piece_is : length piece ≡ (reached part (t + 1) - reached part t) * size =
          piece_long part c.args.row t pixels.result.start pixels.result.end begin stop size tile piece (omega arith) end
          (has_columns part c.requires.some) starts stops (ap (λ n. pixels.result.start * n) c.pixel_bytes-pixel.ensures)
          (ap (λ n. pixels.result.end * n) c.pixel_bytes-pixel.ensures) room refl in
          let wide : reached part (tile_of part.first_column + (number + 1)) - part.first_column
          ≡ reached part t - part.first_column + (reached part (t + 1) - reached part t) = omega (arith, has_columns part c.requires.some, end) in
          length-append c.loop-number.bytes.items piece ∙ omega (arith, c.loop-number.invariant.count, piece_is, ap (λ (n : ℕ). n * size) wide);
      pixels = λ image same has before.
          let size : pixel ≡ pixel_bytes image.format = c.pixel_bytes-pixel.ensures ∙ ap pixel_bytes (sym same) in
          let more : HasFirstPixels image part (offset part (reached part (t + 1)) c.args.row) (c.loop-number.bytes.items ++ piece) =
          HasFirstPixels-more image part c.args.row t pixels.result.start pixels.result.end begin stop
          c.loop-number.bytes.items tile piece c.requires.row (omega arith) end
          (λ u channel there is known.
          let index : tile_of u - tile_of part.first_column ≡ number = omega (arith, is) in
          ap (λ (bytes : List ℕ). pixels_from_raw (tile_square (tile_at u c.args.row)) image.format bytes u c.args.row channel)
          (sym (ap (λ (k : ℕ). get_or (map (λ tile. tile.now) c.args.tiles.now) k []) index
          ∙ get_or-map (λ tile. tile.now) c.args.tiles.now number record { ref_ptr = (0, 0); now = [] } [] last))
          ∙ has u c.args.row channel there refl known)
          starts stops (has_columns part c.requires.some)
          (ap (λ n. pixels.result.start * n) size) (ap (λ n. pixels.result.end * n) size) room refl
          (c.loop-number.invariant.pixels image same has before) in
          subst (λ m. HasFirstPixels image part (offset part (reached part m) c.args.row) (c.loop-number.bytes.items ++ piece)) next more;
    }

-- when no tile is left the part's last column was reached
reached_end : (c : goal.After-loop-number)
    → reached c.args.part.now (tile_of c.args.part.now.first_column + c.loop-number.number) ≡ end_column c.args.part.now
reached_end c =
    let all : c.loop-number.number ≡ length c.args.tiles.now = omega (arith, c.loop-number-test.false, c.loop-number.auto.number-end) in
    omega (arith, all, c.requires.tiles.count, length-map c.args.tiles.now (λ tile. tile.now), has_columns c.args.part.now c.requires.some)

pub returns-clause-count : goal.returns-clause-count
returns-clause-count c =
    let part = c.args.part.now in
    let wide : reached part (tile_of part.first_column + c.loop-number.number) - part.first_column ≡ part.width = omega (arith, reached_end c) in
    c.loop-number.invariant.count ∙ ap (λ (n : ℕ). length c.args.bytes.now.items + n * pixel_bytes c.args.format) wide

pub returns-clause-pixels : goal.returns-clause-pixels
returns-clause-pixels c = λ image same has before.
    let part = c.args.part.now in
    let row = c.args.row in
    let rows : (row + 1 - part.first_row) * part.width ≡ (row - part.first_row) * part.width + part.width =
    let next : row + 1 - part.first_row ≡ row - part.first_row + 1 = omega (arith, c.requires.row.0) in omega (arith, ap (λ n. n * part.width) next) in
    let pixels : offset part (reached part (tile_of part.first_column + c.loop-number.number)) row ≡ offset part part.first_column (row + 1) =
    ap (λ u. offset part u row) (reached_end c) ∙ omega (arith, rows) in
    subst (λ n. HasFirstPixels image part n c.loop-number.bytes.items) pixels (c.loop-number.invariant.pixels image same has before)
