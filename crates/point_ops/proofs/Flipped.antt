-- Parts of images that are mirrored.
use Rattle.std.proofs.Common.{◌≡◌, ℕ, zero, suc, ◌+◌, ◌-◌, ◌*◌, ◌/◌, ◌%◌, ◌<◌, ◌≤◌, inl, inr, Bool, true, false, List, length, take, drop, get_or, refl, sym, ap, ◌∙◌, subst, arith}
use Rattle.std.specs.List.{flat_map, range_with_len}
use Rattle.std.proofs.lemmas.List.{get_or-drop, get_or-take, length-take}
use Rattle.std.proofs.lemmas.Nat.{div-mul-add, div_below, mod-mul-add, mod_below, mul-add-lt}
use Rattle.std.proofs.Math.ListN.{length-drop}
use Rattle.std.proofs.Math.Nat.{mul-le-mul_right}
use Rattle.plane_rect.specs.Rectangle.{Includes, InLimits, Inside, IsRectangle, Rectangle, area, empty, end_column, end_row, offset}
use Rattle.plane_rect.proofs.Rectangles.{rectangle-some, some_or_empty}
use Rattle.pixel_formats.specs.Format.{channels, depth, pixel_bytes}
use Rattle.pixel_formats.specs.Row.{HasPixels, Pixel, pixel_at}
use Rattle.pixel_formats.specs.declared.format.Format.{Format}
use Rattle.model_images.specs.FromRaw.{byte_count, image_from_raw}
use Rattle.model_images.specs.Image.{Image, at, image_from_fn}
use Rattle.pixel_formats.proofs.FormatLaws.{sample_equal}
use Rattle.model_operations.specs.Moves.{mirrored}
use Rattle.model_operations.specs.Values.{flipped_pixel}
use Rattle.sample_rows.proofs.RowLaws.{pixel_count_of}
use Rattle.patch_abyss.proofs.Parts.{byte_index, byte_within}
use Rattle.model_operations.specs.Lawful.Sides.{mirrored_column, mirrored_row}
use Rattle.point_ops.specs.Flipped.{chunk_from_end, flipped_index, mirrored_end, mirrored_source}
use Rattle.op_contracts.specs.PartBytes.{AreRawBytesOf}
use Rattle.op_contracts.proofs.Pixels.{image-of_pixels}
use Rattle.point_ops.proofs.Squares.{rows-follow}

-- ---- chunks in the reverse of their order

chunk-is : (xs : List ℕ) (n count i : ℕ) → i < count → chunk_from_end xs n count i ≡ take n (drop ((count - 1 - i) * n) xs)
chunk-is xs n count i below =
    let whole : count - i ≡ count - 1 - i + 1 = omega (arith, below) in
    let end : (count - i) * n ≡ (count - 1 - i) * n + n = ap (λ (m : ℕ). m * n) whole ∙ omega arith in
    let start : (count - i) * n - n ≡ (count - 1 - i) * n = omega (arith, end) in
    let long : (count - i) * n - ((count - i) * n - n) ≡ n = omega (arith, end) in
    ap (λ (m : ℕ). take m (drop ((count - i) * n - n) xs)) long ∙ ap (λ (m : ℕ). take n (drop m xs)) start

chunk-long : (xs : List ℕ) (n count i : ℕ) → length xs ≡ count * n → i < count → length (take n (drop ((count - 1 - i) * n) xs)) ≡ n
chunk-long xs n count i whole below =
    let room : (count - 1 - i + 1) * n ≤ count * n = mul-le-mul_right n (omega (arith, below)) in
    omega (arith, length-take n (drop ((count - 1 - i) * n) xs), length-drop ((count - 1 - i) * n) xs, whole, room)

chunk-pixel : (f : Format) (xs : List ℕ) (w j k c : ℕ) → k < w → c < channels f
    → pixel_at f (take (w * pixel_bytes f) (drop (j * (w * pixel_bytes f)) xs)) k c ≡ pixel_at f xs (j * w + k) c
chunk-pixel f xs w j k c within known =
    let m = channels f in
    let d = depth f in
    let n = w * pixel_bytes f in
    sample_equal d (take n (drop (j * n) xs)) xs (k * m + c) ((j * w + k) * m + c)
    (λ t few.
    let p = d * (k * m + c) + t in
    let below : p < n = omega (arith, byte_index k m d c t, mul-add-lt k (m * d) (d * c + t) w within (byte_within m d c t known few)) in
    get_or-take n (drop (j * n) xs) p 0 below
    ∙ get_or-drop (j * n) xs p 0
    ∙ ap (λ (i : ℕ). get_or xs i 0) (omega (arith, byte_index k m d c t, byte_index (j * w + k) m d c t)))

-- the pixels of chunks of w pixels in the reverse of their order
abbrev turned : Format → List ℕ → ℕ → ℕ → ℕ → Pixel
turned f xs w count i = pixel_at f xs ((count - 1 - i / w) * w + i % w)

pub turned-pixels : (f : Format) (xs : List ℕ) (w count : ℕ) → length xs ≡ count * (w * pixel_bytes f)
    → (length (flat_map (chunk_from_end xs (w * pixel_bytes f) count) (range_with_len 0 count)) ≡ count * w * pixel_bytes f)
    × HasPixels f (flat_map (chunk_from_end xs (w * pixel_bytes f) count) (range_with_len 0 count)) (turned f xs w count)
turned-pixels f xs w count whole =
    let n = w * pixel_bytes f in
    rows-follow f (chunk_from_end xs n count) w 0 count (turned f xs w count)
    (λ i below.
    let there : 0 + i ≡ i = omega arith in
    let is : chunk_from_end xs n count (0 + i) ≡ take n (drop ((count - 1 - i) * n) xs) = ap (chunk_from_end xs n count) there ∙ chunk-is xs n count i below in
    let long : length (chunk_from_end xs n count (0 + i)) ≡ n = ap length is ∙ chunk-long xs n count i whole below in (
      long,
      λ k c few known.
          let within : k < w = subst (λ (m : ℕ). k < m) (pixel_count_of f (chunk_from_end xs n count (0 + i)) w long) few in
          ap (λ (ys : List ℕ). pixel_at f ys k c) is
          ∙ chunk-pixel f xs w (count - 1 - i) k c within known
          ∙ ap (λ (m : ℕ). pixel_at f xs ((count - 1 - m) * w + k) c) (sym (div-mul-add i w k within))
          ∙ ap (λ (m : ℕ). pixel_at f xs ((count - 1 - (i * w + k) / w) * w + m) c) (sym (mod-mul-add i w k within)),
    ))

-- ---- the pixels of a rectangle, mirrored

module _ (f : Format) (r : Rectangle) (src bytes : List ℕ) (whole : length src ≡ byte_count r f) where
  pub upright-pixels : bytes ≡ flat_map (chunk_from_end src (r.width * pixel_bytes f) r.height) (range_with_len 0 r.height)
      → (length bytes ≡ byte_count r f) × HasPixels f bytes (λ i. pixel_at f src (flipped_index false r i))
  upright-pixels is =
      let all = turned-pixels f src r.width r.height (whole ∙ omega arith) in (
        ap length is ∙ all.0 ∙ omega arith,
        subst (λ (xs : List ℕ). HasPixels f xs (λ i. pixel_at f src (flipped_index false r i))) (sym is) all.1,
      )

  -- from the pixel of an index in the reverse of all, and of the rows, to the one of its row
  twice-turned : (i : ℕ) → i < area r → ((r.height - 1 - i / r.width) * r.width + i % r.width < area r)
      × ((area r - 1 - ((r.height - 1 - i / r.width) * r.width + i % r.width) / 1) * 1 + ((r.height - 1 - i / r.width) * r.width + i % r.width) % 1 ≡ flipped_index true r i)
  twice-turned i below =
      let some : 0 < r.width = wide r.width r.height i below in
      let a = i / r.width in
      let b = i % r.width in
      let row : a < r.height = div_below i r.width r.height some (omega (arith, below)) in
      let column : b < r.width = mod_below i r.width some in
      let p = r.height - 1 - a in
      let height : r.height ≡ p + a + 1 = omega (arith, row) in
      let all : area r ≡ p * r.width + a * r.width + r.width = ap (λ (h : ℕ). r.width * h) height ∙ omega arith in
      (omega (arith, all, column), omega (arith, all, column))
    where
      wide : (w h i : ℕ) → i < w * h → 0 < w
      wide zero h i lt = absurd (omega (arith, lt))
      wide (suc w) h i lt = omega arith

  pub sideways-pixels : (pixels : List ℕ) → pixels ≡ flat_map (chunk_from_end src (pixel_bytes f) (area r)) (range_with_len 0 (area r))
      → bytes ≡ flat_map (chunk_from_end pixels (r.width * pixel_bytes f) r.height) (range_with_len 0 r.height)
      → (length bytes ≡ byte_count r f) × HasPixels f bytes (λ i. pixel_at f src (flipped_index true r i))
  sideways-pixels pixels first is =
      let one : 1 * pixel_bytes f ≡ pixel_bytes f = omega arith in
      let turn = turned-pixels f src 1 (area r) (whole ∙ ap (λ (n : ℕ). area r * n) (sym one)) in
      let same : pixels ≡ flat_map (chunk_from_end src (1 * pixel_bytes f) (area r)) (range_with_len 0 (area r)) =
      first ∙ ap (λ (n : ℕ). flat_map (chunk_from_end src n (area r)) (range_with_len 0 (area r))) (sym one) in
      let long : length pixels ≡ byte_count r f = ap length same ∙ turn.0 ∙ omega arith in
      let has : HasPixels f pixels (turned f src 1 (area r)) = subst (λ (xs : List ℕ). HasPixels f xs (turned f src 1 (area r))) (sym same) turn.1 in
      let all = turned-pixels f pixels r.width r.height (long ∙ omega arith) in
      let count : length bytes ≡ byte_count r f = ap length is ∙ all.0 ∙ omega arith in (
        count,
        λ i c below known.
            let few : i < area r = subst (λ (n : ℕ). i < n) (pixel_count_of f bytes (area r) count) below in
            let turned_twice = twice-turned i few in
            let rows : HasPixels f bytes (turned f pixels r.width r.height) = subst (λ (xs : List ℕ). HasPixels f xs (turned f pixels r.width r.height)) (sym is) all.1 in
            rows i c below known
            ∙ has ((r.height - 1 - i / r.width) * r.width + i % r.width) c
            (subst (λ (n : ℕ). (r.height - 1 - i / r.width) * r.width + i % r.width < n) (sym (pixel_count_of f pixels (area r) long)) turned_twice.0) known
            ∙ ap (λ (n : ℕ). pixel_at f src n c) turned_twice.1,
      )

  pub turned-long : (pixels : List ℕ) → pixels ≡ flat_map (chunk_from_end src (pixel_bytes f) (area r)) (range_with_len 0 (area r)) → length pixels ≡ byte_count r f
  turned-long pixels first =
      let one : 1 * pixel_bytes f ≡ pixel_bytes f = omega arith in
      let turn = turned-pixels f src 1 (area r) (whole ∙ ap (λ (n : ℕ). area r * n) (sym one)) in
      ap length first ∙ ap (λ (n : ℕ). length (flat_map (chunk_from_end src n (area r)) (range_with_len 0 (area r)))) (sym one) ∙ turn.0 ∙ omega arith

  -- the same where the sizes are known by other names
  module _ (w h n : ℕ) (width : w ≡ r.width) (height : h ≡ r.height) (pixel : n ≡ pixel_bytes f) where
    rows-are : (xs : List ℕ) → bytes ≡ flat_map (chunk_from_end xs (w * n) h) (range_with_len 0 h)
        → bytes ≡ flat_map (chunk_from_end xs (r.width * pixel_bytes f) r.height) (range_with_len 0 r.height)
    rows-are xs is =
        is
        ∙ ap (λ (m : ℕ). flat_map (chunk_from_end xs (m * n) h) (range_with_len 0 h)) width
        ∙ ap (λ (m : ℕ). flat_map (chunk_from_end xs (r.width * m) h) (range_with_len 0 h)) pixel
        ∙ ap (λ (m : ℕ). flat_map (chunk_from_end xs (r.width * pixel_bytes f) m) (range_with_len 0 m)) height

    pub upright-bytes : bytes ≡ flat_map (chunk_from_end src (w * n) h) (range_with_len 0 h)
        → (length bytes ≡ byte_count r f) × HasPixels f bytes (λ i. pixel_at f src (flipped_index false r i))
    upright-bytes is = upright-pixels (rows-are src is)

    pub sideways-bytes : (pixels given : List ℕ) → pixels ≡ flat_map (chunk_from_end src (pixel_bytes f) (area r)) (range_with_len 0 (area r)) → given ≡ pixels
        → bytes ≡ flat_map (chunk_from_end given (w * n) h) (range_with_len 0 h)
        → (length bytes ≡ byte_count r f) × HasPixels f bytes (λ i. pixel_at f src (flipped_index true r i))
    sideways-bytes pixels given first same is =
        sideways-pixels pixels first (rows-are pixels (is ∙ ap (λ (xs : List ℕ). flat_map (chunk_from_end xs (w * n) h) (range_with_len 0 h)) same))

-- the bytes of rows, where the sizes are known by other names
pub row-bytes : (f : Format) (r : Rectangle) (w h n : ℕ) → w ≡ r.width → h ≡ r.height → n ≡ pixel_bytes f → byte_count r f ≡ h * (w * n)
row-bytes f r w h n width height pixel =
    ap (λ (m : ℕ). m * r.height * pixel_bytes f) (sym width)
    ∙ ap (λ (m : ℕ). w * m * pixel_bytes f) (sym height)
    ∙ ap (λ (m : ℕ). w * h * m) (sym pixel)
    ∙ omega arith

-- ---- the positions that are mirrored

-- a part comes from another rectangle of its size, mirrored
pub record MirrorsFrom (sideways : Bool) (box source part : Rectangle) : Type 0 where
  pub width : source.width ≡ part.width
  pub height : source.height ≡ part.height
  pub inside : (u v : ℕ) → Inside u v part → Inside (mirrored_column sideways box u) (mirrored_row sideways box v) source
  pub index : (u v : ℕ) → Inside u v part
      → flipped_index sideways part (offset part u v) ≡ offset source (mirrored_column sideways box u) (mirrored_row sideways box v)

-- the row and the column of an index in a part
row-index : (part : Rectangle) (u v : ℕ) → Inside u v part → offset part u v / part.width ≡ v - part.first_row
row-index part u v there = div-mul-add (v - part.first_row) part.width (u - part.first_column) (omega (arith, there.column))

column-index : (part : Rectangle) (u v : ℕ) → Inside u v part → offset part u v % part.width ≡ u - part.first_column
column-index part u v there = mod-mul-add (v - part.first_row) part.width (u - part.first_column) (omega (arith, there.column))

module _ (box part : Rectangle) (wide : 0 < part.width) (high : 0 < part.height) (includes : Includes box part) where
  first : Inside part.first_column part.first_row box
  first = includes part.first_column part.first_row (record { column = (omega arith, omega (arith, wide)); row = (omega arith, omega (arith, high)) })

  last : Inside (part.first_column + part.width - 1) (part.first_row + part.height - 1) box
  last = includes (part.first_column + part.width - 1) (part.first_row + part.height - 1)
      (record { column = (omega (arith, wide), omega (arith, wide)); row = (omega (arith, high), omega (arith, high)) })

  sideways-from : MirrorsFrom true box (mirrored_source true box part) part
  sideways-from =
      let start = box.first_column + end_column box - end_column part in
      let left : mirrored_end box.first_column (end_column box) (end_column part) ≡ start = omega (arith, first.column, last.column, wide) in
      let right : mirrored_end box.first_column (end_column box) part.first_column ≡ start + part.width = omega (arith, first.column, last.column, wide) in
      let width : start + part.width - start ≡ part.width = omega arith in
      let height : end_row part - part.first_row ≡ part.height = omega arith in
      let is : mirrored_source true box part ≡ record { first_column = start; first_row = part.first_row; width = part.width; height = part.height } =
      rw (left, right, width, height) (rectangle-some start part.first_row part.width part.height wide high) in
      subst (λ (r : Rectangle). MirrorsFrom true box r part) (sym is)
      (record {
        width = refl;
        height = refl;
        inside = λ u v there. record {
          column = (omega (arith, first.column, last.column, there.column, wide), omega (arith, first.column, last.column, there.column, wide));
          row = there.row;
        };
        index = λ u v there.
            let column : part.width - 1 - (u - part.first_column) ≡ mirrored box.first_column box.width u - start = omega (arith, first.column, last.column, there.column, wide) in
            ap (λ (n : ℕ). n * part.width + (part.width - 1 - offset part u v % part.width)) (row-index part u v there)
            ∙ ap (λ (n : ℕ). (v - part.first_row) * part.width + (part.width - 1 - n)) (column-index part u v there)
            ∙ ap (λ (n : ℕ). (v - part.first_row) * part.width + n) column;
      })

  upright-from : MirrorsFrom false box (mirrored_source false box part) part
  upright-from =
      let start = box.first_row + end_row box - end_row part in
      let top : mirrored_end box.first_row (end_row box) (end_row part) ≡ start = omega (arith, first.row, last.row, high) in
      let bottom : mirrored_end box.first_row (end_row box) part.first_row ≡ start + part.height = omega (arith, first.row, last.row, high) in
      let width : end_column part - part.first_column ≡ part.width = omega arith in
      let height : start + part.height - start ≡ part.height = omega arith in
      let is : mirrored_source false box part ≡ record { first_column = part.first_column; first_row = start; width = part.width; height = part.height } =
      rw (top, bottom, width, height) (rectangle-some part.first_column start part.width part.height wide high) in
      subst (λ (r : Rectangle). MirrorsFrom false box r part) (sym is)
      (record {
        width = refl;
        height = refl;
        inside = λ u v there. record {
          column = there.column;
          row = (omega (arith, first.row, last.row, there.row, high), omega (arith, first.row, last.row, there.row, high));
        };
        index = λ u v there.
            let row : part.height - 1 - (v - part.first_row) ≡ mirrored box.first_row box.height v - start = omega (arith, first.row, last.row, there.row, high) in
            ap (λ (n : ℕ). (part.height - 1 - n) * part.width + offset part u v % part.width) (row-index part u v there)
            ∙ ap (λ (n : ℕ). (part.height - 1 - (v - part.first_row)) * part.width + n) (column-index part u v there)
            ∙ ap (λ (n : ℕ). n * part.width + (u - part.first_column)) row;
      })

  some-from : (sideways : Bool) → MirrorsFrom sideways box (mirrored_source sideways box part) part
  some-from true = sideways-from
  some-from false = upright-from

-- a part without a position
none-is : (sideways : Bool) (box : Rectangle) → mirrored_source sideways box empty ≡ empty
none-is true box =
    let none : mirrored_end box.first_column (end_column box) empty.first_column - mirrored_end box.first_column (end_column box) (end_column empty) ≡ 0 = omega arith in
    rw none refl
none-is false box =
    let none : end_column empty - empty.first_column ≡ 0 = omega arith in
    rw none refl

none-from : (sideways : Bool) (box : Rectangle) → MirrorsFrom sideways box empty empty
none-from sideways box = record {
  width = refl;
  height = refl;
  inside = λ u v there. absurd (omega (arith, there.column));
  index = λ u v there. absurd (omega (arith, there.column));
}

pub mirrors-from : (sideways : Bool) (box part source : Rectangle) → Includes box part → IsRectangle part → source ≡ mirrored_source sideways box part
    → MirrorsFrom sideways box source part
mirrors-from sideways box part source includes is made =
    subst (λ (r : Rectangle). MirrorsFrom sideways box r part) (sym made)
    (elim (some_or_empty part is) [
      | inl some ↦ some-from box part some.0 some.1 includes sideways
      | inr none ↦ subst (λ (r : Rectangle). MirrorsFrom sideways box (mirrored_source sideways box r) r) (sym none)
          (subst (λ (r : Rectangle). MirrorsFrom sideways box r empty) (sym (none-is sideways box)) (none-from sideways box))
    ])

-- ---- the image of mirrored pixels

flipped-at : (sideways : Bool) (image : Image) (u v c : ℕ)
    → at image (mirrored_column sideways image.box u) (mirrored_row sideways image.box v) c ≡ flipped_pixel sideways image u v c
flipped-at true image u v c = refl
flipped-at false image u v c = refl

module _ (sideways : Bool) (image : Image) (source part : Rectangle) (from : MirrorsFrom sideways image.box source part) where
  pub mirrored-limits : InLimits part → InLimits source
  mirrored-limits limits = rw (from.width, from.height) limits

  module _ (src : List ℕ) (are : AreRawBytesOf image source src) where
    pub mirrored-count : length src ≡ byte_count part image.format
    mirrored-count = are.whole ∙ rw (from.width, from.height) refl

    pub mirrored-image : (bytes : List ℕ) → length bytes ≡ byte_count part image.format
        → HasPixels image.format bytes (λ i. pixel_at image.format src (flipped_index sideways part i))
        → image_from_raw part image.format bytes ≡ image_from_fn part image.format (flipped_pixel sideways image)
    mirrored-image bytes count has =
        image-of_pixels part image.format bytes (λ i. pixel_at image.format src (flipped_index sideways part i)) (flipped_pixel sideways image) count has
        (λ u v c there known.
        ap (λ (n : ℕ). pixel_at image.format src n c) (from.index u v there)
        ∙ are.samples (mirrored_column sideways image.box u) (mirrored_row sideways image.box v) c (from.inside u v there) known
        ∙ flipped-at sideways image u v c)
