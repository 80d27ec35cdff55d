-- Rows of single pixels, and of squares.
use Rattle.std.proofs.Common.{◌≡◌, ℕ, zero, suc, ◌+◌, ◌-◌, ◌*◌, ◌/◌, ◌<◌, ◌≤◌, Bool, true, false, cond, List, ◌++◌, length, sym, ap, ◌∙◌, subst, arith, length-append, [], ◌∷◌, ◌%◌, ◌==◌, if◌then◌else◌, Result, Ok, Err, Vec, Global}
use Rattle.std.specs.Result.{IfOk}
use Rattle.std.proofs.lemmas.Bool.Decides.{nat_tests}
use Rattle.std.proofs.lemmas.Nat.{div-mul-add, mod-mul-add}
use Rattle.std.specs.List.{flat_map, range_with_len}
use Rattle.std.proofs.lemmas.Grind.{flat_map-append}
use Rattle.std.proofs.lemmas.List.{append-nil, map-id}
use Rattle.std.proofs.lemmas.List.FromFn.{map-range_with_len_more}
use Rattle.plane_rect.specs.Rectangle.{Rectangle, end_column, end_row, offset}
use Rattle.plane_rect.proofs.RectangleLaws.{offset-column, offset-row}
use Rattle.pixel_formats.specs.Format.{channels, pixel_bytes}
use Rattle.pixel_formats.specs.Row.{HasPixels, Pixel, pixel_at}
use Rattle.pixel_formats.specs.declared.format.Format.{Format}
use Rattle.model_images.specs.FromRaw.{byte_count, image_from_raw}
use Rattle.model_images.specs.Image.{image_from_fn}
use Rattle.model_operations.specs.Values.{checker_pixel, square_number}
use Rattle.sample_rows.proofs.RowLaws.{pixel_count_of}
use Rattle.point_ops.specs.Generated.{IsCheckerboard, by_square, opaque_pixel}
use Rattle.op_contracts.proofs.Pixels.{image-of_pixels}
use Rattle.point_ops.proofs.Rows.{HasPixels-append}

-- the bytes are those of one pixel
pub record IsPixel (f : Format) (pixel : Pixel) (bytes : List ℕ) : Type 0 where
  pub count : length bytes ≡ pixel_bytes f
  pub samples : (c : ℕ) → c < channels f → pixel_at f bytes 0 c ≡ pixel c

only-pixel : (f : Format) (bytes : List ℕ) (pixels : ℕ → Pixel) → IsPixel f (pixels 0) bytes → HasPixels f bytes pixels
only-pixel f bytes pixels is zero c below known = is.samples c known
only-pixel f bytes pixels is (suc k) c below known =
    absurd (omega (arith, below, pixel_count_of f bytes 1 (is.count ∙ omega arith)))

-- ---- the bytes of numbers in a row, one after the other

range-more : (a n : ℕ) → range_with_len a (n + 1) ≡ range_with_len a n ++ (a + n) ∷ []
range-more a n =
    sym (map-id (range_with_len a (n + 1))) ∙ map-range_with_len_more (λ (i : ℕ). i) a n (a + n) (omega arith)
    ∙ ap (λ (xs : List ℕ). xs ++ (a + n) ∷ []) (map-id (range_with_len a n))

pub flat-more : (g : ℕ → List ℕ) (a n : ℕ) → flat_map g (range_with_len a (n + 1)) ≡ flat_map g (range_with_len a n) ++ g (a + n)
flat-more g a n =
    ap (flat_map g) (range-more a n)
    ∙ flat_map-append g (range_with_len a n) ((a + n) ∷ [])
    ∙ ap (λ (xs : List ℕ). flat_map g (range_with_len a n) ++ xs) (append-nil (g (a + n)))

pub one-more : (g : ℕ → List ℕ) (a i : ℕ) → a ≤ i
    → flat_map g (range_with_len a (i + 1 - a)) ≡ flat_map g (range_with_len a (i - a)) ++ g i
one-more g a i after =
    let count : i + 1 - a ≡ i - a + 1 = omega (arith, after) in
    let last : a + (i - a) ≡ i = omega (arith, after) in
    ap (λ (n : ℕ). flat_map g (range_with_len a n)) count
    ∙ flat-more g a (i - a)
    ∙ ap (λ (u : ℕ). flat_map g (range_with_len a (i - a)) ++ g u) last

no-pixels : (f : Format) (pixels : ℕ → Pixel) → HasPixels f [] pixels
no-pixels f pixels k c below known = absurd (omega (arith, below, pixel_count_of f [] 0 (omega arith)))

-- rows of as many pixels, one after the other
pub rows-follow : (f : Format) (g : ℕ → List ℕ) (w a n : ℕ) (pixels : ℕ → Pixel)
    → ((i : ℕ) → i < n → (length (g (a + i)) ≡ w * pixel_bytes f) × HasPixels f (g (a + i)) (λ k. pixels (i * w + k)))
    → (length (flat_map g (range_with_len a n)) ≡ n * w * pixel_bytes f) × HasPixels f (flat_map g (range_with_len a n)) pixels
rows-follow f g w a zero pixels each = (omega arith, no-pixels f pixels)
rows-follow f g w a (suc n) pixels each =
    let before = rows-follow f g w a n pixels (λ i below. each i (omega (arith, below))) in
    let last = each n (omega arith) in
    let rows = flat_map g (range_with_len a n) in
    let count : suc n ≡ n + 1 = omega arith in
    let more : flat_map g (range_with_len a (suc n)) ≡ rows ++ g (a + n) =
    ap (λ (m : ℕ). flat_map g (range_with_len a m)) count ∙ flat-more g a n in (
      ap length more ∙ length-append rows (g (a + n)) ∙ omega (arith, before.0, last.0),
      subst (λ (xs : List ℕ). HasPixels f xs pixels) (sym more) (HasPixels-append f rows (g (a + n)) (n * w) before.0 pixels before.1 last.1),
    )

-- ---- checkerboards

-- the value of a square by the numbers of its column and row
abbrev value : ℕ → ℕ → ℕ → ℕ
value v1 v2 n = if n % 2 == 0 then v1 else v2

by-row : (v1 v2 p q : ℕ) → value v1 v2 (p + q) ≡ (if q % 2 == 0 then value v1 v2 p else value v2 v1 p)
by-row v1 v2 p q = grind (arith, nat_tests)

module _ (f : Format) (size v1 v2 : ℕ) (first second : List ℕ) (one : IsPixel f (opaque_pixel f v1) first) (other : IsPixel f (opaque_pixel f v2) second) where
  chosen : (b : Bool) → IsPixel f (opaque_pixel f (cond b v1 v2)) (cond b first second)
  chosen true = one
  chosen false = other

  pub columns : (a w : ℕ)
      → (length (flat_map (by_square size first second) (range_with_len a w)) ≡ w * pixel_bytes f)
      × HasPixels f (flat_map (by_square size first second) (range_with_len a w)) (λ k. opaque_pixel f (value v1 v2 (square_number size (a + k))))
  columns a w =
      let pixels : ℕ → Pixel = λ k. opaque_pixel f (value v1 v2 (square_number size (a + k))) in
      let all = rows-follow f (by_square size first second) 1 a w pixels
      (λ i below.
      let is = chosen (square_number size (a + i) % 2 == 0) in
      let there : i * 1 + 0 ≡ i = omega arith in (
        is.count ∙ omega arith,
        only-pixel f (by_square size first second (a + i)) (λ k. pixels (i * 1 + k))
            (subst (λ (k : ℕ). IsPixel f (pixels k) (by_square size first second (a + i))) (sym there) is),
      )) in
      (all.0 ∙ omega arith, all.1)

module _ (f : Format) (size v1 v2 : ℕ) (r : Rectangle) (even odd : List ℕ)
    (is : (length even ≡ r.width * pixel_bytes f) × HasPixels f even (λ k. opaque_pixel f (value v1 v2 (square_number size (r.first_column + k)))))
    (beside : (length odd ≡ r.width * pixel_bytes f) × HasPixels f odd (λ k. opaque_pixel f (value v2 v1 (square_number size (r.first_column + k))))) where
  -- a row by the number of its square
  row-of : (b : Bool) → (length (cond b even odd) ≡ r.width * pixel_bytes f)
      × HasPixels f (cond b even odd) (λ k. opaque_pixel f (cond b (value v1 v2 (square_number size (r.first_column + k))) (value v2 v1 (square_number size (r.first_column + k)))))
  row-of true = is
  row-of false = beside

  abbrev pixels : ℕ → Pixel
  pixels k = checker_pixel f size v1 v2 (r.first_column + k % r.width) (r.first_row + k / r.width)

  row-pixels : (i : ℕ) → HasPixels f (by_square size even odd (r.first_row + i)) (λ k. pixels (i * r.width + k))
  row-pixels i k c below known =
      let b = square_number size (r.first_row + i) % 2 == 0 in
      let row = row-of b in
      let within : k < r.width = subst (λ (n : ℕ). k < n) (pixel_count_of f (cond b even odd) r.width row.0) below in
      row.1 k c below known
      ∙ ap (λ (n : ℕ). opaque_pixel f n c) (sym (by-row v1 v2 (square_number size (r.first_column + k)) (square_number size (r.first_row + i))))
      ∙ ap (λ (n : ℕ). checker_pixel f size v1 v2 (r.first_column + n) (r.first_row + i) c) (sym (mod-mul-add i r.width k within))
      ∙ ap (λ (n : ℕ). checker_pixel f size v1 v2 (r.first_column + (i * r.width + k) % r.width) (r.first_row + n) c) (sym (div-mul-add i r.width k within))

  pub board : (bytes : List ℕ) → bytes ≡ flat_map (by_square size even odd) (range_with_len r.first_row r.height)
      → (length bytes ≡ byte_count r f) × (image_from_raw r f bytes ≡ image_from_fn r f (checker_pixel f size v1 v2))
  board bytes made =
      let all = rows-follow f (by_square size even odd) r.width r.first_row r.height pixels
      (λ i below. ((row-of (square_number size (r.first_row + i) % 2 == 0)).0, row-pixels i)) in
      let count : length bytes ≡ byte_count r f = ap length made ∙ all.0 ∙ omega arith in (
        count,
        image-of_pixels r f bytes pixels (checker_pixel f size v1 v2) count (subst (λ (xs : List ℕ). HasPixels f xs pixels) (sym made) all.1)
            (λ u v c there known.
            ap (λ (n : ℕ). checker_pixel f size v1 v2 n (r.first_row + offset r u v / r.width) c) (offset-column u v r there)
            ∙ ap (λ (n : ℕ). checker_pixel f size v1 v2 u n c) (offset-row u v r there)),
      )

pub checkerboard : (f : Format) (size v1 v2 : ℕ) (r : Rectangle) (first second even odd bytes : List ℕ) → IsPixel f (opaque_pixel f v1) first → IsPixel f (opaque_pixel f v2) second
    → even ≡ flat_map (by_square size first second) (range_with_len r.first_column (end_column r - r.first_column))
    → odd ≡ flat_map (by_square size second first) (range_with_len r.first_column (end_column r - r.first_column))
    → bytes ≡ flat_map (by_square size even odd) (range_with_len r.first_row (end_row r - r.first_row))
    → IsCheckerboard f size v1 v2 r bytes
checkerboard f size v1 v2 r first second even odd bytes one other is beside made =
    let wide : end_column r - r.first_column ≡ r.width = omega arith in
    let high : end_row r - r.first_row ≡ r.height = omega arith in
    let Row : List ℕ → ℕ → ℕ → Type 0 =
    λ xs x y. (length xs ≡ r.width * pixel_bytes f) × HasPixels f xs (λ k. opaque_pixel f (value x y (square_number size (r.first_column + k)))) in
    let row : Row even v1 v2 =
    subst (λ (xs : List ℕ). Row xs v1 v2) (sym (is ∙ ap (λ (n : ℕ). flat_map (by_square size first second) (range_with_len r.first_column n)) wide))
    (columns f size v1 v2 first second one other r.first_column r.width) in
    let next : Row odd v2 v1 =
    subst (λ (xs : List ℕ). Row xs v2 v1) (sym (beside ∙ ap (λ (n : ℕ). flat_map (by_square size second first) (range_with_len r.first_column n)) wide))
    (columns f size v2 v1 second first other one r.first_column r.width) in
    let all = board f size v1 v2 r even odd row next bytes
    (made ∙ ap (λ (n : ℕ). flat_map (by_square size even odd) (range_with_len r.first_row n)) high) in
    record { count = all.0; image = all.1 }

pub checkerboard-made : {E : Type 0} (f : Format) (size v1 v2 : ℕ) (r : Rectangle) (first second even odd : List ℕ) (made : Result (Vec ℕ Global) E)
    → IsPixel f (opaque_pixel f v1) first → IsPixel f (opaque_pixel f v2) second
    → even ≡ flat_map (by_square size first second) (range_with_len r.first_column (end_column r - r.first_column))
    → odd ≡ flat_map (by_square size second first) (range_with_len r.first_column (end_column r - r.first_column))
    → IfOk made (λ bytes. bytes.items ≡ flat_map (by_square size even odd) (range_with_len r.first_row (end_row r - r.first_row)))
    → IfOk made (λ bytes. IsCheckerboard f size v1 v2 r bytes.items)
checkerboard-made f size v1 v2 r first second even odd (Ok bytes) one other is beside made =
    checkerboard f size v1 v2 r first second even odd bytes.items one other is beside made
checkerboard-made f size v1 v2 r first second even odd (Err refused) one other is beside made = tt
