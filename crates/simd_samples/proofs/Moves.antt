-- Vectors that are read from a row and written to one.
use Rattle.std.proofs.Common.{◌≡◌, ℕ, ◌+◌, ◌*◌, ◌<◌, ◌≤◌, List, [], ◌∷◌, length, get_or, refl, sym, ap, ◌∙◌, arith, w8, Fits}
use Rattle.std.proofs.lemmas.Simd.{Each1-from_get_or, below_from_Fits, chunk-fits, length-chunk, get_or-chunk, get_or-put_chunk_at, get_or-put_chunk_above, get_or_wider, get_or_narrower}
use lib.Lanes.{Each1, chunk, put_chunk, number_l, digits_l}
use Rattle.simd_samples.specs.Lanes.{Hold, AreLanes}
use Rattle.pixel_formats.specs.Sample.{sample_at}
use Rattle.simd_samples.proofs.Pointwise.{Makes, Makes-from_lanes}

-- the same with the position in the row as a number of its own
chunk-at : (i n k m : ℕ) (row : List ℕ) → m ≡ i + k → k < n → get_or (chunk i n row) k 0 ≡ get_or row m 0
chunk-at i n k m row e lt = get_or-chunk i n row k 0 lt ∙ ap (λ p. get_or row p 0) (sym e)

put_chunk-at : (k m : ℕ) (row v : List ℕ) → m ≡ k → k < length v → length v ≤ length row → get_or (put_chunk 0 row v) m 0 ≡ get_or v k 0
put_chunk-at k m row v e lt room = ap (λ p. get_or (put_chunk 0 row v) p 0) (omega arith) ∙ get_or-put_chunk_at 0 row v k 0 lt (omega arith)

-- ---- numbers below a bound

pub Makes-load_of_numbers : (bound from : ℕ) (row : List ℕ) → 0 < bound → from + 16 ≤ length row → ((k : ℕ) → get_or row k 0 < bound) → Makes bound (chunk from 16 row) (λ j. get_or row (from + j) 0)
Makes-load_of_numbers bound from row some room below =
    Makes-from_lanes bound (chunk from 16 row) (λ j. get_or row (from + j) 0) some (length-chunk from 16 row room)
    (λ j lt. get_or-chunk from 16 row j 0 lt) (λ j lt. below (from + j))

-- ---- samples of one byte

pub Makes-load_of_bytes : (row : List ℕ) → 16 ≤ length row → ((k : ℕ) → Fits w8 (get_or row k 0)) → Makes 256 (chunk 0 16 row) (sample_at 1 row)
Makes-load_of_bytes row room fits =
    Makes-from_lanes 256 (chunk 0 16 row) (sample_at 1 row) (omega arith) (length-chunk 0 16 row (omega arith))
    (λ j lt. chunk-at 0 16 j j row (omega arith) lt) (λ j lt. (fits j).fits)

pub Hold-store_of_bytes : (row v : List ℕ) → 16 ≤ length row → length v ≡ 16 → Hold (sample_at 1 (put_chunk 0 row v)) (λ j. get_or v j 0)
Hold-store_of_bytes row v room long j lt =
    put_chunk-at j j row v refl (omega arith) (omega arith)

pub after_store : (row v : List ℕ) (n k : ℕ) → length v ≡ n → n ≤ k → get_or (put_chunk 0 row v) k 0 ≡ get_or row k 0
after_store row v n k long past = get_or-put_chunk_above 0 row v k 0 (omega arith)

-- ---- samples of two bytes

number_of_pair : (v : List ℕ) → length v ≡ 2 → number_l 256 v ≡ get_or v 0 0 + 256 * get_or v 1 0
number_of_pair [] long = absurd (omega arith)
number_of_pair (x ∷ []) long = absurd (omega arith)
number_of_pair (x ∷ y ∷ []) long = omega arith
number_of_pair (x ∷ y ∷ z ∷ rest) long = absurd (omega arith)

pub number_of_two : (row : List ℕ) (k : ℕ) → k + 2 ≤ length row → number_l 256 (chunk k 2 row) ≡ get_or row k 0 + 256 * get_or row (k + 1) 0
number_of_two row k room =
    let low = chunk-at k 2 0 k row (omega arith) (omega arith) in
    let high = chunk-at k 2 1 (k + 1) row refl (omega arith) in
    omega (arith, number_of_pair (chunk k 2 row) (length-chunk k 2 row room), low, high)

pub Makes-load_of_words : (row : List ℕ) → 32 ≤ length row → ((k : ℕ) → Fits w8 (get_or row k 0)) → Makes 65536 (digits_l 65536 16 (number_l 256 (chunk 0 32 row))) (sample_at 2 row)
Makes-load_of_words row room fits =
    let bytes = chunk 0 32 row in
    let small : (k : ℕ) → get_or row k 0 < 256 = λ k. (fits k).fits in
    Makes-from_lanes 65536 (digits_l 65536 16 (number_l 256 bytes)) (sample_at 2 row) (omega arith) refl
    (λ j lt.
    get_or_wider 256 2 65536 16 bytes j refl (below_from_Fits w8 bytes (chunk-fits w8 0 32 row fits)) lt
    ∙ number_of_two bytes (2 * j) (omega (arith, length-chunk 0 32 row (omega arith)))
    ∙ omega (arith, chunk-at 0 32 (2 * j) (2 * j) row (omega arith) (omega arith), chunk-at 0 32 (2 * j + 1) (2 * j + 1) row (omega arith) (omega arith)))
    (λ j lt. omega (arith, small (2 * j), small (2 * j + 1)))

pub Hold-store_of_words : (row v : List ℕ) → 32 ≤ length row → AreLanes 65536 v → Hold (sample_at 2 (put_chunk 0 row (digits_l 256 32 (number_l 65536 v)))) (λ j. get_or v j 0)
Hold-store_of_words row v room samples j lt =
    let bytes = digits_l 256 32 (number_l 65536 v) in
    let small : Each1 (λ x. x < 65536) v = Each1-from_get_or (λ x. x < 65536) v 0 (λ i _. samples.below i) in
    let low = put_chunk-at (2 * j + 0) (2 * j) row bytes (omega arith) (omega arith) room ∙ get_or_narrower 65536 2 256 32 v j 0 refl small (omega arith) (omega arith) in
    let high = put_chunk-at (2 * j + 1) (2 * j + 1) row bytes refl (omega arith) room ∙ get_or_narrower 65536 2 256 32 v j 1 refl small (omega arith) (omega arith) in
    omega (arith, samples.below j, low, high)

-- ---- samples of four bytes

number_of_quad : (v : List ℕ) → length v ≡ 4 → number_l 256 v ≡ get_or v 0 0 + 256 * (get_or v 1 0 + 256 * (get_or v 2 0 + 256 * get_or v 3 0))
number_of_quad [] long = absurd (omega arith)
number_of_quad (x ∷ []) long = absurd (omega arith)
number_of_quad (x ∷ y ∷ []) long = absurd (omega arith)
number_of_quad (x ∷ y ∷ z ∷ []) long = absurd (omega arith)
number_of_quad (x ∷ y ∷ z ∷ w ∷ []) long = omega arith
number_of_quad (x ∷ y ∷ z ∷ w ∷ a ∷ rest) long = absurd (omega arith)

pub number_of_four : (row : List ℕ) (k : ℕ) → k + 4 ≤ length row →
    number_l 256 (chunk k 4 row) ≡ get_or row k 0 + 256 * (get_or row (k + 1) 0 + 256 * (get_or row (k + 1 + 1) 0 + 256 * get_or row (k + 1 + 1 + 1) 0))
number_of_four row k room =
    let first = chunk-at k 4 0 k row (omega arith) (omega arith) in
    let second = chunk-at k 4 1 (k + 1) row refl (omega arith) in
    let third = chunk-at k 4 2 (k + 1 + 1) row (omega arith) (omega arith) in
    let fourth = chunk-at k 4 3 (k + 1 + 1 + 1) row (omega arith) (omega arith) in
    omega (arith, number_of_quad (chunk k 4 row) (length-chunk k 4 row room), first, second, third, fourth)

pub Makes-load_of_longs : (row : List ℕ) → 64 ≤ length row → ((k : ℕ) → Fits w8 (get_or row k 0)) → Makes 4294967296 (digits_l 4294967296 16 (number_l 256 (chunk 0 64 row))) (sample_at 4 row)
Makes-load_of_longs row room fits =
    let bytes = chunk 0 64 row in
    let small : (k : ℕ) → get_or row k 0 < 256 = λ k. (fits k).fits in
    let long : length bytes ≡ 64 = length-chunk 0 64 row (omega arith) in
    Makes-from_lanes 4294967296 (digits_l 4294967296 16 (number_l 256 bytes)) (sample_at 4 row) (omega arith) refl
    (λ j lt.
    get_or_wider 256 4 4294967296 16 bytes j refl (below_from_Fits w8 bytes (chunk-fits w8 0 64 row fits)) lt
    ∙ number_of_four bytes (4 * j) (omega (arith, long))
    ∙ omega (
      arith,
      chunk-at 0 64 (4 * j) (4 * j) row (omega arith) (omega arith),
      chunk-at 0 64 (4 * j + 1) (4 * j + 1) row (omega arith) (omega arith),
      chunk-at 0 64 (4 * j + 1 + 1) (4 * j + 1 + 1) row (omega arith) (omega arith),
      chunk-at 0 64 (4 * j + 1 + 1 + 1) (4 * j + 1 + 1 + 1) row (omega arith) (omega arith),
    ))
    (λ j lt. omega (arith, small (4 * j), small (4 * j + 1), small (4 * j + 1 + 1), small (4 * j + 1 + 1 + 1)))

pub Hold-store_of_longs : (row v : List ℕ) → 64 ≤ length row → AreLanes 4294967296 v → Hold (sample_at 4 (put_chunk 0 row (digits_l 256 64 (number_l 4294967296 v)))) (λ j. get_or v j 0)
Hold-store_of_longs row v room samples j lt =
    let bytes = digits_l 256 64 (number_l 4294967296 v) in
    let small : Each1 (λ x. x < 4294967296) v = Each1-from_get_or (λ x. x < 4294967296) v 0 (λ i _. samples.below i) in
    let first = put_chunk-at (4 * j + 0) (4 * j) row bytes (omega arith) (omega arith) room ∙ get_or_narrower 4294967296 4 256 64 v j 0 refl small (omega arith) (omega arith) in
    let second = put_chunk-at (4 * j + 1) (4 * j + 1) row bytes refl (omega arith) room ∙ get_or_narrower 4294967296 4 256 64 v j 1 refl small (omega arith) (omega arith) in
    let third = put_chunk-at (4 * j + 2) (4 * j + 1 + 1) row bytes (omega arith) (omega arith) room ∙ get_or_narrower 4294967296 4 256 64 v j 2 refl small (omega arith) (omega arith) in
    let fourth = put_chunk-at (4 * j + 3) (4 * j + 1 + 1 + 1) row bytes (omega arith) (omega arith) room ∙ get_or_narrower 4294967296 4 256 64 v j 3 refl small (omega arith) (omega arith) in
    omega (arith, samples.below j, first, second, third, fourth)
