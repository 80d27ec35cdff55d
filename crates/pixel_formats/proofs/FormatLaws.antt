-- What is known of every format: how many channels and bytes it has, and what samples those bytes hold.
use Rattle.std.proofs.Common.{◌≡◌, ℕ, zero, suc, ◌+◌, ◌*◌, ◌<◌, ◌≤◌, Bool, true, false, cond, eqb, Decides, List, get_or, refl, sym, subst, ap, ◌∙◌, arith}
use Rattle.std.specs.Prelude.{slice_index}
use Rattle.std.proofs.Math.Nat.{mul-le-mul}
use Rattle.std.proofs.lemmas.Bool.Decides.{nat_tests}
use Rattle.std.proofs.lemmas.Nat.{mul-add-lt}
use Rattle.pixel_formats.specs.Format.{channels, depth, has_alpha, max_sample, max_sample_of, pixel_bytes, same_format}
use Rattle.pixel_formats.specs.Sample.{sample_at, sample_from}
use Rattle.pixel_formats.specs.declared.format.Format.{Format}
use Rattle.pixel_formats.specs.declared.format.Format.TheVariants.{Y8, YA8, RGB8, RGBA8, Y16, YA16, RGB16, RGBA16, Y32, YA32, RGB32, RGBA32}

-- ---- by cases

-- what holds of samples of one byte, of two and of four holds of each format's
pub by_depth : (P : ℕ → Type 0) → P 1 → P 2 → P 4 → (format : Format) → P (depth format)
by_depth P one two four Y8 = one
by_depth P one two four YA8 = one
by_depth P one two four RGB8 = one
by_depth P one two four RGBA8 = one
by_depth P one two four Y16 = two
by_depth P one two four YA16 = two
by_depth P one two four RGB16 = two
by_depth P one two four RGBA16 = two
by_depth P one two four Y32 = four
by_depth P one two four YA32 = four
by_depth P one two four RGB32 = four
by_depth P one two four RGBA32 = four

-- what holds of one channel, two with alpha, three, and four with alpha holds of each format's
pub by_alpha : (P : ℕ → Bool → Type 0) → P 1 false → P 2 true → P 3 false → P 4 true → (format : Format) → P (channels format) (has_alpha format)
by_alpha P one two three four Y8 = one
by_alpha P one two three four YA8 = two
by_alpha P one two three four RGB8 = three
by_alpha P one two three four RGBA8 = four
by_alpha P one two three four Y16 = one
by_alpha P one two three four YA16 = two
by_alpha P one two three four RGB16 = three
by_alpha P one two three four RGBA16 = four
by_alpha P one two three four Y32 = one
by_alpha P one two three four YA32 = two
by_alpha P one two three four RGB32 = three
by_alpha P one two three four RGBA32 = four

-- what holds of one to four channels holds of each format's
pub by_channels : (P : ℕ → Type 0) → P 1 → P 2 → P 3 → P 4 → (format : Format) → P (channels format)
by_channels P = by_alpha (λ n alpha. P n)

-- what holds of the largest samples of one byte, of two and of four holds of each format's
pub by_max : (P : ℕ → Type 0) → P 255 → P 65535 → P 4294967295 → (format : Format) → P (max_sample format)
by_max P = by_depth (λ d. P (max_sample_of d))

-- ---- bounds

pub some_channels : (format : Format) → 0 < channels format
some_channels = by_channels (λ n. 0 < n) (omega arith) (omega arith) (omega arith) (omega arith)

pub few_channels : (format : Format) → channels format ≤ 4
few_channels = by_channels (λ n. n ≤ 4) (omega arith) (omega arith) (omega arith) (omega arith)

pub some_depth : (format : Format) → 0 < depth format
some_depth = by_depth (λ d. 0 < d) (omega arith) (omega arith) (omega arith)

pub few_depth : (format : Format) → depth format ≤ 4
few_depth = by_depth (λ d. d ≤ 4) (omega arith) (omega arith) (omega arith)

-- a pixel has from one byte to sixteen
pub few_bytes : (format : Format) → (1 ≤ pixel_bytes format) × (pixel_bytes format ≤ 16)
few_bytes format = (
  mul-le-mul {n₁ = 1} {m₁ = 1} (some_channels format) (some_depth format),
  mul-le-mul {n₂ = 4} {m₂ = 4} (few_channels format) (few_depth format),
)

-- a tile has from 4,096 bytes to 65,536
pub few_tile_bytes : (format : Format) → (4096 ≤ 4096 * pixel_bytes format) × (4096 * pixel_bytes format ≤ 65536)
few_tile_bytes format = let few = few_bytes format in (omega (arith, few.0), omega (arith, few.1))

-- a sample of one of the first pixels is in their bytes
pub sample_fits : (format : Format) (count k c : ℕ) → k < count → c < channels format → depth format * (k * channels format + c + 1) ≤ count * pixel_bytes format
sample_fits format count k c below known =
    let few = mul-le-mul {n₁ = depth format} {n₂ = depth format} (omega arith) (mul-add-lt k (channels format) c count below known) in
    omega (arith, few)

-- ---- the test that two formats are one

-- the format of so many channels and so many bytes a sample
format_of : ℕ → ℕ → Format
format_of n d =
    cond (eqb d 1)
    (cond (eqb n 1) Y8 (cond (eqb n 2) YA8 (cond (eqb n 3) RGB8 RGBA8)))
    (cond (eqb d 2)
    (cond (eqb n 1) Y16 (cond (eqb n 2) YA16 (cond (eqb n 3) RGB16 RGBA16)))
    (cond (eqb n 1) Y32 (cond (eqb n 2) YA32 (cond (eqb n 3) RGB32 RGBA32))))

format-again : (format : Format) → format_of (channels format) (depth format) ≡ format
unfolding format_of
format-again Y8 = refl
format-again _ = refl

stated : (a b : Format) → same_format a b ≡ true → a ≡ b
stated a b e =
    let n : channels a ≡ channels b = grind (arith, nat_tests) in
    let d : depth a ≡ depth b = grind (arith, nat_tests) in
    sym (format-again a) ∙ ap (λ n. format_of n (depth a)) n ∙ ap (λ d. format_of (channels b) d) d ∙ format-again b

itself : (f : Format) → same_format f f ≡ true
itself f = grind (arith, nat_tests)

pub Decides-same_format : (a b : Format) → Decides (same_format a b) (a ≡ b)
Decides-same_format a b = (stated a b, λ same. subst (λ (f : Format). same_format a f ≡ true) same (itself a))

-- ---- samples

-- a sample of a row of bytes is at most the largest
pub sample_within : (format : Format) (row : List ℕ) (i : ℕ) → ((k : ℕ) → slice_index row k < 256) → sample_at (depth format) row i ≤ max_sample format
sample_within format row i small =
    by_depth (λ d. sample_at d row i ≤ max_sample_of d) (omega (arith, small i)) (omega (arith, small (2 * i), small (2 * i + 1)))
    (omega (arith, small (4 * i), small (4 * i + 1), small (4 * i + 1 + 1), small (4 * i + 1 + 1 + 1)))
    format

-- the numbers that equal bytes spell
pub from_equal : (n : ℕ) (xs ys : List ℕ) (a b : ℕ) → ((k : ℕ) → k < n → get_or xs (a + k) 0 ≡ get_or ys (b + k) 0) → sample_from n xs a ≡ sample_from n ys b
from_equal zero xs ys a b same = refl
from_equal (suc zero) xs ys a b same =
    ap (λ (n : ℕ). get_or xs n 0) (omega arith) ∙ same 0 (omega arith) ∙ ap (λ (n : ℕ). get_or ys n 0) (omega arith)
from_equal (suc (suc n)) xs ys a b same =
    let low : get_or xs a 0 ≡ get_or ys b 0 =
    ap (λ (n : ℕ). get_or xs n 0) (omega arith) ∙ same 0 (omega arith) ∙ ap (λ (n : ℕ). get_or ys n 0) (omega arith) in
    let rest = from_equal (suc n) xs ys (a + 1) (b + 1)
    (λ k below. ap (λ (n : ℕ). get_or xs n 0) (omega arith) ∙ same (suc k) (omega (arith, below)) ∙ ap (λ (n : ℕ). get_or ys n 0) (omega arith)) in
    omega (arith, low, rest)

-- samples are equal whose bytes are
pub sample_equal : (d : ℕ) (xs ys : List ℕ) (i j : ℕ) → ((k : ℕ) → k < d → get_or xs (d * i + k) 0 ≡ get_or ys (d * j + k) 0) → sample_at d xs i ≡ sample_at d ys j
sample_equal zero xs ys i j same = refl
sample_equal (suc zero) xs ys i j same =
    ap (λ (n : ℕ). get_or xs n 0) (omega arith) ∙ same 0 (omega arith) ∙ ap (λ (n : ℕ). get_or ys n 0) (omega arith)
sample_equal (suc (suc n)) xs ys i j same = from_equal (suc (suc n)) xs ys (suc (suc n) * i) (suc (suc n) * j) same
