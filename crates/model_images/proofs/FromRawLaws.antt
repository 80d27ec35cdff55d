-- The laws of raw bytes and of the samples that they spell.
use Rattle.std.proofs.Common.{Fits, w8, ◌≡◌, ℕ, zero, suc, ◌+◌, ◌*◌, ◌/◌, ◌%◌, ◌<◌, List, [], ◌∷◌, length, replicate, get_or, refl, ap, ◌∙◌, arith}
use Rattle.std.specs.List.{flat_map}
use Rattle.plane_rect.specs.Rectangle.{Rectangle, Inside}
use Rattle.pixel_formats.specs.Format.{channels, depth}
use Rattle.pixel_formats.specs.Sample.{sample_at, sample_from}
use Rattle.pixel_formats.specs.declared.format.Format.{Format}
use Rattle.pixel_formats.proofs.FormatLaws.{by_depth, sample_equal}
use Rattle.pixel_formats.proofs.Zeros.{get_or-zeros}
use Rattle.model_images.specs.Image.{Image, at, sampled, sample_index, sample_count}
use Rattle.model_images.specs.Paint.{blank}
use Rattle.model_images.specs.Raw.{raw, sample_bytes}
use Rattle.model_images.proofs.Samples.{index_of_position, position_inside}
use Rattle.model_images.proofs.Laws.{at-image_from_fn, generated_equal, get_or-sampled, length-sampled}
use Rattle.model_images.specs.FromRaw.{AreBytes, image_from_raw, pixels_from_raw, byte_count}

-- ---- samples of bytes

from_zero : (n : ℕ) (xs : List ℕ) (a : ℕ) → ((k : ℕ) → k < n → get_or xs (a + k) 0 ≡ 0) → sample_from n xs a ≡ 0
from_zero zero xs a none = refl
from_zero (suc zero) xs a none = ap (λ (n : ℕ). get_or xs n 0) (omega arith) ∙ none 0 (omega arith)
from_zero (suc (suc n)) xs a none =
    let low : get_or xs a 0 ≡ 0 = ap (λ (n : ℕ). get_or xs n 0) (omega arith) ∙ none 0 (omega arith) in
    let rest = from_zero (suc n) xs (a + 1) (λ k below. ap (λ (n : ℕ). get_or xs n 0) (omega arith) ∙ none (suc k) (omega (arith, below))) in
    omega (arith, low, rest)

-- a sample of bytes that are 0
pub sample_zero : (d : ℕ) (xs : List ℕ) (i : ℕ) → ((k : ℕ) → k < d → get_or xs (d * i + k) 0 ≡ 0) → sample_at d xs i ≡ 0
sample_zero zero xs i none = refl
sample_zero (suc zero) xs i none = ap (λ (n : ℕ). get_or xs n 0) (omega arith) ∙ none 0 (omega arith)
sample_zero (suc (suc n)) xs i none = from_zero (suc (suc n)) xs (suc (suc n) * i) none

-- ---- images that bytes spell

pub at-image_from_raw : (box : Rectangle) (format : Format) (bytes : List ℕ) (u v c : ℕ) → Inside u v box → c < channels format →
    at (image_from_raw box format bytes) u v c ≡ sample_at (depth format) bytes (sample_index box (channels format) u v c)
at-image_from_raw box format bytes u v c there known = at-image_from_fn box format (pixels_from_raw box format bytes) u v c there known

pub image_from_raw-zeros : (box : Rectangle) (format : Format) (n : ℕ) → image_from_raw box format (replicate n 0) ≡ blank box format
image_from_raw-zeros box format n =
    generated_equal box format (pixels_from_raw box format (replicate n 0)) (λ u v c. 0)
    (λ u v c there known. sample_zero (depth format) (replicate n 0) (sample_index box (channels format) u v c) (λ k below. get_or-zeros n _))

-- ---- raw bytes

-- the bytes spell these samples, of so many bytes each
abbrev pub AreRawSamples : List ℕ → List ℕ → ℕ → Type 0
AreRawSamples bytes samples d =
    length bytes ≡ length samples * d → ((i : ℕ) → i < length samples → get_or samples i 0 ≡ sample_at d bytes i) → flat_map (sample_bytes d) samples ≡ bytes

bytes_of_one : (samples bytes : List ℕ) → AreRawSamples bytes samples 1
bytes_of_one [] [] whole same = refl
bytes_of_one [] (a ∷ bytes) whole same = absurd (omega arith)
bytes_of_one (s ∷ samples) [] whole same = absurd (omega arith)
bytes_of_one (s ∷ samples) (a ∷ bytes) whole same =
    let first : s ≡ a = same 0 (omega arith) in
    let rest = bytes_of_one samples bytes (omega arith) (λ i lt. same (suc i) (omega arith)) in
    rw (first, rest) refl

bytes_of_two : (samples bytes : List ℕ) → AreBytes bytes → AreRawSamples bytes samples 2
bytes_of_two [] [] small whole same = refl
bytes_of_two [] (a ∷ bytes) small whole same = absurd (omega arith)
bytes_of_two (s ∷ samples) [] small whole same = absurd (omega arith)
bytes_of_two (s ∷ samples) (a ∷ []) small whole same = absurd (omega arith)
bytes_of_two (s ∷ samples) (a ∷ b ∷ bytes) small whole same =
    let first : s ≡ a + 256 * b = same 0 (omega arith) in
    let below : a < 256 = small 0 in
    let low : s % 256 ≡ a = omega arith in
    let high : s / 256 ≡ b = omega arith in
    let rest = bytes_of_two samples bytes (λ k. small (suc (suc k))) (omega arith)
    (λ i lt.
    let low_index : 2 * suc i ≡ suc (suc (2 * i)) = omega arith in
    let high_index : 2 * suc i + 1 ≡ suc (suc (2 * i + 1)) = omega arith in
    same (suc i) (omega arith)
    ∙ ap (λ (n : ℕ). get_or (a ∷ b ∷ bytes) n 0 + 256 * get_or (a ∷ b ∷ bytes) (2 * suc i + 1) 0) low_index
    ∙ ap (λ (n : ℕ). get_or bytes (2 * i) 0 + 256 * get_or (a ∷ b ∷ bytes) n 0) high_index) in
    rw (low, high, rest) refl

bytes_of_four : (samples bytes : List ℕ) → AreBytes bytes → AreRawSamples bytes samples 4
bytes_of_four [] [] small whole same = refl
bytes_of_four [] (a ∷ bytes) small whole same = absurd (omega arith)
bytes_of_four (s ∷ samples) [] small whole same = absurd (omega arith)
bytes_of_four (s ∷ samples) (a ∷ []) small whole same = absurd (omega arith)
bytes_of_four (s ∷ samples) (a ∷ b ∷ []) small whole same = absurd (omega arith)
bytes_of_four (s ∷ samples) (a ∷ b ∷ e ∷ []) small whole same = absurd (omega arith)
bytes_of_four (s ∷ samples) (a ∷ b ∷ e ∷ f ∷ bytes) small whole same =
    let first : s ≡ a + 256 * (b + 256 * (e + 256 * f)) = same 0 (omega arith) in
    let low : s % 256 ≡ a = omega (arith, small 0) in
    let second : s / 256 ≡ b + 256 * (e + 256 * f) = omega (arith, small 0) in
    let middle : s / 256 % 256 ≡ b = omega (arith, second, small 1) in
    let third : s / 256 / 256 ≡ e + 256 * f = omega (arith, second, small 1) in
    let next : s / 256 / 256 % 256 ≡ e = omega (arith, third, small 2) in
    let high : s / 256 / 256 / 256 ≡ f = omega (arith, third, small 2) in
    let rest = bytes_of_four samples bytes (λ k. small (suc (suc (suc (suc k))))) (omega arith)
    (λ i lt. same (suc i) (omega arith)
    ∙ sample_equal 4 (a ∷ b ∷ e ∷ f ∷ bytes) bytes (suc i) i
    (λ k below. ap (λ (n : ℕ). get_or (a ∷ b ∷ e ∷ f ∷ bytes) n 0) (shift_four i k))) in
    rw (low, middle, next, high, rest) refl
  where
    shift_four : (i k : ℕ) → 4 * suc i + k ≡ suc (suc (suc (suc (4 * i + k))))
    shift_four i k = omega arith

-- bytes are the raw bytes of a rectangle that spell the image's samples there
pub raw-is : (image : Image) (r : Rectangle) (bytes : List ℕ) → AreBytes bytes → length bytes ≡ byte_count r image.format →
    ((u v c : ℕ) → Inside u v r → c < channels image.format → at image u v c ≡ sample_at (depth image.format) bytes (sample_index r (channels image.format) u v c)) →
    raw image r ≡ bytes
unfolding raw
raw-is image r bytes small whole same =
    let n = channels image.format in
    let samples = sampled r n (at image) in
    let count : length samples ≡ sample_count r n = length-sampled r n (at image) in
    by_depth (λ d. AreRawSamples bytes samples d) (bytes_of_one samples bytes) (bytes_of_two samples bytes small) (bytes_of_four samples bytes small) image.format
    (whole ∙ rw count (omega arith))
    (λ i lt.
    let below : i < sample_count r n = rw (← count) lt in
    let p = position_inside r n i below in
    get_or-sampled r n (at image) i below
    ∙ same _ _ _ p.0 p.1
    ∙ ap (sample_at (depth image.format) bytes) (index_of_position r n i))

pub raw-image_from_raw : (box : Rectangle) (format : Format) (bytes : List ℕ) → AreBytes bytes → length bytes ≡ byte_count box format → raw (image_from_raw box format bytes) box ≡ bytes
raw-image_from_raw box format bytes small whole = raw-is (image_from_raw box format bytes) box bytes small whole (at-image_from_raw box format bytes)

-- bytes that fit eight bits
pub are_bytes : (bytes : List ℕ) → ((k : ℕ) → Fits w8 (get_or bytes k 0)) → AreBytes bytes
are_bytes bytes fits k = (fits k).fits

pub zeros_are_bytes : (n : ℕ) → AreBytes (replicate n 0)
zeros_are_bytes n k = omega (arith, get_or-zeros n k)
