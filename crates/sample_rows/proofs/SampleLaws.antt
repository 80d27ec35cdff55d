-- Rows that come from others sample by sample, and their pixels.
use Rattle.std.proofs.Common.{◌≡◌, ℕ, ◌+◌, ◌*◌, ◌/◌, ◌%◌, ◌<◌, List, length, subst, arith}
use Rattle.pixel_formats.specs.declared.format.Format.{Format}
use Rattle.pixel_formats.specs.declared.format.Format.TheVariants.{Y8}
use Rattle.pixel_formats.specs.Format.{channels, depth, pixel_bytes}
use Rattle.sample_rows.specs.Groups.{groups, Maps, MapsPairs}
use Rattle.pixel_formats.specs.Row.{sample_at, HasPixels}

pub sample_at-mapped : (d : ℕ) (value : ℕ → ℕ) (n : ℕ) (src dst : List ℕ) → Maps (groups 1 d) (groups 1 d) n (λ sample i. value (sample i)) src dst → (j : ℕ) → j < n → sample_at d dst j ≡ value (sample_at d src j)
sample_at-mapped d value n src dst maps j lt =
    let Q : ℕ → Type 0 = λ k. sample_at d dst k ≡ value (sample_at d src k) in
    let at : j * 1 + 0 ≡ j = omega arith in
    subst Q at (maps j 0 lt (omega arith))

pub sample_at-mapped_pairs : (d : ℕ) (value : ℕ → ℕ → ℕ) (n : ℕ) (a b dst : List ℕ) → MapsPairs (groups 1 d) (groups 1 d) (groups 1 d) n (λ x y i. value (x i) (y i)) a b dst → (j : ℕ) → j < n → sample_at d dst j ≡ value (sample_at d a j) (sample_at d b j)
sample_at-mapped_pairs d value n a b dst maps j lt =
    let Q : ℕ → Type 0 = λ k. sample_at d dst k ≡ value (sample_at d a k) (sample_at d b k) in
    let at : j * 1 + 0 ≡ j = omega arith in
    subst Q at (maps j 0 lt (omega arith))

-- the number of a sample of a whole pixel
pub sample_number-lt : (f : Format) (l k channel : ℕ) → l % pixel_bytes f ≡ 0 → k < l / pixel_bytes f → channel < channels f → k * channels f + channel < l / (1 * depth f)
sample_number-lt Y8 l k channel whole lt within = omega arith
sample_number-lt f l k channel whole lt within = omega arith

-- the pixels of a row of which the samples are known
pub HasPixels-from_samples : (f : Format) (row : List ℕ) (value : ℕ → ℕ) → length row % pixel_bytes f ≡ 0
    → ((j : ℕ) → j < length row / (1 * depth f) → sample_at (depth f) row j ≡ value j) → HasPixels f row (λ k channel. value (k * channels f + channel))
HasPixels-from_samples f row value whole samples k channel lt within =
    samples (k * channels f + channel) (sample_number-lt f (length row) k channel whole lt within)
