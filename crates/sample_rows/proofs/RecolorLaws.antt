-- The pixels of a row whose samples were changed.
use Rattle.std.proofs.Common.{◌≡◌, ℕ, ◌+◌, ◌-◌, ◌*◌, ◌/◌, ◌%◌, ◌<◌, Bool, true, false, ◌&&◌, cond, eqb, leb, List, length, refl, sym, ap, ◌∙◌, arith, leb-false}
use Rattle.pixel_formats.specs.declared.format.Format.{Format}
use Rattle.pixel_formats.proofs.FormatLaws.{by_alpha}
use Rattle.pixel_formats.specs.Format.{channels, depth, has_alpha, max_sample, max_sample_of, pixel_bytes}
use Rattle.pixel_formats.specs.Recolor.{recolored}
use Rattle.sample_rows.proofs.SampleLaws.{HasPixels-from_samples}
use Rattle.pixel_formats.specs.Row.{sample_at, HasPixels, Pixel, pixel_at}
use Rattle.pixel_formats.specs.Threshold.{thresholded}

-- in a format without alpha the colors are all samples
recolored-opaque : (f : Format) (change : ℕ → ℕ → ℕ) (pixel : Pixel) (channel : ℕ) → has_alpha f ≡ false → recolored f change pixel channel ≡ change (max_sample f) (pixel channel)
recolored-opaque f change pixel channel none =
    ap (λ alpha. cond (alpha && eqb (channel + 1) (channels f)) (pixel channel) (change (cond alpha (pixel (channels f - 1)) (max_sample f)) (pixel channel))) none

pub opaque_pixels : (f : Format) (change : ℕ → ℕ → ℕ) (src dst : List ℕ) → has_alpha f ≡ false → length dst % pixel_bytes f ≡ 0 → ((j : ℕ) → j < length dst / (1 * depth f) → sample_at (depth f) dst j ≡ change (max_sample_of (depth f)) (sample_at (depth f) src j)) → HasPixels f dst (λ k. recolored f change (pixel_at f src k))
opaque_pixels f change src dst none whole samples k channel before known =
    HasPixels-from_samples f dst (λ j. change (max_sample f) (sample_at (depth f) src j)) whole samples k channel before known
    ∙ sym (recolored-opaque f change (pixel_at f src k) channel none)

pub no_alpha : (f : Format) → (channels f ≡ 2 → ⊥) → (channels f ≡ 4 → ⊥) → has_alpha f ≡ false
no_alpha =
    by_alpha (λ n alpha. (n ≡ 2 → ⊥) → (n ≡ 4 → ⊥) → alpha ≡ false)
    (λ two four. refl) (λ two four. absurd (two refl)) (λ two four. refl) (λ two four. absurd (four refl))

-- ---- lanes of vectors of pixels

-- alpha was put back after a change under the cap
pub lane_with_alpha : (alpha : Bool) (old : ℕ) (under : ℕ → ℕ) {lane changed caps cap : ℕ} → lane ≡ cond alpha old changed → changed ≡ under caps → caps ≡ cap → lane ≡ cond alpha old (under cap)
lane_with_alpha alpha old under kept made capped = kept ∙ (λ p. cond alpha old ((made ∙ ap under capped) p))

reached_zero : (sample cap : ℕ) → thresholded 0 cap sample ≡ cap
reached_zero sample cap = go (leb 0 sample) refl
  where
    go : (t : Bool) → leb 0 sample ≡ t → cond t cap 0 ≡ cap
    go true e = refl
    go false e = absurd (omega (arith, leb-false _ _ e))

-- alpha, which is its own cap, reaches a threshold of 0
pub lane_at_threshold : (alpha : Bool) (sample limit : ℕ) {lane caps cap limits none spread : ℕ} → lane ≡ thresholded limits caps sample → limits ≡ cond alpha none spread → none ≡ 0 → spread ≡ limit
    → caps ≡ cap → (alpha ≡ true → cap ≡ sample) → lane ≡ cond alpha sample (thresholded limit cap sample)
lane_at_threshold true sample limit {caps = caps} made at zero full capped own =
    made ∙ ap (λ t. thresholded t caps sample) (at ∙ zero) ∙ reached_zero sample caps ∙ capped ∙ own refl
lane_at_threshold false sample limit made at zero full capped own = made ∙ (λ p. thresholded ((at ∙ full) p) (capped p) sample)
