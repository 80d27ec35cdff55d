-- The samples that raw bytes encode.
use Rattle.std.proofs.Common.{◌≡◌, ℕ, zero, suc, ◌+◌, ◌*◌, ◌/◌, ◌%◌, ◌<◌, List, [], ◌∷◌, replicate, get_or, refl, sym, ap, ◌∙◌, arith}
use Rattle.std.specs.List.{flat_map}
use Rattle.std.proofs.lemmas.Simd.{length-replicate}
use Rattle.plane_rect.specs.Rectangle.{Rectangle, Inside}
use Rattle.plane_rect.specs.Tile.{Tile, tile_square}
use Rattle.pixel_formats.specs.Format.{channels, depth}
use Rattle.pixel_formats.specs.Row.{sample_at}
use Rattle.pixel_formats.specs.declared.format.Format.{Format}
use Rattle.pixel_formats.proofs.FormatLaws.{by_depth, sample_equal}
use Rattle.pixel_formats.proofs.Zeros.{get_or-zeros}
use Rattle.model_images.specs.Agreement.{AgreeOver}
use Rattle.model_images.specs.FromRaw.{byte_count, pixels_from_raw}
use Rattle.model_images.specs.Image.{Image, at, sampled, sample_index}
use Rattle.model_images.specs.Raw.{raw, sample_bytes, tile_bytes}
use Rattle.model_images.specs.Tiles.{AreZeroOutside}
use Rattle.model_images.proofs.FromRawLaws.{raw-is, sample_zero, zeros_are_bytes}
use Rattle.model_images.proofs.Laws.{at_outside, get_or-sampled, sampled_equal}
use Rattle.model_images.proofs.Samples.{position_of_index, sample_index_below}

-- the samples that raw bytes encode are those that they are made of
abbrev EncodeSamples : ℕ → Type 0
EncodeSamples d = (samples : List ℕ) (i : ℕ) → sample_at d (flat_map (sample_bytes d) samples) i ≡ get_or samples i 0

encode-one : EncodeSamples 1
encode-one [] i = refl
encode-one (s ∷ samples) zero = refl
encode-one (s ∷ samples) (suc i) = encode-one samples i

encode-two : EncodeSamples 2
encode-two [] i = refl
encode-two (s ∷ samples) zero = omega arith
encode-two (s ∷ samples) (suc i) =
    let bytes = flat_map (sample_bytes 2) (s ∷ samples) in
    let rest = flat_map (sample_bytes 2) samples in
    let low : 2 * suc i ≡ suc (suc (2 * i)) = omega arith in
    let high : 2 * suc i + 1 ≡ suc (suc (2 * i + 1)) = omega arith in
    ap (λ (n : ℕ). get_or bytes n 0 + 256 * get_or bytes (2 * suc i + 1) 0) low
    ∙ ap (λ (n : ℕ). get_or rest (2 * i) 0 + 256 * get_or bytes n 0) high
    ∙ encode-two samples i

encode-four : EncodeSamples 4
encode-four [] i = refl
encode-four (s ∷ samples) zero =
    let low : s % 256 + 256 * (s / 256) ≡ s = omega arith in
    let middle : s / 256 % 256 + 256 * (s / 256 / 256) ≡ s / 256 = omega arith in
    let high : s / 256 / 256 % 256 + 256 * (s / 256 / 256 / 256) ≡ s / 256 / 256 = omega arith in
    omega (arith, low, middle, high)
encode-four (s ∷ samples) (suc i) =
    let rest = flat_map (sample_bytes 4) samples in
    let later : (k : ℕ) → 4 * suc i + k ≡ suc (suc (suc (suc (4 * i + k)))) = λ k. omega arith in
    sample_equal 4 (flat_map (sample_bytes 4) (s ∷ samples)) rest (suc i) i
    (λ k below. ap (λ (n : ℕ). get_or (flat_map (sample_bytes 4) (s ∷ samples)) n 0) (later k))
    ∙ encode-four samples i

pub encoded : (format : Format) (samples : List ℕ) (i : ℕ) → sample_at (depth format) (flat_map (sample_bytes (depth format)) samples) i ≡ get_or samples i 0
encoded format = by_depth EncodeSamples encode-one encode-two encode-four format

pub raw-samples : (image : Image) (r : Rectangle) (u v c : ℕ) → Inside u v r → c < channels image.format
    → pixels_from_raw r image.format (raw image r) u v c ≡ at image u v c
unfolding raw
raw-samples image r u v c there known =
    let n = channels image.format in
    let i = sample_index r n u v c in
    let position = position_of_index r n u v c there known in
    encoded image.format (sampled r n (at image)) i
    ∙ get_or-sampled r n (at image) i (sample_index_below r n u v c there known)
    ∙ rw (position.0, position.1, position.2) refl

pub raw-zeros : (image : Image) (r : Rectangle) → ((u v c : ℕ) → Inside u v r → c < channels image.format → at image u v c ≡ 0)
    → raw image r ≡ replicate (byte_count r image.format) 0
raw-zeros image r zeros =
    let n = byte_count r image.format in
    raw-is image r (replicate n 0) (zeros_are_bytes n) (length-replicate {A = ℕ} n 0)
    (λ u v c there known. zeros u v c there known
    ∙ sym (sample_zero (depth image.format) (replicate n 0) (sample_index r (channels image.format) u v c) (λ k below. get_or-zeros n _)))

-- zeros encode zeros
pub pixels-zero : (r : Rectangle) (format : Format) (n u v c : ℕ) → pixels_from_raw r format (replicate n 0) u v c ≡ 0
pixels-zero r format n u v c = sample_zero (depth format) (replicate n 0) (sample_index r (channels format) u v c) (λ k below. get_or-zeros n _)

-- images that agree over a rectangle have the same bytes there
pub raw-over : (a b : Image) (r : Rectangle) → a.format ≡ b.format → AgreeOver a b r → raw a r ≡ raw b r
unfolding raw
raw-over a b r format same =
    ap (flat_map (sample_bytes (depth a.format))) (sampled_equal r (channels a.format) (at a) (at b) (λ u v c there known. same u v c there))
    ∙ ap (λ (f : Format). flat_map (sample_bytes (depth f)) (sampled r (channels f) (at b))) format

pub tile-outside : (image : Image) (tile : Tile) → AreZeroOutside image.box image.format tile (tile_bytes image tile)
tile-outside image tile u v c there out known = raw-samples image (tile_square tile) u v c there known ∙ at_outside image u v c out
