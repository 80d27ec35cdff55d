-- The laws of raw bytes.
use Rattle.std.proofs.Common.{◌≡◌, ℕ, zero, suc, ◌*◌, ◌/◌, List, [], ◌∷◌, length, refl, sym, ap, ◌∙◌, arith, length-append}
use Rattle.std.specs.List.{flat_map}
use Rattle.plane_rect.specs.Rectangle.{Rectangle, Includes, area}
use Rattle.plane_rect.specs.Tile.{Tile, tile_square}
use Rattle.pixel_formats.specs.Format.{channels, depth, pixel_bytes}
use Rattle.model_images.specs.Image.{Image, at, image_from_fn, sampled}
use Rattle.model_images.specs.Raw.{raw, sample_bytes, tile_bytes}
use Rattle.model_images.proofs.Laws.{at-image_from_fn, length-sampled, sampled_equal}
use Rattle.pixel_formats.specs.declared.abyss.Abyss.{Abyss}
use Rattle.pixel_formats.specs.declared.abyss.Abyss.TheVariants.{None}
use Rattle.model_images.specs.Abyss.{abyss_at, raw_with}
use Rattle.model_images.proofs.PolicyLaws.{abyss_at-inside, none-everywhere}

pub raw_with-none : (image : Image) (r : Rectangle) → raw_with image None r ≡ raw image r
unfolding raw_with raw
raw_with-none image r =
    ap (flat_map (sample_bytes (depth image.format)))
    (sampled_equal r (channels image.format) (abyss_at image None) (at image) (λ u v c _. λ _. none-everywhere image u v c))

pub raw_with-inside : (image : Image) (policy : Abyss) (r : Rectangle) → Includes image.box r → raw_with image policy r ≡ raw image r
unfolding raw_with raw
raw_with-inside image policy r inside =
    ap (flat_map (sample_bytes (depth image.format)))
    (sampled_equal r (channels image.format) (abyss_at image policy) (at image) (λ u v c h. λ _. abyss_at-inside image policy u v c (inside u v h)))

length-sample_bytes : (n v : ℕ) → length (sample_bytes n v) ≡ n
length-sample_bytes zero v = refl
length-sample_bytes (suc zero) v = refl
length-sample_bytes (suc (suc n)) v = omega (arith, length-sample_bytes (suc n) (v / 256))

length-samples_bytes : (n : ℕ) (samples : List ℕ) → length (flat_map (sample_bytes n) samples) ≡ length samples * n
length-samples_bytes n [] = omega arith
length-samples_bytes n (v ∷ samples) =
    length-append (sample_bytes n v) (flat_map (sample_bytes n) samples)
    ∙ omega (arith, length-sample_bytes n v, length-samples_bytes n samples)

pub length-raw_with : (image : Image) (policy : Abyss) (r : Rectangle) → length (raw_with image policy r) ≡ area r * pixel_bytes image.format
unfolding raw_with
length-raw_with image policy r =
    length-samples_bytes (depth image.format) (sampled r (channels image.format) (abyss_at image policy))
    ∙ ap (λ (n : ℕ). n * depth image.format) (length-sampled r (channels image.format) (abyss_at image policy))
    ∙ omega arith

pub length-tile_bytes : (image : Image) (tile : Tile) → length (tile_bytes image tile) ≡ 4096 * pixel_bytes image.format
length-tile_bytes image tile =
    ap length (sym (raw_with-none image (tile_square tile))) ∙ length-raw_with image None (tile_square tile)

pub raw-image_from_fn : (image : Image) (policy : Abyss) (r : Rectangle) → raw (image_from_fn r image.format (abyss_at image policy)) r ≡ raw_with image policy r
unfolding raw_with raw
raw-image_from_fn image policy r =
    ap (flat_map (sample_bytes (depth image.format)))
    (sampled_equal r (channels image.format) (at (image_from_fn r image.format (abyss_at image policy))) (abyss_at image policy) (at-image_from_fn r image.format (abyss_at image policy)))
