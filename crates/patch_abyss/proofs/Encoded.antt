-- The raw bytes of samples, and the image of one pixel everywhere.
use Rattle.std.proofs.Common.{◌≡◌, ℕ, zero, suc, ◌+◌, ◌*◌, ◌/◌, ◌<◌, List, [], ◌∷◌, length, map, get_or, refl, ap, ◌∙◌, arith, length-append, Result, Ok, Err, Vec, Global}
use Rattle.std.specs.Result.{IfOk}
use Rattle.std.specs.List.{flat_map, range_with_len}
use Rattle.std.proofs.lemmas.List.FromFn.{get_or-map-range_with_len}
use Rattle.plane_rect.specs.Rectangle.{Rectangle, spanning}
use Rattle.pixel_formats.specs.Format.{channels, depth}
use Rattle.pixel_formats.specs.Row.{sample_at}
use Rattle.pixel_formats.specs.declared.format.Format.{Format}
use Rattle.pixel_formats.specs.declared.abyss.Abyss.TheVariants.{Clamp}
use Rattle.model_images.specs.Abyss.{abyss_at, nearest}
use Rattle.model_images.specs.FromRaw.{byte_count, image_from_raw}
use Rattle.model_images.specs.Image.{at, image_from_fn}
use Rattle.model_images.specs.Raw.{sample_bytes}
use Rattle.model_images.proofs.FromRawLaws.{at-image_from_raw}
use Rattle.model_images.proofs.Laws.{generated_equal}
use Rattle.model_images.proofs.PolicyLaws.{clamp-everywhere}
use Rattle.model_images.proofs.RawLaws.{encoded}

length-sample : (d v : ℕ) → length (sample_bytes d v) ≡ d
length-sample zero v = refl
length-sample (suc zero) v = refl
length-sample (suc (suc d)) v = omega (arith, length-sample (suc d) (v / 256))

pub length-encoded : (d : ℕ) (samples : List ℕ) → length (flat_map (sample_bytes d) samples) ≡ length samples * d
length-encoded d [] = omega arith
length-encoded d (v ∷ samples) =
    length-append (sample_bytes d v) (flat_map (sample_bytes d) samples)
    ∙ omega (arith, length-sample d v, length-encoded d samples)

-- one position, at the plane's corner
abbrev pub unit : Rectangle
unit = spanning 0 0 1 1

pub unit-count : (format : Format) (samples bytes : List ℕ) → length samples ≡ channels format → bytes ≡ flat_map (sample_bytes (depth format)) samples
    → length bytes ≡ byte_count unit format
unit-count format samples bytes count is =
    ap length is ∙ length-encoded (depth format) samples ∙ ap (λ (n : ℕ). n * depth format) count ∙ omega arith

-- an image of one pixel, read everywhere
pub unit-everywhere : (format : Format) (samples bytes : List ℕ) (out : Rectangle) → bytes ≡ flat_map (sample_bytes (depth format)) samples
    → image_from_fn out format (abyss_at (image_from_raw unit format bytes) Clamp) ≡ image_from_fn out format (λ u v c. get_or samples c 0)
unit-everywhere format samples bytes out is =
    let image = image_from_raw unit format bytes in
    generated_equal out format (abyss_at image Clamp) (λ u v c. get_or samples c 0)
    (λ u v c there known.
    let column : nearest 0 1 u ≡ 0 = omega arith in
    let row : nearest 0 1 v ≡ 0 = omega arith in
    clamp-everywhere image u v c
    ∙ ap (λ (n : ℕ). at image n (nearest 0 1 v) c) column
    ∙ ap (λ (n : ℕ). at image 0 n c) row
    ∙ at-image_from_raw unit format bytes 0 0 c (record { column = (omega arith, omega arith); row = (omega arith, omega arith) }) known
    ∙ ap (λ (n : ℕ). sample_at (depth format) bytes n) (omega arith)
    ∙ ap (λ (xs : List ℕ). sample_at (depth format) xs c) is
    ∙ encoded format samples c)

-- a pixel whose samples are generated
pub encoded-pixel : (format : Format) (pixel : ℕ → ℕ) (c : ℕ) → c < channels format
    → sample_at (depth format) (flat_map (sample_bytes (depth format)) (map pixel (range_with_len 0 (channels format)))) (0 * channels format + c) ≡ pixel c
encoded-pixel format pixel c known =
    let samples = map pixel (range_with_len 0 (channels format)) in
    ap (λ (n : ℕ). sample_at (depth format) (flat_map (sample_bytes (depth format)) samples) n) (omega arith)
    ∙ encoded format samples c
    ∙ get_or-map-range_with_len pixel 0 (channels format) c c 0 known (omega arith)

pub all-encoded : {E : Type 0} (format : Format) (pixel : ℕ → ℕ) (made : Result (Vec ℕ Global) E)
    → IfOk made (λ bytes. bytes.items ≡ flat_map (sample_bytes (depth format)) (map pixel (range_with_len 0 (channels format))))
    → IfOk made (λ bytes. (c : ℕ) → c < channels format → sample_at (depth format) bytes.items (0 * channels format + c) ≡ pixel c)
all-encoded format pixel (Ok bytes) is = λ c known.
    ap (λ (xs : List ℕ). sample_at (depth format) xs (0 * channels format + c)) is ∙ encoded-pixel format pixel c known
all-encoded format pixel (Err refused) is = tt
