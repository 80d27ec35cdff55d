-- Prefixes of tiles of one pixel.
use Rattle.std.proofs.Common.{◌≡◌, ℕ, zero, suc, ◌+◌, ◌*◌, ◌/◌, ◌%◌, ◌<◌, ◌≤◌, List, [], ◌∷◌, cond, length, take, get_or, Option, Some, None, Result, refl, sym, ap, ◌∙◌, arith}
use Rattle.std.specs.Option.{option_map}
use Rattle.std.specs.Result.{OnOk}
use Rattle.std.proofs.Math.Nat.{mul-le-mul}
use Rattle.std.proofs.lemmas.Result.{on_ok_weaker}
use Rattle.level_tables.specs.LevelTiles.{bytes_in}
use Rattle.plane_rect.specs.Rectangle.{Includes, Inside, Rectangle, area, offset, spanning}
use Rattle.plane_rect.proofs.RectangleLaws.{offset-below, offset-index}
use Rattle.pixel_formats.specs.Format.{channels, depth, pixel_bytes}
use Rattle.pixel_formats.specs.Row.{Pixel, sample_at}
use Rattle.pixel_formats.specs.declared.format.Format.{Format}
use Rattle.pixel_formats.proofs.FormatLaws.{sample_equal, sample_fits}
use Rattle.model_images.specs.FromRaw.{byte_count, pixels_from_raw}
use Rattle.model_images.specs.Image.{Image, at, image_from_fn, is_inside}
use Rattle.model_images.specs.Paint.{painted}
use Rattle.model_images.specs.Raw.{raw}
use Rattle.model_images.specs.Tiles.{held_image}
use Rattle.model_images.proofs.Laws.{at-image_from_fn, generated_equal}
use Rattle.model_images.proofs.RawLaws.{raw-samples}
use Rattle.chain_owners.specs.declared.swap_refused.SwapRefused.{SwapRefused}
use Rattle.root_tiles.specs.Chains.{ChainState}
use Rattle.root_tiles.specs.Paints.{IsSolid, Paints}
use Rattle.root_tiles.specs.Roots.{RootTiles, root_image}
use Rattle.root_tiles.specs.Writes.{IsWritten}

get-taken : (xs : List ℕ) (n i : ℕ) → i < n → get_or (take n xs) i 0 ≡ get_or xs i 0
get-taken xs zero i less = absurd (omega (arith, less))
get-taken [] (suc n) i less = refl
get-taken (x ∷ xs) (suc n) zero less = refl
get-taken (x ∷ xs) (suc n) (suc i) less = get-taken xs n i (omega (arith, less))

pub length-taken : (xs : List ℕ) (n : ℕ) → n ≤ length xs → length (take n xs) ≡ n
length-taken xs zero less = refl
length-taken [] (suc n) less = absurd (omega (arith, less))
length-taken (x ∷ xs) (suc n) less = ap suc (length-taken xs n (omega (arith, less)))

-- the samples of a prefix
abbrev IsTaken : ℕ → Type 0
IsTaken d = (xs : List ℕ) (n i : ℕ) → d * (i + 1) ≤ n → sample_at d (take n xs) i ≡ sample_at d xs i

pub sample-taken : (format : Format) → IsTaken (depth format)
sample-taken format xs n i less =
    sample_equal (depth format) (take n xs) xs i i (λ k below. get-taken xs n (depth format * i + k) (omega (arith, below, less)))

fits : (format : Format) (count : ℕ) → count ≤ 4096 → count * pixel_bytes format ≤ 4096 * pixel_bytes format
fits format count few = mul-le-mul {m₁ = pixel_bytes format} {m₂ = pixel_bytes format} few (omega arith)

-- as many pixels of it as a part has paint the part
pub solid-paints : (format : Format) (r part : Rectangle) (bytes : List ℕ) (n : ℕ) → IsSolid format bytes → Includes r part → area part ≤ 4096
    → n ≡ area part * pixel_bytes format → Paints format r part (λ u v c. sample_at (depth format) bytes c) part (take n bytes)
solid-paints format r part bytes n solid inside small is = record {
  count = ap (λ (m : ℕ). length (take m bytes)) is
      ∙ length-taken bytes (area part * pixel_bytes format) (omega (arith, fits format (area part) small, solid.whole));
  within = inside;
  covers = λ u v there. there;
  pixels = λ u v c there known.
      let o = offset part u v in
      let below = offset-below u v part there in
      sample-taken format bytes n (o * channels format + c) (omega (arith, is, sample_fits format (area part) o c below known))
      ∙ solid.even o c (omega (arith, below, small)) known;
}

-- ---- the tile of one pixel

-- the square at the plane's corner
abbrev pub corner : Rectangle
corner = spanning 0 0 64 64

solid-sample : (format : Format) (samples : List ℕ) (image : Image) (bytes : List ℕ) → image ≡ image_from_fn corner format (λ u v c. get_or samples c 0)
    → bytes ≡ raw image image.box → (k c : ℕ) → k < 4096 → c < channels format → sample_at (depth format) bytes (k * channels format + c) ≡ get_or samples c 0
solid-sample format samples image bytes is are k c below known =
    let f : ℕ → ℕ → ℕ → ℕ = λ u v c. get_or samples c 0 in
    let u = 0 + k % 64 in
    let v = 0 + k / 64 in
    let there : Inside u v corner = record { column = (omega arith, omega arith); row = (omega arith, omega (arith, below)) } in
    let of : bytes ≡ raw (image_from_fn corner format f) corner = are ∙ ap (λ (i : Image). raw i i.box) is in
    ap (λ (n : ℕ). sample_at (depth format) bytes (n * channels format + c)) (sym (offset-index k corner))
    ∙ ap (λ (b : List ℕ). pixels_from_raw corner format b u v c) of
    ∙ raw-samples (image_from_fn corner format f) corner u v c there known
    ∙ at-image_from_fn corner format f u v c there known

pub solid-tile : (format : Format) (samples : List ℕ) (image : Image) (bytes : List ℕ) → image ≡ image_from_fn corner format (λ u v c. get_or samples c 0)
    → bytes ≡ raw image image.box → length bytes ≡ byte_count image.box image.format
    → IsSolid format bytes × ((c : ℕ) → c < channels format → sample_at (depth format) bytes c ≡ get_or samples c 0)
solid-tile format samples image bytes is are count =
    let first : (c : ℕ) → c < channels format → sample_at (depth format) bytes c ≡ get_or samples c 0 =
    λ c known. ap (λ (n : ℕ). sample_at (depth format) bytes n) (omega arith) ∙ solid-sample format samples image bytes is are 0 c (omega arith) known in (
      record {
        whole = count ∙ ap (λ (i : Image). byte_count i.box i.format) is ∙ omega arith;
        even = λ k c below known. solid-sample format samples image bytes is are k c below known ∙ sym (first c known);
      },
      first,
    )

-- what is painted depends on the samples of the format's channels alone
pub painted-same : (image : Image) (r : Rectangle) (f g : ℕ → ℕ → ℕ → ℕ) → ((u v c : ℕ) → c < channels image.format → f u v c ≡ g u v c) → painted image r f ≡ painted image r g
painted-same image r f g same =
    generated_equal image.box image.format (λ u v c. cond (is_inside u v r) (f u v c) (at image u v c)) (λ u v c. cond (is_inside u v r) (g u v c) (at image u v c))
    (λ u v c there known. ap (λ (n : ℕ). cond (is_inside u v r) n (at image u v c)) (same u v c known))

-- the same of an image that may not be known
filled-same : {X : Type 0} (content : Option X) (image : Image) (r : Rectangle) (f g : ℕ → ℕ → ℕ → ℕ)
    → ((u v c : ℕ) → c < channels image.format → f u v c ≡ g u v c)
    → option_map (λ (i : Image). painted i r f) (option_map (λ (x : X). image) content) ≡ option_map (λ (i : Image). painted i r g) (option_map (λ (x : X). image) content)
filled-same None image r f g same = refl
filled-same (Some x) image r f g same = ap Some (painted-same image r f g same)

-- what is written over a root depends on the samples of its format's channels alone
pub written-same : {X : Type 0} (result : Result X SwapRefused) (r : Rectangle) (f g : ℕ → ℕ → Pixel) (old new : RootTiles) (before after : ChainState)
    → ((u v c : ℕ) → c < channels old.tiles.format → f u v c ≡ g u v c) → IsWritten r f result old new before after → IsWritten r g result old new before after
written-same result r f g old new before after same is =
    let shown : OnOk result (root_image new after.held ≡ option_map (λ (image : Image). painted image r g) (root_image old before.held)) =
    on_ok_weaker result (λ image. image ∙ filled-same before.held.content (held_image old.box old.tiles.format (bytes_in before.held old.tiles.put)) r f g same) is.image in
    assumption (shown, is)
