-- Bytes of pictures by bands of their rows.
use Rattle.std.proofs.Common.{◌≡◌, ℕ, ◌+◌, List, [], ◌∷◌, ◌++◌, length, Option, Some, None, IfSome, length-append, refl, sym, ap, ◌∙◌, arith}
use Rattle.std.specs.List.{flat_map, sum_by}
use Rattle.std.proofs.lemmas.Grind.{flat_map-append}
use Rattle.std.proofs.lemmas.List.{append-nil}
use Rattle.std.proofs.lemmas.List.Sums.{sum_by-append, sum_by-cons}
use Rattle.model_images.proofs.ByteLaws.{length-raw_with, raw_with-none}
use Rattle.model_images.specs.FromRaw.{byte_count}
use Rattle.model_images.specs.Image.{Image}
use Rattle.model_images.specs.Paint.{blank}
use Rattle.model_images.specs.Raw.{raw}
use Rattle.plane_rect.specs.Tile.{strip_rectangles}
use Rattle.pixel_formats.specs.declared.abyss.Abyss.TheVariants as policies
use Rattle.pixel_formats.specs.declared.format.Format.{Format}
use Rattle.plane_rect.specs.Rectangle.{IsRectangle, Rectangle, empty}
use Rattle.run_lines.specs.PictureBytes.{AreBandsOf, AreBytesOf}
use Rattle.run_lines.proofs.RawBands.{raw-bands}

-- how many bytes a rectangle of any format has
abbrev bytes_in : Format → Rectangle → ℕ
bytes_in format rect = byte_count rect format

pub length-raw : (image : Image) (r : Rectangle) → length (raw image r) ≡ byte_count r image.format
length-raw image r = ap length (sym (raw_with-none image r)) ∙ length-raw_with image policies.None r

length-bands : (image : Image) (rects : List Rectangle) → length (flat_map (raw image) rects) ≡ sum_by (bytes_in image.format) rects
length-bands image [] = refl
length-bands image (r ∷ rects) =
    length-append (raw image r) (flat_map (raw image) rects)
    ∙ ap (λ (n : ℕ). n + length (flat_map (raw image) rects)) (length-raw image r)
    ∙ ap (λ (n : ℕ). byte_count r image.format + n) (length-bands image rects)
    ∙ sym (sum_by-cons (bytes_in image.format) r rects)

-- the bands of a rectangle have as many bytes as it has
pub bands-count : (r : Rectangle) (format : Format) → IsRectangle r → sum_by (bytes_in format) (strip_rectangles r) ≡ byte_count r format
bands-count r format is =
    let any = blank empty format in
    sym (length-bands any (strip_rectangles r)) ∙ ap length (sym (raw-bands any r is)) ∙ length-raw any r

pub no_bands : (known : Option Image) (format : Format) → AreBandsOf known [] format []
no_bands None format = record { count = refl; image = tt }
no_bands (Some image) format = record { count = refl; image = refl }

pub bands-then : (known : Option Image) (format : Format) (xs ys : List Rectangle) (a b : List ℕ) → AreBandsOf known xs format a → AreBandsOf known ys format b → AreBandsOf known (xs ++ ys) format (a ++ b)
bands-then known format xs ys a b first rest = record {
  count = length-append a b ∙ omega (arith, first.count, rest.count, sum_by-append (bytes_in format) xs ys);
  image = by known first.image rest.image;
}
  where
    by : (known : Option Image) → IfSome known (λ image. a ≡ flat_map (raw image) xs) → IfSome known (λ image. b ≡ flat_map (raw image) ys) → IfSome known (λ image. a ++ b ≡ flat_map (raw image) (xs ++ ys))
    by None first rest = tt
    by (Some image) first rest = ap (λ (bytes : List ℕ). bytes ++ b) first ∙ ap (λ (bytes : List ℕ). flat_map (raw image) xs ++ bytes) rest ∙ sym (flat_map-append (raw image) xs ys)

-- there are such bytes
pub bands-some : (known : Option Image) (format : Format) (rects : List Rectangle) → IfSome known (λ image. image.format ≡ format) → (bytes : List ℕ) × AreBandsOf known rects format bytes
bands-some None format rects same =
    let any = blank empty format in
    (flat_map (raw any) rects, record { count = length-bands any rects; image = tt })
bands-some (Some image) format rects same =
    (flat_map (raw image) rects, record { count = length-bands image rects ∙ ap (λ (f : Format). sum_by (bytes_in f) rects) same; image = refl })

pub bytes-some : (known : Option Image) (format : Format) (r : Rectangle) → IfSome known (λ image. image.format ≡ format) → (bytes : List ℕ) × AreBytesOf known r format bytes
bytes-some None format r same =
    let any = blank empty format in
    (raw any r, record { count = length-raw any r; image = tt })
bytes-some (Some image) format r same =
    (raw image r, record { count = length-raw image r ∙ ap (bytes_in_any r) same; image = refl })
  where
    bytes_in_any : Rectangle → Format → ℕ
    bytes_in_any r f = byte_count r f

-- a band alone
pub band-alone : (known : Option Image) (format : Format) (r : Rectangle) (bytes : List ℕ) → AreBytesOf known r format bytes → AreBandsOf known (r ∷ []) format bytes
band-alone known format r bytes are = record { count = omega (arith, are.count); image = by known are.image }
  where
    by : (known : Option Image) → IfSome known (λ image. bytes ≡ raw image r) → IfSome known (λ image. bytes ≡ flat_map (raw image) (r ∷ []))
    by None is = tt
    by (Some image) is = is ∙ sym (append-nil (raw image r))

-- all bands
pub bands-all : (known : Option Image) (format : Format) (r : Rectangle) (bytes : List ℕ) → IsRectangle r → AreBandsOf known (strip_rectangles r) format bytes → AreBytesOf known r format bytes
bands-all known format r bytes is are = record { count = are.count ∙ bands-count r format is; image = by known are.image }
  where
    by : (known : Option Image) → IfSome known (λ image. bytes ≡ flat_map (raw image) (strip_rectangles r)) → IfSome known (λ image. bytes ≡ raw image r)
    by None of = tt
    by (Some image) of = of ∙ sym (raw-bands image r is)
