-- Pictures as what is written of them.
use Rattle.std.proofs.Common.{◌≡◌, ℕ, List, length, Option, Some, None, IfSome, refl, sym, ap, subst}
use Rattle.model_images.specs.FromRaw.{byte_count}
use Rattle.model_images.specs.Image.{Image}
use Rattle.model_images.specs.Raw.{raw}
use Rattle.plane_rect.specs.Tile.{strip_rectangles}
use Rattle.plane_rect.specs.Rectangle.{IsRectangle}
use Rattle.run_lines.specs.PictureBytes.{AreBandsOf, AreBytesOf}
use Rattle.run_lines.proofs.BandBytes.{bands-all}
use Rattle.run_lines.proofs.BandWrites.{band-bytes, known-then}
use Rattle.strip_patches.specs.Pictures.{HasRows, TiledRect}
use Rattle.strip_patches.specs.Shown.{Shows, picture_box, picture_format}
use Rattle.strip_patches.specs.declared.picture.Picture.{Picture}
use Rattle.strip_patches.specs.declared.picture.Picture.TheVariants as pictures

-- the image that is known is shown, where one is
abbrev pub IsKnown : Option Image → Picture → Type 0
IsKnown known picture = IfSome known (λ image. Shows image (picture_box picture) picture)

-- a picture has the format of an image that it shows
pub shown-format : (known : Option Image) (picture : Picture) → IsKnown known picture → IfSome known (λ image. image.format ≡ picture_format picture)
shown-format None picture shows = tt
shown-format (Some image) (pictures.Patch patch) shows = sym (ap (λ (p : Image). p.format) shows)
shown-format (Some image) (pictures.Tiles tiled) shows = sym shows.1.format

-- the bytes of a patch
pub patch-bytes : (known : Option Image) (picture : Picture) (patch : Image) (bytes : List ℕ) → picture ≡ pictures.Patch patch → IsKnown known picture → bytes ≡ raw patch patch.box →
    length bytes ≡ byte_count patch.box patch.format → AreBytesOf known (picture_box picture) (picture_format picture) bytes
patch-bytes known picture patch bytes is shows value count =
    subst (λ (p : Picture). AreBytesOf known (picture_box p) (picture_format p) bytes) (sym is)
    (band-bytes known patch.format patch.box patch bytes refl refl (subst (IsKnown known) is shows) value count)

-- the rows of tiles
pub tiles-rows : (known : Option Image) (picture : Picture) (tiled : TiledRect) → picture ≡ pictures.Tiles tiled → IsKnown known picture →
    IfSome known (λ image. HasRows image (length (strip_rectangles tiled.rect)) tiled)
tiles-rows known picture tiled is shows =
    known-then known (λ image. Shows image tiled.rect (pictures.Tiles tiled)) (λ image. HasRows image (length (strip_rectangles tiled.rect)) tiled) (λ image shown. shown.1)
    (subst (IsKnown known) is shows)

-- their bytes
pub tiles-bytes : (known : Option Image) (picture : Picture) (tiled : TiledRect) (bytes : List ℕ) → picture ≡ pictures.Tiles tiled → IsRectangle tiled.rect →
    AreBandsOf known (strip_rectangles tiled.rect) tiled.format bytes → AreBytesOf known (picture_box picture) (picture_format picture) bytes
tiles-bytes known picture tiled bytes is plane are =
    subst (λ (p : Picture). AreBytesOf known (picture_box p) (picture_format p) bytes) (sym is) (bands-all known tiled.format tiled.rect bytes plane are)
