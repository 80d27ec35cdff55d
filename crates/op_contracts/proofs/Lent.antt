-- The raw bytes of windows over rectangles.
use Rattle.std.proofs.Common.{◌≡◌, List, ℕ, length, Some, sym, ap, ◌∙◌, subst}
use Rattle.plane_rect.specs.Rectangle.{Includes, Rectangle}
use Rattle.plane_rect.specs.Tile.{Tile, tile_square}
use Rattle.model_images.specs.FromRaw.{byte_count}
use Rattle.model_images.specs.Image.{Image}
use Rattle.model_images.specs.Paint.{cut}
use Rattle.model_images.specs.Raw.{raw}
use Rattle.model_images.specs.Tiles.{held_pixels}
use Rattle.model_images.proofs.ByteLaws.{length-raw_with, raw_with-none}
use Rattle.model_images.proofs.HeldTiles.{pixel-held}
use Rattle.model_images.proofs.Laws.{at-image_from_fn}
use Rattle.model_images.proofs.RawLaws.{raw-samples}
use Rattle.pixel_formats.specs.declared.abyss.Abyss.TheVariants.{None}
use Rattle.model_graphs.specs.Windows.{IsWholeWindow, Window, tiles_of, window_image}
use Rattle.op_contracts.proofs.Shown.{found-long}
use Rattle.patch_abyss.proofs.TilesOfPatches.{raw-part}
use Rattle.op_contracts.specs.PartBytes.{AreRawBytesOf}

length-raw : (image : Image) (r : Rectangle) → length (raw image r) ≡ byte_count r image.format
length-raw image r = ap length (sym (raw_with-none image r)) ∙ length-raw_with image None r

raw-are : (image : Image) (r : Rectangle) → AreRawBytesOf image r (raw image r)
raw-are image r = record { whole = length-raw image r; samples = raw-samples image r }

-- a copy of a part has the image's raw bytes over it
pub cut-are : (image patch : Image) (r : Rectangle) → patch ≡ cut image r → AreRawBytesOf image r (raw patch patch.box)
cut-are image patch r is =
    subst (AreRawBytesOf image r) (sym (ap (λ (p : Image). raw p p.box) is ∙ raw-part image r)) (raw-are image r)

-- a tile of a window has the raw bytes of what the window shows there, if it is in the input's box
pub tile-are : (window : Window) (rect : Rectangle) (tile : Tile) (bytes : List ℕ) → IsWholeWindow window → rect ≡ tile_square tile → Includes window.bounds rect
    → tiles_of window tile ≡ Some bytes → AreRawBytesOf (window_image window) rect bytes
tile-are window rect tile bytes whole is inside found =
    let within : Includes window.bounds (tile_square tile) = subst (Includes window.bounds) is inside in
    subst (λ (r : Rectangle). AreRawBytesOf (window_image window) r bytes) (sym is)
    (record {
      whole = found-long window.format tile window.tiles bytes whole.lengths found;
      samples = λ u v c there known.
          sym
          (at-image_from_fn window.bounds window.format (held_pixels window.format (tiles_of window)) u v c (within u v there) known
          ∙ pixel-held window.format (tiles_of window) tile bytes u v c found there);
    })
