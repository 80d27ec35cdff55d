-- What windows show of their images.
use Rattle.std.proofs.Common.{◌≡◌, ℕ, zero, suc, ◌<◌, List, [], ◌∷◌, map, length, Option, Some, None, refl, sym, ap, ◌∙◌, subst, arith}
use Rattle.std.specs.Prelude.{IsSome, slice_get, slice_index_or}
use Rattle.plane_rect.specs.Rectangle.{Includes, Inside, Rectangle}
use Rattle.plane_rect.specs.Tile.{Meets, Tile, tile_at, tile_square}
use Rattle.plane_rect.proofs.TileLists.{Inside-tile_square}
use Rattle.pixel_formats.specs.Format.{channels}
use Rattle.model_images.specs.FromRaw.{pixels_from_raw}
use Rattle.model_images.specs.Image.{Image, at}
use Rattle.model_images.specs.Paint.{no_image}
use Rattle.model_images.specs.Raw.{tile_bytes}
use Rattle.model_images.specs.Tiles.{HeldTiles, held_image, held_pixels}
use Rattle.model_images.proofs.Agreeing.{at-by_channels}
use Rattle.model_images.proofs.HeldTiles.{pixel-held}
use Rattle.model_images.proofs.Laws.{at-image_from_fn, at_outside}
use Rattle.model_images.proofs.Positions.{by_positions}
use Rattle.model_images.proofs.RawLaws.{raw-samples}
use Rattle.model_images.specs.Agreement.{AgreeOver}
use Rattle.model_graphs.specs.Laws.{IsLocal}
use Rattle.model_graphs.specs.Meanings.{Meanings, boxes_of, result_box, result_of}
use Rattle.model_graphs.specs.Windows.{AreWindowsOf, IsWholeWindow, IsWindowOf, Window, tiles_of, window_image}

module _ (image : Image) (held : HeldTiles) (need : Rectangle) (complete : (tile : Tile) → Meets tile need → IsSome (held tile))
    (its : (tile : Tile) (bytes : List ℕ) → held tile ≡ Some bytes → bytes ≡ tile_bytes image tile) where
  abbrev shown : Image
  shown = held_image image.box image.format held

  -- a position of the box in a tile that is held
  pixel-shown : (u v c : ℕ) → Inside u v image.box → c < channels image.format → (o : Option (List ℕ)) → IsSome o → held (tile_at u v) ≡ o
      → at shown u v c ≡ at image u v c
  pixel-shown u v c inside known (Some bytes) some e =
      let tile = tile_at u v in
      let there : Inside u v (tile_square tile) = (Inside-tile_square u v tile).1 refl in
      at-image_from_fn image.box image.format (held_pixels image.format held) u v c inside known
      ∙ pixel-held image.format held tile bytes u v c e there
      ∙ ap (λ (b : List ℕ). pixels_from_raw (tile_square tile) image.format b u v c) (its tile bytes e)
      ∙ raw-samples image (tile_square tile) u v c there known
  pixel-shown u v c inside known None none e = grind (arith, none)

  pub held-shows : AgreeOver shown image need
  held-shows u v c there =
      by_positions (at shown u v c ≡ at image u v c) u v image.box
      (λ inside. at-by_channels shown image u v c refl
      (λ known. pixel-shown u v c inside known (held (tile_at u v)) (complete (tile_at u v) (u, v, there, refl)) refl))
      (λ outside. at_outside shown u v c outside ∙ sym (at_outside image u v c outside))

-- over its need, a whole window shows the image that it is of
pub window-shows : (image : Image) (window : Window) → IsWindowOf image window → IsWholeWindow window → AgreeOver (window_image window) image window.need
window-shows image window is whole =
    rw (is.bounds, is.format) (held-shows image (tiles_of window) window.need whole.complete is.tiles)

-- ---- results of windows

-- each window is of the image of the same number
abbrev AreTheirs : List Image → List Window → Type 0
AreTheirs images windows =
    (i : ℕ) (image : Image) (window : Window) → slice_get images i ≡ Some image → slice_get windows i ≡ Some window → IsWindowOf image window

-- what windows say alike of their images, they say of all
all_alike : {A : Type 0} (part : Image → A) → ((image : Image) (window : Window) → IsWindowOf image window → part (window_image window) ≡ part image)
    → (images : List Image) (windows : List Window) → length windows ≡ length images → AreTheirs images windows
    → map part (map window_image windows) ≡ map part images
all_alike part alike [] [] count theirs = refl
all_alike part alike [] (window ∷ windows) count theirs = absurd (omega (arith, count))
all_alike part alike (image ∷ images) [] count theirs = absurd (omega (arith, count))
all_alike {A} part alike (image ∷ images) (window ∷ windows) count theirs =
    ap (λ (first : A). first ∷ map part (map window_image windows)) (alike image window (theirs 0 image window refl refl))
    ∙ ap (λ (rest : List A). part image ∷ rest) (all_alike part alike images windows (omega (arith, count)) (λ i. theirs (suc i)))

-- the image and the window of a number
record Numbered (images : List Image) (windows : List Window) (i : ℕ) : Type 0 where
  image : Image
  window : Window
  image_there : slice_get images i ≡ Some image
  window_there : slice_get windows i ≡ Some window
  shown : slice_index_or (map window_image windows) i no_image ≡ window_image window
  own : slice_index_or images i no_image ≡ image

numbered : (images : List Image) (windows : List Window) (i : ℕ) → length windows ≡ length images → i < length (map window_image windows)
    → Numbered images windows i
numbered [] [] i count below = absurd (omega (arith, below))
numbered [] (window ∷ windows) i count below = absurd (omega (arith, count))
numbered (image ∷ images) [] i count below = absurd (omega (arith, count))
numbered (image ∷ images) (window ∷ windows) zero count below =
    record { image = image; window = window; image_there = refl; window_there = refl; shown = refl; own = refl }
numbered (image ∷ images) (window ∷ windows) (suc i) count below =
    let rest = numbered images windows i (omega (arith, count)) (omega (arith, below)) in
    record {
      image = rest.image;
      window = rest.window;
      image_there = rest.image_there;
      window_there = rest.window_there;
      shown = rest.shown;
      own = rest.own;
    }

pub windows-give : {Op : Type 0} (meanings : Meanings Op) (operation : Op) (images : List Image) (windows : List Window) (part : Rectangle) → IsLocal meanings
    → Includes (result_box meanings operation (boxes_of images)) part → AreWindowsOf meanings operation images windows part
    → AgreeOver (result_of meanings operation (map window_image windows)) (result_of meanings operation images) part
windows-give meanings operation images windows part local inside are =
    let theirs : AreTheirs images windows = λ i image window e f. (are.each i image window e f).0 in
    let boxes : boxes_of (map window_image windows) ≡ boxes_of images = all_alike (λ (image : Image). image.box) (λ image window is. is.bounds) images windows are.count theirs in
    local operation (map window_image windows) images part
    (rw boxes inside)
    (record {
      boxes = boxes;
      formats = all_alike (λ (image : Image). image.format) (λ image window is. is.format) images windows are.count theirs;
      samples = λ i below u v c there.
          let at_number = numbered images windows i are.count below in
          let each = are.each i at_number.image at_number.window at_number.image_there at_number.window_there in
          let needed : Inside u v at_number.window.need = each.2 u v (subst (λ (bs : List Rectangle). Inside u v (meanings.required operation bs i part)) boxes there) in
          ap (λ (shown : Image). at shown u v c) at_number.shown
          ∙ window-shows at_number.image at_number.window each.0 each.1 u v c needed
          ∙ sym (ap (λ (own : Image). at own u v c) at_number.own);
    })
