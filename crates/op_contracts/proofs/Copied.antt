-- Tiles of an operation that copies an input.
use Rattle.std.proofs.Common.{◌≡◌, ℕ, ◌*◌, ◌<◌, ◌≤◌, List, length, Option, Some, None, option_map, refl, sym, ap, ◌∙◌, subst}
use Rattle.std.specs.Prelude.{IsSome, slice_get, unwrap_or}
use Rattle.std.proofs.lemmas.Option.{slice_get-map}
use Rattle.plane_rect.specs.Rectangle.{Includes, Inside, Rectangle}
use Rattle.plane_rect.specs.Tile.{Tile, tile_square}
use Rattle.pixel_formats.specs.Format.{channels, max_sample, pixel_bytes}
use Rattle.pixel_formats.specs.declared.format.Format.{Format}
use Rattle.pixel_formats.specs.declared.format.Format.TheVariants.{Y8}
use Rattle.pixel_formats.proofs.FormatLaws.{sample_within}
use Rattle.model_images.specs.FromRaw.{AreBytes, pixels_from_raw}
use Rattle.model_images.specs.Image.{Image, at, sample_index}
use Rattle.model_images.specs.Paint.{cut}
use Rattle.model_images.specs.Raw.{tile_bytes}
use Rattle.model_images.specs.Tiles.{held_pixels}
use Rattle.model_images.proofs.FromRawLaws.{raw-is}
use Rattle.model_images.proofs.HeldTiles.{pixel-held}
use Rattle.model_images.proofs.Laws.{at-image_from_fn}
use Rattle.model_graphs.specs.Meanings.{Meanings, result_box, result_format}
use Rattle.model_graphs.specs.Windows.{Window, tiles_of, window_image}
use Rattle.op_contracts.specs.Applying.{CopiesInput, result_of_windows, window_bounds, window_formats, window_images}
use Rattle.op_contracts.proofs.Applied.{boxes-shown, formats-shown}

-- what an option that has something has, and what stands where it has nothing
pub there-is : {X : Type 0} (o : Option X) (d : X) → IsSome o → o ≡ Some (unwrap_or o d)
there-is (Some x) d is = refl
there-is None d is = absurd (cc is)

module _ {Op : Type 0} (meanings : Meanings Op) (operation : Op) (windows : List Window) (input : ℕ) (window : Window) (there : slice_get windows input ≡ Some window)
    (tile : Tile) (copies : CopiesInput meanings operation (window_bounds windows) (tile_square tile) input)
    (format : IsSome (meanings.format operation (window_formats windows)))
    (bytes : List ℕ) (held : tiles_of window tile ≡ Some bytes) (whole : length bytes ≡ 4096 * pixel_bytes window.format) (small : AreBytes bytes)
    (inside : Includes (result_box meanings operation (window_bounds windows)) (tile_square tile)) where
  abbrev result : Image
  result = result_of_windows meanings operation windows

  same-format : window.format ≡ result.format
  same-format =
      let found = copies.format (window_formats windows) _ (there-is _ Y8 format) in
      let its : slice_get (window_formats windows) input ≡ Some window.format = slice_get-map (λ (w : Window). w.format) windows input ∙ ap (option_map (λ (w : Window). w.format)) there in
      let shown : result.format ≡ result_format meanings operation (window_formats windows) = ap (result_format meanings operation) (formats-shown windows) in
      cc

  in-box : (u v : ℕ) → Inside u v (tile_square tile) → Inside u v result.box
  in-box u v here = subst (λ (boxes : List Rectangle). Inside u v (result_box meanings operation boxes)) (sym (boxes-shown windows)) (inside u v here)

  in-window : (u v : ℕ) → Inside u v (tile_square tile) → Inside u v window.bounds
  in-window u v =
      copies.inside window.bounds (slice_get-map (λ (w : Window). w.bounds) windows input ∙ ap (option_map (λ (w : Window). w.bounds)) there) u v

  -- what the window shows there
  shown-pixel : (u v c : ℕ) → Inside u v (tile_square tile) → c < channels window.format
      → at (window_image window) u v c ≡ pixels_from_raw (tile_square tile) window.format bytes u v c
  shown-pixel u v c here known =
      at-image_from_fn window.bounds window.format (held_pixels window.format (tiles_of window)) u v c (in-window u v here) known
      ∙ pixel-held window.format (tiles_of window) tile bytes u v c held here

  pixel : (u v c : ℕ) → Inside u v (tile_square tile) → c < channels window.format → at result u v c ≡ pixels_from_raw (tile_square tile) window.format bytes u v c
  pixel u v c here known =
      let shown = shown-pixel u v c here known in
      let most : at (window_image window) u v c ≤ max_sample window.format =
      subst (λ n. n ≤ max_sample window.format) (sym shown) (sample_within window.format bytes (sample_index (tile_square tile) (channels window.format) u v c) small) in
      at-image_from_fn result.box result.format (meanings.value operation (window_images windows)) u v c (in-box u v here)
      (subst (λ (f : Format). c < channels f) same-format known)
      ∙ copies.samples (window_images windows) (boxes-shown windows) (subst (λ (formats : List Format). IsSome (meanings.format operation formats)) (sym (formats-shown windows)) format)
      (window_image window) (slice_get-map window_image windows input ∙ ap (option_map window_image) there) u v c here known most
      ∙ shown

  pub copied-tile : tile_bytes (cut result (tile_square tile)) tile ≡ bytes
  copied-tile =
      raw-is (cut result (tile_square tile)) (tile_square tile) bytes small (subst (λ (f : Format). length bytes ≡ 4096 * pixel_bytes f) same-format whole)
      (λ u v c here known.
      at-image_from_fn (tile_square tile) result.format (at result) u v c here known
      ∙ pixel u v c here (subst (λ (f : Format). c < channels f) (sym same-format) known)
      ∙ ap (λ (f : Format). pixels_from_raw (tile_square tile) f bytes u v c) same-format)
