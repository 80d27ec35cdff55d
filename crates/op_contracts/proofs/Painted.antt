-- Images into which the tiles of windows are put.
use Rattle.std.proofs.Common.{◌≡◌, ℕ, ◌+◌, ◌<◌, List, length, get_or, drop, [], ◌∷◌, Bool, true, false, cond, Option, Some, None, refl, sym, ap, ◌∙◌}
use Rattle.std.specs.List.{IsDistinct}
use Rattle.std.specs.Map.{lookup}
use Rattle.std.specs.Option.{option_map_or}
use Rattle.plane_rect.specs.Rectangle.{Includes, Inside, Rectangle}
use Rattle.plane_rect.specs.SameTile.{same_tile-true, same_tile-laws}
use Rattle.plane_rect.specs.Tile.{Tile, same_tile, tile_at, tile_square}
use Rattle.plane_rect.proofs.TileLists.{Inside-tile_square}
use Rattle.pixel_formats.specs.Format.{channels}
use Rattle.pixel_formats.specs.declared.format.Format.{Format}
use Rattle.model_images.specs.FromRaw.{pixels_from_raw}
use Rattle.model_images.specs.Image.{Image, at, image_from_fn, is_inside}
use Rattle.model_images.specs.Paint.{blank, cut, put_raw}
use Rattle.model_images.specs.Tiles.{held_pixels}
use Rattle.model_images.proofs.Agreeing.{at-cut}
use Rattle.model_images.proofs.Laws.{at-image_from_fn, at_outside, generated_equal}
use Rattle.model_images.proofs.Positions.{by_positions}
use Rattle.model_images.proofs.Samples.{Inside_from, inside_where}
use Rattle.model_graphs.specs.Windows.{Window, tiles_of, window_image}
use Rattle.op_contracts.specs.TileList.{tiles_in}
use Rattle.op_contracts.proofs.Distinct.{distinct-first, distinct-rest, entry-first}

-- the image with the samples of these tiles, put in their order
abbrev pub put_tiles : Image → List (Tile × List ℕ) → Image
put_tiles image [] = image
put_tiles image (entry ∷ entries) = put_tiles (put_raw image (tile_square entry.0) entry.1) entries

-- a tile's pixel where it was put, and else another sample
abbrev pixel_or : Format → ℕ → ℕ → ℕ → Option (List ℕ) → ℕ → ℕ
pixel_or format u v c found other = option_map_or (λ bytes. pixels_from_raw (tile_square (tile_at u v)) format bytes u v c) found other

-- what an image has at a position after one tile was put
at-put : (box : Rectangle) (format : Format) (f : ℕ → ℕ → ℕ → ℕ) (entry : Tile × List ℕ) (u v c : ℕ) → Inside u v box → c < channels format
    → (b : Bool) → same_tile (tile_at u v) entry.0 ≡ b
    → cond (is_inside u v (tile_square entry.0)) (pixels_from_raw (tile_square entry.0) format entry.1 u v c) (at (image_from_fn box format f) u v c)
    ≡ pixel_or format u v c (cond b (Some entry.1) None) (f u v c)
at-put box format f entry u v c inside known true e =
    let is : tile_at u v ≡ entry.0 = same_tile-true (tile_at u v) entry.0 e in
    let there : is_inside u v (tile_square entry.0) ≡ true =
    inside_where u v (tile_square entry.0) ((Inside-tile_square u v entry.0).1 (sym is)) in
    rw there (ap (λ (tile : Tile). pixels_from_raw (tile_square tile) format entry.1 u v c) (sym is))
at-put box format f entry u v c inside known false e =
    of (is_inside u v (tile_square entry.0)) refl ∙ at-image_from_fn box format f u v c inside known
  where
    of : (b : Bool) → is_inside u v (tile_square entry.0) ≡ b
        → cond b (pixels_from_raw (tile_square entry.0) format entry.1 u v c) (at (image_from_fn box format f) u v c) ≡ at (image_from_fn box format f) u v c
    of false _ = refl
    of true there =
        let is = (Inside-tile_square u v entry.0).0 (Inside_from u v (tile_square entry.0) there) in
        let itself : same_tile (tile_at u v) entry.0 ≡ true = ap (same_tile (tile_at u v)) is ∙ same_tile-laws.refl (tile_at u v) in
        absurd (cc (sym e ∙ itself))

-- what it has after distinct tiles were put
pub put_tiles-are : (box : Rectangle) (format : Format) (f : ℕ → ℕ → ℕ → ℕ) (entries : List (Tile × List ℕ)) → IsDistinct same_tile (tiles_in entries)
    → put_tiles (image_from_fn box format f) entries
    ≡ image_from_fn box format (λ u v c. pixel_or format u v c (lookup (same_tile (tile_at u v)) entries) (f u v c))
put_tiles-are box format f [] distinct = refl
put_tiles-are box format f (entry ∷ entries) distinct =
    let put : ℕ → ℕ → ℕ → ℕ = λ u v c.
    cond (is_inside u v (tile_square entry.0)) (pixels_from_raw (tile_square entry.0) format entry.1 u v c) (at (image_from_fn box format f) u v c) in
    put_tiles-are box format put entries (distinct-rest entry entries distinct)
    ∙ generated_equal box format
    (λ u v c. pixel_or format u v c (lookup (same_tile (tile_at u v)) entries) (put u v c))
    (λ u v c. pixel_or format u v c (lookup (same_tile (tile_at u v)) (entry ∷ entries)) (f u v c))
    (λ u v c inside known. of u v c inside known (same_tile (tile_at u v) entry.0) refl)
  where
    of : (u v c : ℕ) → Inside u v box → c < channels format → (b : Bool) → same_tile (tile_at u v) entry.0 ≡ b
        → pixel_or format u v c (lookup (same_tile (tile_at u v)) entries)
        (cond (is_inside u v (tile_square entry.0)) (pixels_from_raw (tile_square entry.0) format entry.1 u v c) (at (image_from_fn box format f) u v c))
        ≡ pixel_or format u v c (cond b (Some entry.1) (lookup (same_tile (tile_at u v)) entries)) (f u v c)
    of u v c inside known true e =
        let none : lookup (same_tile (tile_at u v)) entries ≡ None =
        ap (λ (tile : Tile). lookup (same_tile tile) entries) (same_tile-true (tile_at u v) entry.0 e) ∙ distinct-first entry entries distinct in
        rw none (at-put box format f entry u v c inside known true e)
    of u v c inside known false e =
        ap (pixel_or format u v c (lookup (same_tile (tile_at u v)) entries)) (at-put box format f entry u v c inside known false e)

-- the tiles of a window that are put into an image of zeros over a part of its box make what it shows there
pub put_tiles-show : (window : Window) (part : Rectangle) → Includes window.bounds part → IsDistinct same_tile (tiles_in window.tiles)
    → put_tiles (blank part window.format) window.tiles ≡ cut (window_image window) part
put_tiles-show window part inside distinct =
    put_tiles-are part window.format (λ u v c. 0) window.tiles distinct
    ∙ generated_equal part window.format (held_pixels window.format (tiles_of window)) (at (window_image window))
    (λ u v c there known. sym (at-image_from_fn window.bounds window.format (held_pixels window.format (tiles_of window)) u v c (inside u v there) known))

pub put_tiles-next : (image : Image) (entries : List (Tile × List ℕ)) (n : ℕ) (entry : Tile × List ℕ) → n < length entries → entry ≡ get_or entries n entry
    → put_tiles (put_raw image (tile_square entry.0) entry.1) (drop (n + 1) entries) ≡ put_tiles image (drop n entries)
put_tiles-next image entries n entry below is = ap (put_tiles image) (sym (entry-first entries n entry below is))

-- a part of an image by way of its part within the image's box
pub cut-through : (image : Image) (inner rect : Rectangle) → Includes image.box inner
    → ((u v : ℕ) → Inside u v rect → Inside u v image.box → Inside u v inner) → cut (cut image inner) rect ≡ cut image rect
cut-through image inner rect within all =
    generated_equal rect image.format (at (cut image inner)) (at image)
    (λ u v c there known. by_positions _ u v image.box
    (λ inside. at-cut image inner u v c (all u v there inside))
    (λ out. at_outside (cut image inner) u v c (λ inside. out (within u v inside)) ∙ sym (at_outside image u v c out)))
