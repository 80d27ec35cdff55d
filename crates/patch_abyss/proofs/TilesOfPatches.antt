-- Tiles of patches. A tile that begins after the plane has no position there.
use Rattle.std.proofs.Common.{◌≡◌, ℕ, ◌*◌, ◌<◌, ◌↔◌, true, false, cond, List, replicate, refl, sym, ap, ◌∙◌, arith}
use Rattle.std.proofs.lemmas.Simd.{length-replicate}
use Rattle.plane_rect.specs.Rectangle.{Rectangle, IsRectangle, Includes, Inside, empty, is_empty}
use Rattle.plane_rect.specs.Tile.{Tile, IsWhole, plane, tile_at, tile_square}
use Rattle.plane_rect.proofs.TileLists.{Inside-tile_square}
use Rattle.pixel_formats.specs.Format.{channels, depth, pixel_bytes}
use Rattle.pixel_formats.specs.declared.format.Format.{Format}
use Rattle.std.specs.List.{flat_map}
use Rattle.std.proofs.lemmas.Bool.Decides.{nat_tests}
use Rattle.model_images.specs.Image.{Image, at, image_from_fn, is_inside}
use Rattle.model_images.specs.Paint.{painted, put_raw}
use Rattle.model_images.specs.Raw.{raw, sample_bytes, tile_bytes}
use Rattle.model_images.proofs.Samples.{Inside_from}
use Rattle.model_images.proofs.Laws.{at_outside, at-image_from_fn, generated_equal, sampled_equal}
use Rattle.model_images.specs.FromRaw.{image_from_raw, pixels_from_raw}
use Rattle.model_images.proofs.FromRawLaws.{raw-is, at-image_from_raw, zeros_are_bytes}
use Rattle.patch_abyss.proofs.Parts.{pixels_zero}

-- the positions of the plane that are in a tile
abbrev pub HasTilePixels : Rectangle → Tile → Type 0
HasTilePixels r t = (u v : ℕ) → Inside u v r ↔ (Inside u v plane × (t ≡ tile_at u v))

-- a tile with a position begins in the plane
pub whole_tile : (r : Rectangle) (t : Tile) → HasTilePixels r t → 0 < r.width → 0 < r.height → IsWhole t
whole_tile r t positions wide high =
    let first : Inside r.first_column r.first_row r = record { column = (omega arith, omega arith); row = (omega arith, omega arith) } in
    let h = (positions r.first_column r.first_row).0 first in
    let column = ap (λ (t : Tile). t.column) h.1 in
    let row = ap (λ (t : Tile). t.row) h.1 in
    (omega (arith, column, h.0.column), omega (arith, row, h.0.row))

-- a tile has no position of a rectangle of the plane where what it has of the plane has none
pub no_common_position : (r box : Rectangle) (t : Tile) → HasTilePixels r t → IsRectangle box → ((u v : ℕ) → Inside u v r → Inside u v box → ⊥) →
    (u v : ℕ) → Inside u v (tile_square t) → Inside u v box → ⊥
no_common_position r box t positions is apart u v there inside =
    let on_plane : Inside u v plane = record { column = (omega arith, omega (arith, inside.column, is.columns)); row = (omega arith, omega (arith, inside.row, is.rows)) } in
    apart u v ((positions u v).1 (on_plane, (Inside-tile_square u v t).0 there)) inside

-- a tile without a position has none of a rectangle of the plane
pub no_tile_pixel : (r box : Rectangle) (t : Tile) → HasTilePixels r t → r ≡ empty → IsRectangle box → (u v : ℕ) → Inside u v (tile_square t) → Inside u v box → ⊥
no_tile_pixel r box t positions none is =
    no_common_position r box t positions is
    (λ u v there inside. omega (arith, there.column, ap (λ (r : Rectangle). r.width) none, ap (λ (r : Rectangle). r.first_column) none))

pub zero_tile : (image : Image) (t : Tile) → ((u v : ℕ) → Inside u v (tile_square t) → Inside u v image.box → ⊥) → tile_bytes image t ≡ replicate (4096 * pixel_bytes image.format) 0
zero_tile image t out =
    let n = 4096 * pixel_bytes image.format in
    raw-is image (tile_square t) (replicate n 0) (zeros_are_bytes n) (length-replicate {A = ℕ} n 0)
    (λ u v c there known. at_outside image u v c (out u v there) ∙ sym (pixels_zero (tile_square t) image.format n u v c))

-- what is put where an image has no position changes nothing
pub put_nowhere : (box : Rectangle) (format : Format) (old : List ℕ) (r : Rectangle) (bytes : List ℕ) → ((u v : ℕ) → Inside u v r → Inside u v box → ⊥) →
    image_from_raw box format old ≡ put_raw (image_from_raw box format old) r bytes
put_nowhere box format old r bytes out =
    let f : ℕ → ℕ → ℕ → ℕ = λ u v c. cond (is_inside u v r) (pixels_from_raw r format bytes u v c) (at (image_from_raw box format old) u v c) in
    generated_equal box format (pixels_from_raw box format old) f
    (λ u v c there known.
    elim (is_inside u v r) as (λ b. is_inside u v r ≡ b → pixels_from_raw box format old u v c ≡ cond b (pixels_from_raw r format bytes u v c) (at (image_from_raw box format old) u v c)) [
      | true ↦ λ e. absurd (out u v (Inside_from u v r e) there)
      | false ↦ λ e. sym (at-image_from_raw box format old u v c there known)
    ] refl)

-- what the raw bytes of a rectangle have is put where the rectangle has positions
pub put_from_raw : (image : Image) (r : Rectangle) (bytes : List ℕ) → painted image r (at (image_from_raw r image.format bytes)) ≡ put_raw image r bytes
put_from_raw image r bytes =
    let f : ℕ → ℕ → ℕ → ℕ = λ u v c. cond (is_inside u v r) (at (image_from_raw r image.format bytes) u v c) (at image u v c) in
    let g : ℕ → ℕ → ℕ → ℕ = λ u v c. cond (is_inside u v r) (pixels_from_raw r image.format bytes u v c) (at image u v c) in
    generated_equal image.box image.format f g
    (λ u v c there known.
    elim (is_inside u v r) as (λ b. is_inside u v r ≡ b → cond b (at (image_from_raw r image.format bytes) u v c) (at image u v c) ≡ cond b (pixels_from_raw r image.format bytes u v c) (at image u v c)) [
      | true ↦ λ e. at-image_from_raw r image.format bytes u v c (Inside_from u v r e) known
      | false ↦ λ e. refl
    ] refl)

pub some_positions : (r : Rectangle) → false ≡ is_empty r → (0 < r.width) × (0 < r.height)
some_positions r some = (grind (arith, nat_tests), grind (arith, nat_tests))

pub raw-part : (image : Image) (r : Rectangle) → raw (image_from_fn r image.format (at image)) r ≡ raw image r
unfolding raw
raw-part image r =
    ap (flat_map (sample_bytes (depth image.format)))
    (sampled_equal r (channels image.format) (at (image_from_fn r image.format (at image))) (at image) (at-image_from_fn r image.format (at image)))

-- a tile of whose part of the plane some positions are met begins in the plane
pub met_tile : (r part : Rectangle) (t : Tile) → HasTilePixels r t → Includes r part → false ≡ is_empty part → IsWhole t
met_tile r part t positions inside some =
    let sides = some_positions part some in
    let first = inside part.first_column part.first_row (record { column = (omega arith, omega (arith, sides.0)); row = (omega arith, omega (arith, sides.1)) }) in
    whole_tile r t positions (omega (arith, first.column)) (omega (arith, first.row))
