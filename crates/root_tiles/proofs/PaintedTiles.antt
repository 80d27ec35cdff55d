-- Tiles once something is written over a rectangle.
use Rattle.std.proofs.Common.{◌≡◌, ℕ, ◌-◌, ◌*◌, ◌<◌, ◌≤◌, ◌==◌, ◌||◌, max, min, List, replicate, Option, Some, None, Bool, true, false, cond, refl, sym, ap, ◌∙◌, arith}
use Rattle.std.proofs.lemmas.Nat.{mul-le}
use Rattle.std.specs.Prelude.{IfSome}
use Rattle.plane_rect.specs.Rectangle.{Inside, Rectangle, area, empty, end_column, end_row, meet}
use Rattle.plane_rect.specs.Tile.{Tile, tile_square}
use Rattle.plane_rect.proofs.TileLists.{Inside-tile_square}
use Rattle.pixel_formats.specs.Format.{channels, pixel_bytes}
use Rattle.pixel_formats.specs.declared.format.Format.{Format}
use Rattle.model_images.specs.FromRaw.{image_from_raw, pixels_from_raw}
use Rattle.model_images.specs.Image.{Image, at, is_inside}
use Rattle.model_images.specs.Paint.{put_raw}
use Rattle.model_images.specs.Tiles.{AreZeroAround, AreZeroOutside, HeldTiles, held_pixels, tile_or_zeros}
use Rattle.model_images.proofs.FromRawLaws.{at-image_from_raw}
use Rattle.model_images.proofs.HeldTiles.{pixel-held}
use Rattle.model_images.proofs.Laws.{at-image_from_fn}
use Rattle.model_images.proofs.Positions.{not_inside}
use Rattle.model_images.proofs.Samples.{Inside_from, inside_where}
use Rattle.patch_abyss.proofs.Parts.{pixels_zero}
use Rattle.root_tiles.specs.Paints.{IsPainted, Paints}
use Rattle.root_tiles.proofs.Blitting.{pixel-lacking}

-- bytes have the samples of a tile as it is held, outside a rectangle
pub record IsStart (format : Format) (held : HeldTiles) (r : Rectangle) (t : Tile) (bytes : List ℕ) : Type 0 where
  pub pixels : (u v c : ℕ) → Inside u v (tile_square t) → ¬ Inside u v r → c < channels format
      → pixels_from_raw (tile_square t) format bytes u v c ≡ held_pixels format held u v c

-- the bytes that are held, or zeros where none are
pub start-held : (format : Format) (held : HeldTiles) (r : Rectangle) (t : Tile) (bytes : List ℕ) → bytes ≡ tile_or_zeros format held t → IsStart format held r t bytes
start-held format held r t bytes is = record {
  pixels = λ u v c there out known.
      ap (λ (b : List ℕ). pixels_from_raw (tile_square t) format b u v c) is ∙ of (held t) refl u v c there;
}
  where
    of : (found : Option (List ℕ)) → held t ≡ found → (u v c : ℕ) → Inside u v (tile_square t)
        → pixels_from_raw (tile_square t) format (tile_or_zeros format held t) u v c ≡ held_pixels format held u v c
    of (Some there) e u v c inside =
        rw e (sym (pixel-held format held t there u v c e inside))
    of None e u v c inside =
        rw e (pixels_zero (tile_square t) format (4096 * pixel_bytes format) u v c ∙ sym (pixel-lacking format held t u v c e ((Inside-tile_square u v t).0 inside)))

-- zeros, where all that the tile has of the box is in the rectangle
pub start-zeros : (format : Format) (held : HeldTiles) (box r : Rectangle) (t : Tile) (bytes : List ℕ) (n : ℕ) → bytes ≡ replicate n 0
    → AreZeroAround box format held → ((u v : ℕ) → Inside u v (tile_square t) → Inside u v box → Inside u v r) → IsStart format held r t bytes
start-zeros format held box r t bytes n is around covered = record {
  pixels = λ u v c there out known.
      ap (λ (b : List ℕ). pixels_from_raw (tile_square t) format b u v c) is
      ∙ pixels_zero (tile_square t) format n u v c
      ∙ sym (of (held t) refl (around t) u v c there (λ inside. out (covered u v there inside)) known);
}
  where
    of : (found : Option (List ℕ)) → held t ≡ found → IfSome found (AreZeroOutside box format t) → (u v c : ℕ) → Inside u v (tile_square t) → ¬ Inside u v box
        → c < channels format → held_pixels format held u v c ≡ 0
    of (Some there) e zero u v c inside out known = pixel-held format held t there u v c e inside ∙ zero u v c inside out known
    of None e zero u v c inside out known = pixel-lacking format held t u v c e ((Inside-tile_square u v t).0 inside)

-- what is painted over such bytes
pub painted-is : (format : Format) (held : HeldTiles) (r part between : Rectangle) (t : Tile) (f : ℕ → ℕ → ℕ → ℕ) (piece start bytes : List ℕ)
    → Paints format r part f between piece → ((u v : ℕ) → Inside u v r → Inside u v (tile_square t) → Inside u v part)
    → image_from_raw (tile_square t) format bytes ≡ put_raw (image_from_raw (tile_square t) format start) between piece
    → IsStart format held r t start → IsPainted format held r f t bytes
painted-is format held r part between t f piece start bytes paints meeting is begun u v c there known =
    sym (at-image_from_raw square format bytes u v c there known)
    ∙ ap (λ (image : Image). at image u v c) is
    ∙ at-image_from_fn square format put u v c there known
    ∙ of (is_inside u v between) refl
  where
    square : Rectangle
    square = tile_square t

    old : Image
    old = image_from_raw square format start

    put : ℕ → ℕ → ℕ → ℕ
    put u v c = cond (is_inside u v between) (pixels_from_raw between format piece u v c) (at old u v c)

    of : (b : Bool) → is_inside u v between ≡ b
        → put u v c ≡ cond (is_inside u v r) (f u v c) (held_pixels format held u v c)
    of true e =
        let inside = Inside_from u v between e in
        let in_r : is_inside u v r ≡ true = inside_where u v r (paints.within u v inside) in
        rw (e, in_r) (paints.pixels u v c inside known)
    of false e =
        let out : ¬ Inside u v r = λ inside. absurd (cc (sym e ∙ inside_where u v between (paints.covers u v (meeting u v inside there)))) in
        let not_r : is_inside u v r ≡ false = not_inside u v r out in
        rw (e, not_r) (at-image_from_raw square format start u v c there known ∙ begun.pixels u v c there out known)

few-if : (b : Bool) (r : Rectangle) → area r ≤ 4096 → area (cond b empty r) ≤ 4096
few-if true r few = omega arith
few-if false r few = few

-- a part of a tile has no more positions than it
pub few-in_square : (r : Rectangle) (t : Tile) → area (meet r (tile_square t)) ≤ 4096
few-in_square r t =
    let square = tile_square t in
    let first_column = max r.first_column square.first_column in
    let first_row = max r.first_row square.first_row in
    let width = min (end_column r) (end_column square) - first_column in
    let height = min (end_row r) (end_row square) - first_row in
    let columns : width ≤ 64 = omega arith in
    let rows : height ≤ 64 = omega arith in
    few-if (width == 0 || height == 0) (record { first_column = first_column; first_row = first_row; width = width; height = height })
    (omega (arith, mul-le width height 64 64 columns rows))
