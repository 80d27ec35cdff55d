-- Rectangles of images as rows of tiles.
use Rattle.std.proofs.Common.{◌≡◌, ℕ, zero, suc, ◌+◌, ◌*◌, ◌-◌, ◌/◌, ◌<◌, ◌≤◌, ◌⊎◌, inl, inr, Bool, true, false, cond, List, [], ◌∷◌, ◌++◌, All, length, length-append, Some, refl, sym, ap, ◌∙◌, subst, arith}
use Rattle.std.specs.Prelude.{◌==◌, ◌||◌, max, min, slice_get}
use Rattle.std.proofs.Math.Nat.{mul-le-mul}
use Rattle.std.proofs.lemmas.List.Elements.{All-push}
use Rattle.std.proofs.lemmas.Option.{get_or_from_slice_get, same_Some, slice_get-get_or, slice_get_within}
use Rattle.plane_rect.specs.Rectangle.{Includes, InLimits, Inside, IsRectangle, Rectangle, empty, end_column, end_row, meet, plane_side, spanning}
use Rattle.plane_rect.specs.Tile.{IsWhole, Tile, tile_at, tile_of, strip_rectangles, tile_line}
use Rattle.plane_rect.proofs.Rectangles.{Inside-meet}
use Rattle.pixel_formats.specs.Format.{pixel_bytes}
use Rattle.pixel_formats.specs.declared.format.Format.{Format}
use Rattle.model_images.specs.Image.{Image, IsImage, at, image_from_fn}
use Rattle.model_images.specs.Paint.{cut}
use Rattle.model_images.proofs.Laws.{generated_equal, image_from_fn-at}
use Rattle.op_contracts.specs.TileList.{HasLength}
use Rattle.strip_patches.specs.Bands.{HasBands}
use Rattle.strip_patches.specs.Pictures.{AreTilesOver, HasRows, IsTiled, TiledRect}
use Rattle.strip_patches.proofs.Adding.{length-strips, strip-is}

-- a row of tiles
abbrev Row : Type 0
Row = List (Tile × List ℕ)

-- rows of tiles, of a rectangle and a format
abbrev tiled_of : Rectangle → Format → List Row → TiledRect
tiled_of rect format rows = record { rect = rect; format = format; rows = rows }

-- ---- strips

pub strip-at : (s : Rectangle) (k : ℕ) → k < length (strip_rectangles s)
    → slice_get (strip_rectangles s) k ≡ Some (meet s (tile_line (tile_of s.first_row + k)))
strip-at s k below =
    let found = slice_get-get_or (strip_rectangles s) k empty below in
    found ∙ ap Some (sym (strip-is s k _ found))

strip-inside : (s strip : Rectangle) (k u v : ℕ) → slice_get (strip_rectangles s) k ≡ Some strip → Inside u v strip → Inside u v s
strip-inside s strip k u v found there =
    ((Inside-meet u v s (tile_line (tile_of s.first_row + k))).0 (subst (λ (r : Rectangle). Inside u v r) (sym (strip-is s k strip found)) there)).0

-- a band ends in the plane
pub band-in_plane : (s : Rectangle) (k : ℕ) → IsRectangle s → k < length (strip_rectangles s) → 64 * (tile_of s.first_row + k) + 64 ≤ plane_side
band-in_plane s k is below = omega (arith, is.rows, below, length-strips s)

pub line-spanned : (row k : ℕ) → spanning 0 ((row / 64 + k) * 64) plane_side ((row / 64 + k) * 64 + 64) ≡ tile_line (tile_of row + k)
line-spanned row k =
    let height : (row / 64 + k) * 64 + 64 - (row / 64 + k) * 64 ≡ 64 = omega arith in
    let first_row : (row / 64 + k) * 64 ≡ 64 * (row / 64 + k) = omega arith in
    rw (height, first_row) refl

limits-if : (b : Bool) (a r : Rectangle) → r.width ≤ a.width → r.height ≤ a.height → InLimits a → InLimits (cond b empty r)
limits-if true a r narrow low small = (omega arith, omega arith, omega arith)
limits-if false a r narrow low small = (omega (arith, narrow, small.0), omega (arith, low, small.1), omega (arith, mul-le-mul narrow low, small.2))

-- what is in a rectangle in limits is in limits
pub limits-meet : (a b : Rectangle) → InLimits a → InLimits (meet a b)
limits-meet a b small =
    let left = max a.first_column b.first_column in
    let top = max a.first_row b.first_row in
    let r : Rectangle = record {
      first_column = left;
      first_row = top;
      width = min (end_column a) (end_column b) - left;
      height = min (end_row a) (end_row b) - top;
    } in
    let narrow : r.width ≤ a.width = omega arith in
    let low : r.height ≤ a.height = omega arith in
    limits-if (r.width == 0 || r.height == 0) a r narrow low small

-- ---- rows that are added

-- a member of a list to which one more is added
member-cases : {X : Type 0} (xs : List X) (y : X) (j : ℕ) (x : X) → slice_get (xs ++ y ∷ []) j ≡ Some x
    → (slice_get xs j ≡ Some x) ⊎ ((j ≡ length xs) × (x ≡ y))
member-cases [] y zero x e = inr (refl, sym (same_Some y x e))
member-cases [] y (suc j) x e = absurd (cc e)
member-cases (z ∷ zs) y zero x e = inl e
member-cases (z ∷ zs) y (suc j) x e = elim (member-cases zs y j x e) [
  | inl found ↦ inl found
  | inr last ↦ inr (omega (arith, last.0), last.1)
]

pub tiled-more : (rect : Rectangle) (format : Format) (rows new : List Row) (row : Row) → new ≡ rows ++ row ∷ []
    → IsTiled (tiled_of rect format rows) → All (λ (entry : Tile × List ℕ). IsWhole entry.0) row → All (HasLength (4096 * pixel_bytes format)) row
    → IsTiled (tiled_of rect format new)
tiled-more rect format rows new row is tiled whole long = rw is record {
  rectangle = tiled.rectangle;
  limits = tiled.limits;
  in_plane = All-push (λ (row : Row). All (λ (entry : Tile × List ℕ). IsWhole entry.0) row) rows row tiled.in_plane whole;
  lengths = All-push (λ (row : Row). All (HasLength (4096 * pixel_bytes format)) row) rows row tiled.lengths long;
}

pub no-rows : (image : Image) (tiled : TiledRect) → tiled.rows ≡ [] → IsRectangle image.box → tiled.format ≡ image.format → Includes image.box tiled.rect
    → HasRows image 0 tiled
no-rows image tiled none rectangle same inside = record {
  rectangle = rectangle;
  format = same;
  inside = inside;
  count_is = ap length none;
  each = λ k row strip found strip_found.
      absurd (cc (subst (λ (rows : List Row). slice_get rows k ≡ Some row) none found));
}

-- tiles of what the image has of a strip in its box are those of the strip
tiles-whole_strip : (image : Image) (rect strip box : Rectangle) (k : ℕ) (row : Row) → Includes image.box rect
    → slice_get (strip_rectangles rect) k ≡ Some strip → box ≡ image.box → AreTilesOver image (meet strip box) row → AreTilesOver image strip row
tiles-whole_strip image rect strip box k row inside found same over = record {
  tiles = over.tiles;
  all = λ tile met.
      let here : Inside met.0 met.1 box =
      subst (λ (r : Rectangle). Inside met.0 met.1 r) (sym same) (inside met.0 met.1 (strip-inside rect strip k met.0 met.1 found met.2)) in
      over.all tile (met.0, met.1, (Inside-meet met.0 met.1 strip box).1 (met.2, here), met.3);
}

-- the tiles of the next row are added
pub row-added : (image : Image) (k : ℕ) (strip box : Rectangle) (old new : TiledRect) (row : Row) → new.rect ≡ old.rect → new.format ≡ old.format
    → new.rows ≡ old.rows ++ row ∷ [] → HasRows image k old → slice_get (strip_rectangles old.rect) k ≡ Some strip → box ≡ image.box
    → AreTilesOver image (meet strip box) row → HasRows image (k + 1) new
row-added image k strip box old new row same_rect same_format is has found same over = record {
  rectangle = has.rectangle;
  format = same_format ∙ has.format;
  inside = subst (λ (r : Rectangle). Includes image.box r) (sym same_rect) has.inside;
  count_is = ap length is ∙ omega (arith, length-append old.rows (row ∷ []), has.count_is);
  each = λ j added at_strip row_found strip_found.
      of j added at_strip
      (subst (λ (rows : List Row). slice_get rows j ≡ Some added) is row_found)
      (subst (λ (r : Rectangle). slice_get (strip_rectangles r) j ≡ Some at_strip) same_rect strip_found);
}
  where
    of : (j : ℕ) (added : Row) (at_strip : Rectangle) → slice_get (old.rows ++ row ∷ []) j ≡ Some added → slice_get (strip_rectangles old.rect) j ≡ Some at_strip
        → AreTilesOver image at_strip added
    of j added at_strip row_found strip_found = elim (member-cases old.rows row j added row_found) [
      | inl old_one ↦ has.each j added at_strip old_one strip_found
      | inr last ↦
          let position : j ≡ k = omega (arith, last.0, has.count_is) in
          let one : strip ≡ at_strip = same_Some strip at_strip (sym found ∙ ap (slice_get (strip_rectangles old.rect)) (sym position) ∙ strip_found) in
          subst (λ (r : Rectangle). AreTilesOver image r added) one
          (subst (AreTilesOver image strip) (sym last.1) (tiles-whole_strip image old.rect strip box k row has.inside found same over))
    ]

-- ---- bands

-- a patch over a strip into which all its tiles are put shows the image
pub band-shown : (image old new : Image) (strip : Rectangle) (row : Row) → IsImage new → new.box ≡ strip → new.format ≡ image.format
    → AreTilesOver image strip row → HasBands image old row 8 new → new ≡ cut image new.box
band-shown image old new strip row whole box format over has =
    sym (image_from_fn-at new whole)
    ∙ generated_equal new.box new.format (at new) (at image)
    (λ u v c there known. elim (has.samples u v c there known) [
      | inl same ↦ same
      | inr kept ↦ absurd (kept.1 (omega arith) (over.all (tile_at u v) (u, v, subst (λ (r : Rectangle). Inside u v r) box there, refl)))
    ])
    ∙ ap (λ (f : Format). image_from_fn new.box f (at image)) format

-- what holds of the row at a position
pub row-has : {X : Type 0} (P : X → Type 0) (rows : List X) (k : ℕ) (row : X) → All P rows → slice_get rows k ≡ Some row → P row
row-has P rows k row all found =
    subst P (get_or_from_slice_get rows k row row found) (all k row (slice_get_within rows k row found))
