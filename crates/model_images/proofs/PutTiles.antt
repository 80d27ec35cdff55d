-- The hull of tiles, and the image of put tiles.
use Rattle.std.proofs.Common.{◌≡◌, ℕ, max, min, Bool, true, false, cond, List, [], ◌∷◌, Option, Some, None, Contains, inl, inr, refl, subst, arith}
use Rattle.std.specs.Prelude.{IfSome, IsSome}
use Rattle.plane_rect.specs.Rectangle.{Rectangle, Includes, IsRectangle, end_column, end_row, hull, is_empty, spanning}
use Rattle.plane_rect.specs.Tile.{IsWhole, Tile, plane, tile_rectangle, tile_square}
use Rattle.plane_rect.proofs.Differences.{hull-minimum}
use Rattle.plane_rect.proofs.Lists.{Contains-cases, Contains-first, Contains-later}
use Rattle.plane_rect.proofs.RectangleLaws.{Includes-hull_left, Includes-hull_right, IsRectangle-empty, IsRectangle-spanning}
use Rattle.plane_rect.proofs.Rectangles.{Inside-meet}
use Rattle.pixel_formats.specs.declared.format.Format.{Format}
use Rattle.model_images.specs.Raw.{tile_bytes}
use Rattle.model_images.specs.Tiles.{AreTileBytes, AreZeroAround, AreZeroOutside, HeldTiles, hull_of_tiles, put_image}
use Rattle.model_images.proofs.HeldTiles.{tile-held}

-- from the first columns and rows of two rectangles to their ends
abbrev around : Rectangle → Rectangle → Rectangle
around a b = spanning (min a.first_column b.first_column) (min a.first_row b.first_row) (max (end_column a) (end_column b)) (max (end_row a) (end_row b))

IsRectangle-hull : (a b : Rectangle) → IsRectangle a → IsRectangle b → IsRectangle (hull a b)
IsRectangle-hull a b is_a is_b = cases (is_empty a) (is_empty b)
  where
    cases : (p q : Bool) → IsRectangle (cond p b (cond q a (around a b)))
    cases true q = is_b
    cases false true = is_a
    cases false false =
        IsRectangle-spanning (min a.first_column b.first_column) (min a.first_row b.first_row) (max (end_column a) (end_column b)) (max (end_row a) (end_row b))
        (omega (arith, is_a.columns, is_b.columns)) (omega (arith, is_a.rows, is_b.rows))

tile-is : (tile : Tile) → IsRectangle (tile_rectangle tile)
tile-is tile =
    let square = tile_square tile in
    IsRectangle-spanning (max square.first_column 0) (max square.first_row 0) (min (end_column square) (end_column plane)) (min (end_row square) (end_row plane))
    (omega arith) (omega arith)

pub hull-is : (tiles : List Tile) → IsRectangle (hull_of_tiles tiles)
hull-is [] = IsRectangle-empty
hull-is (tile ∷ tiles) = IsRectangle-hull (tile_rectangle tile) (hull_of_tiles tiles) (tile-is tile) (hull-is tiles)

-- a tile that begins in the plane is there
whole-square : (tile : Tile) → IsWhole tile → Includes (tile_rectangle tile) (tile_square tile)
whole-square tile whole u v h =
    (Inside-meet u v (tile_square tile) plane).1 (h, record { column = (omega arith, omega (arith, h.column, whole.0)); row = (omega arith, omega (arith, h.row, whole.1)) })

pub hull-contains : (tiles : List Tile) (tile : Tile) → Contains tiles tile → Includes (hull_of_tiles tiles) (tile_rectangle tile)
hull-contains [] tile there = absurd (omega (arith, there.1))
hull-contains (first ∷ tiles) tile there = elim (Contains-cases first tiles tile there) [
  | inl here ↦ subst (λ (t : Tile). Includes (hull (tile_rectangle first) (hull_of_tiles tiles)) (tile_rectangle t)) here
      (Includes-hull_left (tile_rectangle first) (hull_of_tiles tiles))
  | inr later ↦ λ u v h. Includes-hull_right (tile_rectangle first) (hull_of_tiles tiles) u v (hull-contains tiles tile later u v h)
]

pub hull-square : (tiles : List Tile) (tile : Tile) → Contains tiles tile → IsWhole tile → Includes (hull_of_tiles tiles) (tile_square tile)
hull-square tiles tile there whole u v h = hull-contains tiles tile there u v (whole-square tile whole u v h)

pub hull-smallest : (tiles : List Tile) (r : Rectangle) → ((tile : Tile) → Contains tiles tile → Includes r (tile_rectangle tile)) → Includes r (hull_of_tiles tiles)
hull-smallest [] r each = λ u v h. absurd (omega (arith, h.column))
hull-smallest (first ∷ tiles) r each =
    hull-minimum (tile_rectangle first) (hull_of_tiles tiles) r (each first (Contains-first first tiles first refl))
    (hull-smallest tiles r (λ tile there. each tile (Contains-later first tiles tile there)))

pub put-read : (format : Format) (tiles : List Tile) (held : HeldTiles) (tile : Tile) (bytes : List ℕ) → Contains tiles tile → IsWhole tile
    → held tile ≡ Some bytes → AreTileBytes format bytes → tile_bytes (put_image format tiles held) tile ≡ bytes
put-read format tiles held tile bytes there whole e are =
    tile-held format held (hull_of_tiles tiles) tile bytes e are (λ u v c inside out known. absurd (out (hull-square tiles tile there whole u v inside)))

pub around-hull : (format : Format) (tiles : List Tile) (held : HeldTiles) → ((tile : Tile) → IsSome (held tile) → Contains tiles tile × IsWhole tile)
    → AreZeroAround (hull_of_tiles tiles) format held
around-hull format tiles held among tile = of (held tile) refl
  where
    of : (o : Option (List ℕ)) → held tile ≡ o → IfSome o (AreZeroOutside (hull_of_tiles tiles) format tile)
    of (Some bytes) e =
        let put = among tile (rw e refl) in
        λ u v c inside out known. absurd (out (hull-square tiles tile put.0 put.1 u v inside))
    of None e = tt

pub ruleset hull_laws = (hull-is, around-hull)
