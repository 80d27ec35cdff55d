-- Positions moved, mirrored and surrounded.
use Rattle.std.proofs.Common.{◌↔◌, ◌≡◌, ℕ, ℤ, pos, negsuc, ◌+◌, ◌-◌, ◌<◌, ◌≤◌, Bool, true, false, subst, arith}
use Rattle.std.proofs.lemmas.Bool.Decides.{nat_tests}
use Rattle.plane_rect.proofs.Rectangles.{rectangle-some}
use Rattle.plane_rect.specs.Rectangle.{Includes, Inside, Rectangle, Within, end_row, rectangle, end_column}
use Rattle.model_images.specs.Abyss.{nearest}
use Rattle.model_operations.specs.Moves.{moved_index, source_index, mirrored, mirrored_part, mirrored_start, moved, moved_back, moved_into, position, surrounded}

pub position-is_inside : (u v : ℕ) → Inside u v (position u v)
position-is_inside u v = record { column = (omega arith, omega arith); row = (omega arith, omega arith) }

pub Inside-rectangle : (u v first_column first_row width height : ℕ) → Within first_column width u → Within first_row height v → Inside u v (rectangle first_column first_row width height)
Inside-rectangle u v first_column first_row width height column row = grind (arith, nat_tests)

pub Inside-rectangle_from : (u v first_column first_row width height : ℕ) → Inside u v (rectangle first_column first_row width height) → Within first_column width u × Within first_row height v
Inside-rectangle_from u v first_column first_row width height there = grind (arith, nat_tests)

-- ---- moved

pub source_index-within : (d : ℤ) (start len n : ℕ) → Within start len n → Within (source_index d start) len (source_index d n)
source_index-within (pos k) start len n inside = (omega (arith, inside), omega (arith, inside))
source_index-within (negsuc k) start len n inside = (omega (arith, inside), omega (arith, inside))

pub moved_back-is_inside : (dx dy : ℤ) (r : Rectangle) (u v : ℕ) → Inside u v r → Inside (source_index dx u) (source_index dy v) (moved_back dx dy r)
moved_back-is_inside dx dy r u v there =
    Inside-rectangle (source_index dx u) (source_index dy v) (source_index dx r.first_column) (source_index dy r.first_row) r.width r.height
    (source_index-within dx r.first_column r.width u there.column)
    (source_index-within dy r.first_row r.height v there.row)

pub moved_index-within : (d : ℤ) (start len n : ℕ) → moved_index d (source_index d n) ≡ n → Within start len (source_index d n) → Within (moved_index d start) len n
moved_index-within (pos k) start len n came inside = (omega (arith, inside, came), omega (arith, inside, came))
moved_index-within (negsuc k) start len n came inside = (omega (arith, inside, came), omega (arith, inside, came))

pub moved-is_inside : (dx dy : ℤ) (r : Rectangle) (u v : ℕ) → moved_index dx (source_index dx u) ≡ u → moved_index dy (source_index dy v) ≡ v
    → Inside (source_index dx u) (source_index dy v) r → Inside u v (moved dx dy r)
moved-is_inside dx dy r u v column row there =
    Inside-rectangle u v (moved_index dx r.first_column) (moved_index dy r.first_row) r.width r.height
    (moved_index-within dx r.first_column r.width u column there.column)
    (moved_index-within dy r.first_row r.height v row there.row)

-- ---- mirrored

mirrored-within : (start len first n m : ℕ) → Within first n m → Within (mirrored_start start len first n) n (mirrored start len m)
mirrored-within start len first n m part = (omega (arith, part), omega (arith, part))

mirrored-twice : (start len m : ℕ) → Within start len m → mirrored start len (mirrored start len m) ≡ m
mirrored-twice start len m inside = omega (arith, inside)

-- the column from which a position of a mirrored box came, and the row
abbrev pub mirrored_column : Bool → Rectangle → ℕ → ℕ
mirrored_column true box u = mirrored box.first_column box.width u
mirrored_column false box u = u

abbrev pub mirrored_row : Bool → Rectangle → ℕ → ℕ
mirrored_row true box v = v
mirrored_row false box v = mirrored box.first_row box.height v

pub mirrored_part-is_inside : (sideways : Bool) (box part : Rectangle) (u v : ℕ) → Inside u v part
    → Inside (mirrored_column sideways box u) (mirrored_row sideways box v) (mirrored_part sideways box part)
mirrored_part-is_inside true box part u v there =
    Inside-rectangle _ _ _ _ part.width part.height (mirrored-within box.first_column box.width part.first_column part.width u there.column) there.row
mirrored_part-is_inside false box part u v there =
    Inside-rectangle _ _ _ _ part.width part.height there.column (mirrored-within box.first_row box.height part.first_row part.height v there.row)

pub mirrored_part-came : (sideways : Bool) (box part : Rectangle) (u v : ℕ) → Inside u v box
    → Inside (mirrored_column sideways box u) (mirrored_row sideways box v) part → Inside u v (mirrored_part sideways box part)
mirrored_part-came true box part u v inside there =
    let back = mirrored_part-is_inside true box part (mirrored box.first_column box.width u) v there in
    rw (mirrored-twice box.first_column box.width u inside.column) at back
mirrored_part-came false box part u v inside there =
    let back = mirrored_part-is_inside false box part u (mirrored box.first_row box.height v) there in
    rw (mirrored-twice box.first_row box.height v inside.row) at back

pub mirrored_part-position : (sideways : Bool) (box : Rectangle) (u v u' v' : ℕ) → Inside u v box → Inside u' v' (mirrored_part sideways box (position u v))
    → (u' ≡ mirrored_column sideways box u) × (v' ≡ mirrored_row sideways box v)
mirrored_part-position true box u v u' v' inside there =
    let t = Inside-rectangle_from u' v' (mirrored_start box.first_column box.width u 1) v 1 1 there in
    (omega (arith, t.0, inside.column), omega (arith, t.1))
mirrored_part-position false box u v u' v' inside there =
    let t = Inside-rectangle_from u' v' u (mirrored_start box.first_row box.height v 1) 1 1 there in
    (omega (arith, t.0), omega (arith, t.1, inside.row))

-- ---- surrounded

pub surrounded-is_inside : (by : ℕ) (r : Rectangle) (u v u' v' : ℕ) → Inside u v r → u ≤ u' + by → u' ≤ u + by → v ≤ v' + by → v' ≤ v + by
    → Inside u' v' (surrounded by r)
surrounded-is_inside by r u v u' v' there a b c d = grind (arith, nat_tests)

pub moved_into-is_inside : (box r : Rectangle) (u v s t : ℕ) → Inside u v r → Inside s t box
    → Inside (nearest box.first_column box.width u) (nearest box.first_row box.height v) (moved_into box r)
moved_into-is_inside box r u v s t there some = grind (arith, nat_tests)

-- two positions are at most so many columns and rows apart
pub record AreNear (by u v u' v' : ℕ) : Type 0 where
  pub first_column : u' ≤ u + by
  pub end_column : u ≤ u' + by
  pub first_row : v' ≤ v + by
  pub end_row : v ≤ v' + by

-- a rectangle around a position
abbrev pub around : ℕ → ℕ → ℕ → Rectangle
around by u v = record { first_column = u - by; first_row = v - by; width = u + 1 + by - (u - by); height = v + 1 + by - (v - by) }

surrounded-position : (by u v : ℕ) → surrounded by (position u v) ≡ around by u v
surrounded-position by u v = rectangle-some (u - by) (v - by) (u + 1 + by - (u - by)) (v + 1 + by - (v - by)) (omega arith) (omega arith)

around-near : (by u v u' v' : ℕ) → Inside u' v' (around by u v) → AreNear by u v u' v'
around-near by u v u' v' h =
    record { first_column = omega (arith, h.column); end_column = omega (arith, h.column); first_row = omega (arith, h.row); end_row = omega (arith, h.row) }

pub surrounded-near : (by u v u' v' : ℕ) → Inside u' v' (surrounded by (position u v)) → AreNear by u v u' v'
surrounded-near by u v u' v' h = around-near by u v u' v' (subst (λ (r : Rectangle). Inside u' v' r) (surrounded-position by u v) h)

moved_into-from : (box r : Rectangle) (u v : ℕ) → Inside u v (moved_into box r)
    → ((nearest box.first_column box.width r.first_column ≤ u) × (u < nearest box.first_column box.width (end_column r - 1) + 1))
    × ((nearest box.first_row box.height r.first_row ≤ v) × (v < nearest box.first_row box.height (end_row r - 1) + 1))
moved_into-from box r u v h = grind (arith, nat_tests)

moved_into_around-near : (box : Rectangle) (by u v u' v' : ℕ) → Inside u v box → Inside u' v' (moved_into box (around by u v)) → AreNear by u v u' v'
moved_into_around-near box by u v u' v' inside h =
    let t = moved_into-from box (around by u v) u' v' h in
    record {
      first_column = omega (arith, t.0, inside.column);
      end_column = omega (arith, t.0, inside.column);
      first_row = omega (arith, t.1, inside.row);
      end_row = omega (arith, t.1, inside.row);
    }

pub moved_into-near : (box : Rectangle) (by u v u' v' : ℕ) → Inside u v box → Inside u' v' (moved_into box (surrounded by (position u v))) → AreNear by u v u' v'
moved_into-near box by u v u' v' inside h =
    moved_into_around-near box by u v u' v' inside (subst (λ (r : Rectangle). Inside u' v' (moved_into box r)) (surrounded-position by u v) h)

-- ---- a part of a box, mirrored, position by position

pub mirrored-sideways : (box part : Rectangle) (u v : ℕ) → Includes box part → Inside u v box
    → Inside u v (mirrored_part true box part) ↔ Inside (mirrored box.first_column box.width u) v part
mirrored-sideways box part u v includes inside = (from, mirrored_part-came true box part u v inside)
  where
    from : Inside u v (mirrored_part true box part) → Inside (mirrored box.first_column box.width u) v part
    from there =
        let t = Inside-rectangle_from u v (mirrored_start box.first_column box.width part.first_column part.width) part.first_row part.width part.height there in
        let last = includes (part.first_column + part.width - 1) part.first_row
        (record { column = (omega (arith, t.0), omega (arith, t.0)); row = (omega arith, omega (arith, t.1)) }) in
        record { column = (omega (arith, t.0, last.column, inside.column), omega (arith, t.0, last.column, inside.column)); row = t.1 }

pub mirrored-upright : (box part : Rectangle) (u v : ℕ) → Includes box part → Inside u v box
    → Inside u v (mirrored_part false box part) ↔ Inside u (mirrored box.first_row box.height v) part
mirrored-upright box part u v includes inside = (from, mirrored_part-came false box part u v inside)
  where
    from : Inside u v (mirrored_part false box part) → Inside u (mirrored box.first_row box.height v) part
    from there =
        let t = Inside-rectangle_from u v part.first_column (mirrored_start box.first_row box.height part.first_row part.height) part.width part.height there in
        let last = includes part.first_column (part.first_row + part.height - 1)
        (record { column = (omega arith, omega (arith, t.0)); row = (omega (arith, t.1), omega (arith, t.1)) }) in
        record { column = t.0; row = (omega (arith, t.1, last.row, inside.row), omega (arith, t.1, last.row, inside.row)) }
