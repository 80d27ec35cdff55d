-- A part that is grown by a radius, and what of a box is in it.
use Rattle.std.proofs.Common.{◌≡◌, ℕ, ◌+◌, ◌-◌, ◌*◌, ◌<◌, ◌≤◌, min, max, sym, subst, arith}
use Rattle.plane_rect.specs.Rectangle.{Inside, Rectangle, Within, end_column, end_row, spanning}
use Rattle.plane_rect.proofs.Rectangles.{rectangle-some}
use Rattle.model_images.specs.Abyss.{nearest}
use Rattle.area_ops.specs.Grown.{IsNear, IsPartNear, counted_part, near_part}

-- along one side: of a box's numbers, those from a on are in a part that is grown; they count from b on
pub record AreNear (radius start len first size a n b : ℕ) : Type 0 where
  pub begins : a ≡ max (start - radius) first
  pub ends : a + n ≡ min (start + len + radius) (first + size)
  pub some : 0 < n
  pub counted : b + start ≡ a + radius

module _ (radius start len first size a n b : ℕ) (are : AreNear radius start len first size a n b) (x : ℕ) (below : x < len + 2 * radius) where
  -- a number of the box
  pub to-counted : radius ≤ start + x → Within first size (start + x - radius) → Within b n x × (a + (x - b) ≡ start + x - radius)
  to-counted after there =
      ((omega (arith, there, are.begins, are.counted), omega (arith, there, are.begins, are.ends, are.counted)), omega (arith, there, are.begins, are.counted))

  pub from-counted : Within b n x → (radius ≤ start + x) × Within first size (start + x - radius)
  from-counted there =
      (omega (arith, there, are.begins, are.counted), (omega (arith, there, are.begins, are.counted), omega (arith, there, are.begins, are.ends, are.counted)))

  pub nearest-counted : a + (nearest b n x - b) ≡ nearest first size (start + x - radius)
  nearest-counted = omega (arith, are.begins, are.ends, are.some, are.counted)

-- a rectangle of these sides
pub record AreNearSides (radius : ℕ) (part box near counted : Rectangle) : Type 0 where
  pub columns : AreNear radius part.first_column part.width box.first_column box.width near.first_column near.width counted.first_column
  pub rows : AreNear radius part.first_row part.height box.first_row box.height near.first_row near.height counted.first_row
  pub width : counted.width ≡ near.width
  pub height : counted.height ≡ near.height

-- where a rectangle spans some columns and rows
pub spanning-some : (first_column first_row end_column end_row : ℕ) → first_column < end_column → first_row < end_row
    → spanning first_column first_row end_column end_row
    ≡ record { first_column = first_column; first_row = first_row; width = end_column - first_column; height = end_row - first_row }
spanning-some a b c d wide high = rectangle-some a b (c - a) (d - b) (omega (arith, wide)) (omega (arith, high))

module _ (radius : ℕ) (box part : Rectangle) (near : IsNear radius box part) where
  abbrev a : ℕ
  a = max (part.first_column - radius) box.first_column

  abbrev b : ℕ
  b = max (part.first_row - radius) box.first_row

  abbrev c : ℕ
  c = min (end_column part + radius) (end_column box)

  abbrev d : ℕ
  d = min (end_row part + radius) (end_row box)

  abbrev spanned : Rectangle
  spanned = record { first_column = a; first_row = b; width = c - a; height = d - b }

  near-is : near_part radius box part ≡ spanned
  near-is = spanning-some a b c d near.columns near.rows

  near-within : IsPartNear radius part spanned
  near-within =
      record {
        first_column = omega arith;
        first_row = omega arith;
        end_column = omega (arith, near.columns);
        end_row = omega (arith, near.rows);
      }

  pub IsPartNear-near : IsPartNear radius part (near_part radius box part)
  IsPartNear-near = subst (IsPartNear radius part) (sym near-is) near-within

  spanned-sides : AreNearSides radius part box spanned (counted_part radius part spanned)
  spanned-sides =
      let left : a + radius - part.first_column < a + (c - a) + radius - part.first_column = omega (arith, near.columns) in
      let top : b + radius - part.first_row < b + (d - b) + radius - part.first_row = omega (arith, near.rows) in
      subst (AreNearSides radius part box spanned)
      (sym (spanning-some (a + radius - part.first_column) (b + radius - part.first_row) (a + (c - a) + radius - part.first_column) (b + (d - b) + radius - part.first_row) left top))
      (record {
        columns = record { begins = omega arith; ends = omega (arith, near.columns); some = omega (arith, near.columns); counted = omega arith };
        rows = record { begins = omega arith; ends = omega (arith, near.rows); some = omega (arith, near.rows); counted = omega arith };
        width = omega (arith, near.columns);
        height = omega (arith, near.rows);
      })

  pub near-sides : AreNearSides radius part box (near_part radius box part) (counted_part radius part (near_part radius box part))
  near-sides = subst (λ (r : Rectangle). AreNearSides radius part box r (counted_part radius part r)) (sym near-is) spanned-sides

  -- the same of a rectangle that is known to be it
  pub part-near : (r : Rectangle) → r ≡ near_part radius box part → IsPartNear radius part r
  part-near r is = subst (IsPartNear radius part) (sym is) IsPartNear-near

  pub counted-width : (r : Rectangle) → r ≡ near_part radius box part → (counted_part radius part r).width ≡ r.width
  counted-width r is = subst (λ (q : Rectangle). (counted_part radius part q).width ≡ q.width) (sym is) near-sides.width

  pub counted-height : (r : Rectangle) → r ≡ near_part radius box part → (counted_part radius part r).height ≡ r.height
  counted-height r is = subst (λ (q : Rectangle). (counted_part radius part q).height ≡ q.height) (sym is) near-sides.height

  -- where all of the grown part is in the box
  module _ (width : (near_part radius box part).width ≡ part.width + 2 * radius) (height : (near_part radius box part).height ≡ part.height + 2 * radius) where
    all-sides : ((near_part radius box part).first_column + radius ≡ part.first_column) × ((near_part radius box part).first_row + radius ≡ part.first_row)
    all-sides =
        let sides = near-sides in
        (omega (arith, sides.columns.begins, sides.columns.ends, width), omega (arith, sides.rows.begins, sides.rows.ends, height))

    pub all-column : (near_part radius box part).first_column + radius ≡ part.first_column
    all-column = all-sides.0

    pub all-row : (near_part radius box part).first_row + radius ≡ part.first_row
    all-row = all-sides.1

    pub all-inside : (x y : ℕ) → x < part.width + 2 * radius → y < part.height + 2 * radius
        → Inside ((near_part radius box part).first_column + x) ((near_part radius box part).first_row + y) box
    all-inside x y column row =
        let sides = near-sides in
        record {
          column = (omega (arith, sides.columns.begins), omega (arith, sides.columns.ends, width, column));
          row = (omega (arith, sides.rows.begins), omega (arith, sides.rows.ends, height, row));
        }
