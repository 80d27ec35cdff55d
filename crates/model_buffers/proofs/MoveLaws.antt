-- Where the positions of a rectangle are once it is moved.
use Rattle.std.proofs.Common.{◌≡◌, ℕ, ℤ, List, pos, ◌+◌, ◌-◌, ◌<◌, ◌+ℤ◌, Bool, true, false, cond, Result, Ok, Err, inl, inr, refl, sym, ap, ◌∙◌, subst, arith}
use Rattle.std.specs.Prelude.{IfOk}
use Rattle.std.proofs.lemmas.Int.{ints}
use Rattle.std.proofs.lemmas.Bool.Decides.{nat_tests}
use Rattle.plane_rect.specs.declared.rect.RectRefused.{RectRefused}
use Rattle.plane_rect.specs.Rectangle.{Rectangle, Inside, rectangle, new_rectangle, shifted, is_empty, moved_x, moved_y, plane_coordinate, plane_index}
use Rattle.plane_rect.proofs.Rectangles.{coordinate_test, extent_test, rectangle-some, plane_coordinate-plane_index}
use Rattle.pixel_formats.specs.Format.{channels}
use Rattle.model_images.specs.Image.{at}
use Rattle.model_buffers.specs.declared.edit.BufferEdit.TheVariants.{Copy}
use Rattle.model_buffers.specs.Edits.{edited_table}
use Rattle.model_buffers.specs.Table.{Table, image_of, IsTable}
use Rattle.model_buffers.proofs.EffectLaws.{copied-images, copied-nowhere, if_then}

-- a rectangle begins at these coordinates and has these sides
pub record BeginsAt (x y : ℤ) (w h : ℕ) (r : Rectangle) : Type 0 where
  pub first_column : plane_coordinate r.first_column ≡ x
  pub first_row : plane_coordinate r.first_row ≡ y
  pub width : r.width ≡ w
  pub height : r.height ≡ h

new_rectangle-begins : (x y : ℤ) (w h : ℕ) (r : Rectangle) → 0 < w → 0 < h → new_rectangle x y (pos w) (pos h) ≡ Ok r → BeginsAt x y w h r
new_rectangle-begins x y w h r wide high e = elim (coordinate_test x) [
  | inl t ↦ elim (coordinate_test y) [
    | inl s ↦ elim (extent_test x (pos w)) [
      | inl p ↦ elim (extent_test y (pos h)) [
        | inl q ↦
            let made : rectangle (plane_index x) (plane_index y) w h ≡ r = cc (rw (t.0, s.0, p.0, q.0) at e) in
            subst (BeginsAt x y w h) (sym (rectangle-some (plane_index x) (plane_index y) w h wide high) ∙ made) (record {
              first_column = plane_coordinate-plane_index x t.1.0;
              first_row = plane_coordinate-plane_index y s.1.0;
              width = refl;
              height = refl;
            })
        | inr q ↦ absurd (cc (rw (t.0, s.0, p.0, q.0) at e))
      ]
      | inr p ↦ absurd (cc (rw (t.0, s.0, p.0) at e))
    ]
    | inr s ↦ absurd (cc (rw (t.0, s.0) at e))
  ]
  | inr t ↦ absurd (cc (rw t.0 at e))
]

pub shifted-begins : (dx dy : ℤ) (r moved : Rectangle) (u v : ℕ) → Inside u v r → shifted dx dy r ≡ Ok moved
    → BeginsAt (moved_x dx r) (moved_y dy r) r.width r.height moved
shifted-begins dx dy r moved u v here e =
    let some : is_empty r ≡ false = grind (arith, nat_tests) in
    new_rectangle-begins (moved_x dx r) (moved_y dy r) r.width r.height moved (omega (arith, here.column)) (omega (arith, here.row))
    (opened (is_empty r) (new_rectangle (moved_x dx r) (moved_y dy r) (pos r.width) (pos r.height)) some e)
  where
    opened : (b : Bool) (made : Result Rectangle RectRefused) → b ≡ false → cond b (Ok r) made ≡ Ok moved → made ≡ Ok moved
    opened true made t e = absurd (cc)
    opened false made t e = e

module _ (dx dy : ℤ) (r moved : Rectangle) (u v mu mv : ℕ) (here : Inside u v r) (m : shifted dx dy r ≡ Ok moved)
    (column : plane_coordinate mu ≡ (plane_coordinate u +ℤ dx)) (row : plane_coordinate mv ≡ (plane_coordinate v +ℤ dy)) where
  begins : BeginsAt (moved_x dx r) (moved_y dy r) r.width r.height moved
  begins = shifted-begins dx dy r moved u v here m

  pub Inside-moved : Inside mu mv moved
  Inside-moved = let b = begins in record {
    column = (omega (arith, ints, column, b.first_column, here.column), omega (arith, ints, column, b.first_column, b.width, here.column));
    row = (omega (arith, ints, row, b.first_row, here.row), omega (arith, ints, row, b.first_row, b.height, here.row));
  }

  pub column-back : r.first_column + (mu - moved.first_column) ≡ u
  column-back = let b = begins in omega (arith, ints, column, b.first_column, here.column)

  pub row-back : r.first_row + (mv - moved.first_row) ≡ v
  row-back = let b = begins in omega (arith, ints, row, b.first_row, here.row)

pub copied-position : (table : Table) → IsTable table → (from to : List ℕ) (r : Rectangle) (dx dy : ℤ) (u v mu mv c : ℕ) → Inside u v r → c < channels (image_of table to).format
    → plane_coordinate mu ≡ (plane_coordinate u +ℤ dx) → plane_coordinate mv ≡ (plane_coordinate v +ℤ dy)
    → IfOk (edited_table table (Copy from to r dx dy)) (λ after. at (image_of after to) mu mv c ≡ at (image_of table from) u v c)
copied-position table is from to r dx dy u v mu mv c here few column row = cases (shifted dx dy r) refl
  where
    cases : (after : Result Rectangle RectRefused) → shifted dx dy r ≡ after
        → IfOk (edited_table table (Copy from to r dx dy)) (λ after. at (image_of after to) mu mv c ≡ at (image_of table from) u v c)
    cases (Err refused) e = copied-nowhere _ table from to r dx dy refused e
    cases (Ok moved) m =
        if_then (edited_table table (Copy from to r dx dy))
        (λ after all.
        all.named mu mv c (Inside-moved dx dy r moved u v mu mv here m column row) few
        ∙ ap (λ (a : ℕ). at (image_of table from) a (r.first_row + (mv - moved.first_row)) c) (column-back dx dy r moved u v mu mv here m column row)
        ∙ ap (λ (a : ℕ). at (image_of table from) u a c) (row-back dx dy r moved u v mu mv here m column row))
        (copied-images table is from to r moved dx dy m)
