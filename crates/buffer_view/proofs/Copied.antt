-- Rectangles that are copied from one root to another or the same.
use Rattle.std.proofs.Common.{◌≡◌, ℕ, ℤ, pos, suc, ◌+◌, ◌-◌, ◌*◌, ◌<◌, ◌≤◌, Bool, true, false, cond, List, [], ◌∷◌, length, map, get_or, unwrap_or, Option, Some, Result, Ok, inl, inr, refl, sym, ap, ap₂, subst, ◌∙◌, arith}
use Rattle.std.specs.Str.{bytes_eq}
use Rattle.std.proofs.lemmas.Bool.Decides.{nat_tests}
use Rattle.std.proofs.lemmas.Nat.{mul-le}
use Rattle.model_buffers.specs.Edits.{moved_samples, written}
use Rattle.model_buffers.specs.Layout.{AreDistinct, find}
use Rattle.model_buffers.specs.Table.{IsTable, Table, root_image}
use Rattle.model_buffers.proofs.FindLaws.{AreDistinct-from_mapped, find-listed, name_from_test}
use Rattle.model_graphs.specs.Shapes.{shape_of_image}
use Rattle.model_images.specs.FromRaw.{pixels_from_raw}
use Rattle.model_images.specs.Image.{Image, at, is_inside, sample_index}
use Rattle.model_images.specs.Paint.{cut, no_image, painted}
use Rattle.model_images.specs.Raw.{raw}
use Rattle.model_images.proofs.Agreeing.{at-cut}
use Rattle.model_images.proofs.Laws.{generated_equal}
use Rattle.model_images.proofs.RawLaws.{raw-samples}
use Rattle.model_images.proofs.Samples.{Inside_from}
use Rattle.pixel_formats.specs.Format.{channels, depth}
use Rattle.pixel_formats.specs.Row.{sample_at}
use Rattle.pixel_formats.specs.declared.format.Format.{Format}
use Rattle.plane_rect.specs.Rectangle.{InLimits, Includes, Inside, IsRectangle, Rectangle, is_empty, moved_x, moved_y, new_rectangle, plane_index, rectangle, shifted}
use Rattle.plane_rect.specs.declared.rect.RectRefused.{RectRefused}
use Rattle.plane_rect.proofs.Rectangles.{coordinate_test, extent_test, rectangle-some, some_or_empty}

-- ---- rectangles

-- a rectangle of a box in limits is in limits
pub InLimits-part : (box r : Rectangle) → InLimits box → IsRectangle r → Includes box r → InLimits r
InLimits-part box r limits is inside = elim (some_or_empty r is) [
  | inl some ↦
      let first : Inside r.first_column r.first_row r = record { column = (omega arith, omega (arith, some.0)); row = (omega arith, omega (arith, some.1)) } in
      let last : Inside (r.first_column + r.width - 1) (r.first_row + r.height - 1) r =
      record { column = (omega (arith, some.0), omega (arith, some.0)); row = (omega (arith, some.1), omega (arith, some.1)) } in
      let start = inside r.first_column r.first_row first in
      let stop = inside (r.first_column + r.width - 1) (r.first_row + r.height - 1) last in
      let columns : r.width ≤ box.width = omega (arith, start.column, stop.column, some.0) in
      let rows : r.height ≤ box.height = omega (arith, start.row, stop.row, some.1) in
      let few = mul-le r.width r.height box.width box.height columns rows in
      (omega (arith, columns, limits.0), omega (arith, rows, limits.1), omega (arith, few, limits.2))
  | inr none ↦ subst InLimits (sym none) (omega arith, omega arith, omega arith)
]

-- a moved rectangle has the same sides
pub record HasSides (r moved : Rectangle) : Type 0 where
  pub width : moved.width ≡ r.width
  pub height : moved.height ≡ r.height

new-sides : (x y : ℤ) (w h : ℕ) (r : Rectangle) → 0 < w → 0 < h → new_rectangle x y (pos w) (pos h) ≡ Ok r → (r.width ≡ w) × (r.height ≡ h)
new-sides x y w h r wide high e = elim (coordinate_test x) [
  | inl t ↦ elim (coordinate_test y) [
    | inl s ↦ elim (extent_test x (pos w)) [
      | inl p ↦ elim (extent_test y (pos h)) [
        | inl q ↦
            let made : rectangle (plane_index x) (plane_index y) w h ≡ r = cc (rw (t.0, s.0, p.0, q.0) at e) in
            let is = sym (rectangle-some (plane_index x) (plane_index y) w h wide high) ∙ made in
            (sym (ap (λ (q : Rectangle). q.width) is), sym (ap (λ (q : Rectangle). q.height) is))
        | inr q ↦ absurd (cc (rw (t.0, s.0, p.0, q.0) at e))
      ]
      | inr p ↦ absurd (cc (rw (t.0, s.0, p.0) at e))
    ]
    | inr s ↦ absurd (cc (rw (t.0, s.0) at e))
  ]
  | inr t ↦ absurd (cc (rw t.0 at e))
]

pub moved-sides : (dx dy : ℤ) (r moved : Rectangle) → IsRectangle r → shifted dx dy r ≡ Ok moved → HasSides r moved
moved-sides dx dy r moved is there = elim (some_or_empty r is) [
  | inl some ↦
      let full : is_empty r ≡ false = grind (arith, nat_tests) in
      let sides = new-sides (moved_x dx r) (moved_y dy r) r.width r.height moved some.0 some.1
      (opened (is_empty r) (new_rectangle (moved_x dx r) (moved_y dy r) (pos r.width) (pos r.height)) full there) in
      record { width = sides.0; height = sides.1 }
  | inr none ↦
      let stays : shifted dx dy r ≡ Ok r = ap (λ (q : Rectangle). shifted dx dy q) none ∙ ap (λ (q : Rectangle). Ok q) (sym none) in
      let same : r ≡ moved = cc in
      record { width = ap (λ (q : Rectangle). q.width) (sym same); height = ap (λ (q : Rectangle). q.height) (sym same) }
]
  where
    opened : (b : Bool) (made : Result Rectangle RectRefused) → b ≡ false → cond b (Ok r) made ≡ Ok moved → made ≡ Ok moved
    opened true made t e = absurd (cc)
    opened false made t e = e

-- ---- samples

module _ (r moved : Rectangle) (sides : HasSides r moved) (u v : ℕ) (there : Inside u v moved) where
  abbrev column : ℕ
  column = r.first_column + (u - moved.first_column)

  abbrev row : ℕ
  row = r.first_row + (v - moved.first_row)

  inside-back : Inside column row r
  inside-back = record {
    column = (omega arith, omega (arith, there.column, sides.width));
    row = (omega arith, omega (arith, there.row, sides.height));
  }

  index-back : (n c : ℕ) → sample_index moved n u v c ≡ sample_index r n column row c
  index-back n c =
      let x : u - moved.first_column ≡ column - r.first_column = omega arith in
      let y : v - moved.first_row ≡ row - r.first_row = omega arith in
      ap (λ (w : ℕ). ((v - moved.first_row) * w + (u - moved.first_column)) * n + c) sides.width
      ∙ ap₂ (λ (a b : ℕ). (a * r.width + b) * n + c) y x

  -- the samples of the raw bytes of a part, at the positions of the part once it is moved
  pub moved-sample : (image : Image) (extent : Rectangle) (bytes : List ℕ) (c : ℕ) → Includes extent r → c < channels image.format
      → bytes ≡ raw (cut image r) r → pixels_from_raw moved image.format bytes u v c ≡ moved_samples (cut image extent) r moved u v c
  moved-sample image extent bytes c inside known are =
      ap (λ (i : ℕ). sample_at (depth image.format) bytes i) (index-back (channels image.format) c)
      ∙ ap (λ (b : List ℕ). pixels_from_raw r image.format b column row c) are
      ∙ raw-samples (cut image r) r column row c inside-back known
      ∙ at-cut image r column row c inside-back
      ∙ sym (at-cut image extent column row c (inside column row inside-back))

-- ---- what is painted

pub painted-over : (image : Image) (r : Rectangle) (f g : ℕ → ℕ → ℕ → ℕ) → ((u v c : ℕ) → Inside u v r → c < channels image.format → f u v c ≡ g u v c)
    → painted image r f ≡ painted image r g
painted-over image r f g same =
    generated_equal image.box image.format (λ u v c. cond (is_inside u v r) (f u v c) (at image u v c)) (λ u v c. cond (is_inside u v r) (g u v c) (at image u v c))
    (λ u v c there known. cases (is_inside u v r) u v c refl known)
  where
    cases : (b : Bool) (u v c : ℕ) → is_inside u v r ≡ b → c < channels image.format → cond b (f u v c) (at image u v c) ≡ cond b (g u v c) (at image u v c)
    cases true u v c e known = same u v c (Inside_from u v r e) known
    cases false u v c e known = refl

module _ (root : List ℕ) (r : Rectangle) (f g : ℕ → ℕ → ℕ → ℕ) (format : Format)
    (same : (u v c : ℕ) → Inside u v r → c < channels format → f u v c ≡ g u v c) where
  abbrev change : (ℕ → ℕ → ℕ → ℕ) → List ℕ × Image → List ℕ × Image
  change h entry = (entry.0, cond (bytes_eq root entry.0) (painted entry.1 r h) entry.1)

  abbrev HasFormat : List ℕ × Image → Type 0
  HasFormat entry = bytes_eq root entry.0 ≡ true → entry.1.format ≡ format

  change-same : (entry : List ℕ × Image) → HasFormat entry → change f entry ≡ change g entry
  change-same entry has = cases (bytes_eq root entry.0) refl
    where
      named : Image → List ℕ × Image
      named image = (entry.0, image)

      cases : (b : Bool) → bytes_eq root entry.0 ≡ b → named (cond b (painted entry.1 r f) entry.1) ≡ named (cond b (painted entry.1 r g) entry.1)
      cases true e =
          ap named (painted-over entry.1 r f g (λ u v c there known.
          same u v c there (subst (λ (q : Format). c < channels q) (has e) known)))
      cases false e = refl

  changes-same : (entries : List (List ℕ × Image)) → ((i : ℕ) (d : List ℕ × Image) → i < length entries → HasFormat (get_or entries i d)) → map (change f) entries ≡ map (change g) entries
  changes-same [] has = refl
  changes-same (entry ∷ entries) has =
      ap (λ (e : List ℕ × Image). e ∷ map (change f) entries) (change-same entry (has 0 entry (omega arith)))
      ∙ ap (λ (es : List (List ℕ × Image)). change g entry ∷ es) (changes-same entries (λ i d below. has (suc i) d (omega (arith, below))))

  pub written-same : (table : Table) → IsTable table → (root_image table root).format ≡ format → written table root r f ≡ written table root r g
  written-same table is has =
      ap (λ (roots : List (List ℕ × Image)). let t : Table = record { roots = roots; buffers = table.buffers } in t) (changes-same table.roots each)
    where
      distinct : AreDistinct table.roots
      distinct = AreDistinct-from_mapped shape_of_image table.roots is.layout.root_names

      each : (i : ℕ) (d : List ℕ × Image) → i < length table.roots → HasFormat (get_or table.roots i d)
      each i d below hit =
          let name : root ≡ (get_or table.roots i d).0 = name_from_test root (get_or table.roots i d).0 hit in
          let found : find table.roots root ≡ Some (get_or table.roots i d).1 = ap (find table.roots) name ∙ find-listed table.roots distinct i d below in
          sym (ap (λ (o : Option Image). (unwrap_or o no_image).format) found) ∙ has
