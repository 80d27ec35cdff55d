-- Edits of buffers continue tables.
use Rattle.std.proofs.Common.{◌≡◌, ◌≢◌, ℕ, Bool, true, false, cond, List, [], ◌∷◌, refl, sym, ap, ◌∙◌, subst, arith, Option, Some, None, Result, Ok, Err, IfOk, ℤ, unwrap_or}
use Rattle.std.specs.Prelude.{option_map}
use Rattle.std.specs.Str.{bytes_eq}
use Rattle.plane_rect.specs.declared.rect.RectRefused.{RectRefused}
use Rattle.plane_rect.specs.Rectangle.{Rectangle, Includes, Inside, empty, hull, shifted}
use Rattle.plane_rect.proofs.RectangleLaws.{Includes-hull_left, Includes-hull_right}
use Rattle.model_images.specs.Agreement.{AgreeOutside}
use Rattle.model_images.specs.Image.{Image}
use Rattle.model_images.specs.Paint.{blank}
use Rattle.model_images.specs.FromRaw.{pixels_from_raw}
use Rattle.model_images.proofs.Laws.{AgreeOutside-refl}
use Rattle.model_buffers.specs.declared.edit.BufferEdit.{BufferEdit}
use Rattle.model_buffers.specs.declared.edit.BufferEdit.TheVariants.{Create, Sub, Duplicate, Fill, Put, Copy}
use Rattle.model_buffers.specs.BufferEdit.{IsProperEdit, on_root}
use Rattle.model_buffers.specs.Edits.{edited_table, evenly, moved_samples}
use Rattle.model_buffers.specs.Effects.{IsAdded, IsWritten}
use Rattle.model_buffers.specs.Layout.{View, find}
use Rattle.model_buffers.specs.Table.{IsTable, Table, image_of, layout_of, root_of}
use Rattle.model_buffers.proofs.EffectLaws.{copied-images, copied-nowhere, created-image, duplicated-image, edited-table, filled-images, if_then, put-images, sub_buffer-image}
use Rattle.model_buffers.proofs.FindLaws.{name_from_test, same_name}
use Rattle.model_states.specs.Rectangles.{Rectangles, rectangle_of, with_written}
use Rattle.model_states.proofs.Written.{written-other, written-own}
use Rattle.model_sessions.specs.Steps.{only, rectangles_by}
use Rattle.model_sessions.specs.Tables.{Continues}

-- ---- agreement

agree-wider : (a b : Image) (r s : Rectangle) → Includes s r → AgreeOutside a b r → AgreeOutside a b s
agree-wider a b r s wider agreed =
    record { box = agreed.box; format = agreed.format; samples = λ u v c out. agreed.samples u v c (λ inside. out (wider u v inside)) }

agree-then : (a b c : Image) (r : Rectangle) → AgreeOutside a b r → AgreeOutside b c r → AgreeOutside a c r
agree-then a b c r one other =
    record {
      box = one.box ∙ other.box;
      format = one.format ∙ other.format;
      samples = λ u v k out. one.samples u v k out ∙ other.samples u v k out;
    }

agree-same : (a b : Image) (r : Rectangle) → b ≡ a → AgreeOutside a b r
agree-same a b r same = subst (λ (image : Image). AgreeOutside a image r) (sym same) (AgreeOutside-refl a r)

-- ---- a table and itself

pub continues-itself : (table : Table) → Continues table [] table
continues-itself table name root on = (on, AgreeOutside-refl (image_of table name) (rectangle_of [] root))

-- ---- one edit

known_name : (table : Table) (name root : List ℕ) → root_of table name ≡ Some root → find table.buffers name ≢ None
known_name table name root on none = cc (on, ap (option_map (λ (view : View). view.root)) none)

added-continues : (table : Table) (name : List ℕ) (image : Image) (after : Table) → IsAdded table name image after → Continues table [] after
added-continues table name image after added other root on =
    let apart : other ≢ name = λ same. known_name table other root on (ap (find table.buffers) same ∙ added.new) in
    (added.roots other apart ∙ on, agree-same (image_of table other) (image_of after other) (rectangle_of [] root) (added.others other apart))

some-apart : (a b : List ℕ) → bytes_eq a b ≡ false → (let x : Option (List ℕ) = Some a in let y : Option (List ℕ) = Some b in x ≢ y)
some-apart a b test same = let is : a ≡ b = cc in cc (test, same_name b, ap (λ name. bytes_eq name b) is)

written-continues : (table : Table) (name : List ℕ) (r : Rectangle) (f : ℕ → ℕ → ℕ → ℕ) (after : Table) → IsWritten table name r f after → Continues table (only (on_root (layout_of table) name (Ok r))) after
written-continues table name r f after written other root on =
    (written.roots other ∙ on, of (root_of table name) refl)
  where
    of : (o : Option (List ℕ)) → root_of table name ≡ o →
        AgreeOutside (image_of table other) (image_of after other) (rectangle_of (only (option_map (λ root. (root, r)) o)) root)
    of None e =
        agree-same (image_of table other) (image_of after other) empty
        (written.other_roots other (λ same. cc (on, same, e)))
    of (Some own) e = by (bytes_eq root own) refl
      where
        by : (b : Bool) → bytes_eq root own ≡ b → AgreeOutside (image_of table other) (image_of after other) (unwrap_or (cond b (Some r) None) empty)
        by true t = written.elsewhere other
        by false t =
            agree-same (image_of table other) (image_of after other) empty
            (written.other_roots other (λ same. some-apart root own t (sym on ∙ same ∙ e)))

-- a copy whose moved rectangle is none is refused
copied-continues : (table : Table) → IsTable table → (from to : List ℕ) (r : Rectangle) (dx dy : ℤ) (moved : Result Rectangle RectRefused) → shifted dx dy r ≡ moved →
    IfOk (edited_table table (Copy from to r dx dy)) (Continues table (only (on_root (layout_of table) to moved)))
copied-continues table is from to r dx dy (Ok moved) e =
    if_then (edited_table table (Copy from to r dx dy))
    (λ after written. written-continues table to moved (moved_samples (image_of table from) r moved) after written)
    (copied-images table is from to r moved dx dy e)
copied-continues table is from to r dx dy (Err refused) e =
    copied-nowhere (Continues table []) table from to r dx dy refused e

pub edit-continues : (table : Table) (edit : BufferEdit) → IsTable table → IsProperEdit edit → IfOk (edited_table table edit) (Continues table (rectangles_by table edit))
edit-continues table (Create name format extent) is proper =
    if_then (edited_table table (Create name format extent)) (λ after added. added-continues table name (blank extent format) after added)
    (created-image table is name format extent)
edit-continues table (Sub name parent r) is proper =
    if_then (edited_table table (Sub name parent r)) (λ after added. added-continues table name _ after added)
    (sub_buffer-image table is name parent r proper)
edit-continues table (Duplicate name from) is proper =
    if_then (edited_table table (Duplicate name from)) (λ after added. added-continues table name (image_of table from) after added)
    (duplicated-image table is name from)
edit-continues table (Fill name r samples) is proper =
    if_then (edited_table table (Fill name r samples)) (λ after written. written-continues table name r (evenly samples) after written)
    (filled-images table is name r samples)
edit-continues table (Put name r bytes) is proper =
    if_then (edited_table table (Put name r bytes))
    (λ after written. written-continues table name r (pixels_from_raw r (image_of table name).format bytes) after written)
    (put-images table is name r bytes)
edit-continues table (Copy from to r dx dy) is proper = copied-continues table is from to r dx dy (shifted dx dy r) refl

pub edit-table : (table : Table) (edit : BufferEdit) → IsTable table → IsProperEdit edit → IfOk (edited_table table edit) IsTable
edit-table table edit is proper = edited-table table is edit proper

-- ---- one edit after others

-- the rectangles with those of an edit
abbrev pub with_those : Rectangles → Option (List ℕ × Rectangle) → Rectangles
with_those rectangles None = rectangles
with_those rectangles (Some entry) = with_written rectangles entry.0 entry.1

-- the rectangle of a root that was written includes what there was, and the others are the same
with_written-wider : (rectangles : Rectangles) (own other : List ℕ) (r : Rectangle) →
    Includes (rectangle_of (with_written rectangles own r) other) (rectangle_of rectangles other)
    × Includes (rectangle_of (with_written rectangles own r) other) (rectangle_of ((own, r) ∷ []) other)
with_written-wider rectangles own other r = by (bytes_eq other own) refl
  where
    by : (b : Bool) → bytes_eq other own ≡ b →
        Includes (rectangle_of (with_written rectangles own r) other) (rectangle_of rectangles other)
        × Includes (rectangle_of (with_written rectangles own r) other) (unwrap_or (cond b (Some r) None) empty)
    by true e =
        let whole : rectangle_of (with_written rectangles own r) other ≡ hull (rectangle_of rectangles other) r =
        subst (λ name. rectangle_of (with_written rectangles own r) name ≡ hull (rectangle_of rectangles name) r) (sym (name_from_test other own e)) (written-own rectangles own r) in (
          subst (λ (wide : Rectangle). Includes wide (rectangle_of rectangles other)) (sym whole) (Includes-hull_left (rectangle_of rectangles other) r),
          subst (λ (wide : Rectangle). Includes wide r) (sym whole) (Includes-hull_right (rectangle_of rectangles other) r),
        )
    by false e = (
      λ u v inside. subst (Inside u v) (sym (written-other rectangles own other r e)) inside,
      λ u v inside. absurd (omega (arith, inside.column)),
    )

-- the rectangles with those of an edit are as wide as those before it, and as those of the edit
wider : (rectangles : Rectangles) (o : Option (List ℕ × Rectangle)) (root : List ℕ) →
    Includes (rectangle_of (with_those rectangles o) root) (rectangle_of rectangles root)
    × Includes (rectangle_of (with_those rectangles o) root) (rectangle_of (only o) root)
wider rectangles None root = (λ u v inside. inside, λ u v inside. absurd (omega (arith, inside.column)))
wider rectangles (Some entry) root = with_written-wider rectangles entry.0 root entry.1

pub continues-then : (first table next : Table) (rectangles : Rectangles) (o : Option (List ℕ × Rectangle)) → Continues first rectangles table → Continues table (only o) next →
    Continues first (with_those rectangles o) next
continues-then first table next rectangles o before after name root on =
    let one = before name root on in
    let other = after name root one.0 in
    let wide = wider rectangles o root in
    let r = rectangle_of (with_those rectangles o) root in (
      other.0,
      agree-then (image_of first name) (image_of table name) (image_of next name) r
          (agree-wider (image_of first name) (image_of table name) (rectangle_of rectangles root) r wide.0 one.1)
          (agree-wider (image_of table name) (image_of next name) (rectangle_of (only o) root) r wide.1 other.1),
    )
