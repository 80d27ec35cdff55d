-- Edits keep layouts.
use Rattle.std.proofs.Common.{◌≡◌, ◌≢◌, ℕ, ◌<◌, Bool, true, false, cond, List, [], ◌∷◌, length, Option, Some, None, refl, sym, ap, ◌∙◌, subst, arith, length-append}
use Rattle.std.specs.Prelude.{IsSome, IfSome}
use Rattle.std.specs.Option.{is_some}
use Rattle.std.specs.Str.{bytes_eq}
use Rattle.plane_rect.specs.Rectangle.{Rectangle, Includes, IsRectangle, meet}
use Rattle.plane_rect.proofs.Rectangles.{Inside-meet}
use Rattle.plane_rect.proofs.RectangleLaws.{IsRectangle-meet}
use Rattle.pixel_formats.specs.Limits.{max_buffers}
use Rattle.model_graphs.specs.Shapes.{Shape}
use Rattle.model_buffers.specs.declared.edit.BufferEdit.{BufferEdit}
use Rattle.model_buffers.specs.declared.edit.BufferEdit.TheVariants.{Create, Sub, Duplicate, Fill, Put, Copy}
use Rattle.model_buffers.specs.BufferEdit.{IsProperEdit, added, layout_with, layout_with_root, part_of}
use Rattle.model_buffers.specs.Causes.{IsCarriedOut}
use Rattle.model_buffers.specs.Layout.{TableLayout, View, find, root_shape, IsValidShape, IsRooted, IsLayout}
use Rattle.model_buffers.proofs.FindLaws.{same_name, name_from_test, find-kept, find-added, find-new, find-other, AreDistinct-added}

-- ---- values that may be there

-- what holds of a value that is there, and where there is none, holds of each option
pub by_option : {X : Type 0} (P : Type 0) (o : Option X) → ((x : X) → o ≡ Some x → P) → (o ≡ None → P) → P
by_option P (Some x) there absent = there x refl
by_option P None there absent = absent refl

pub if_some : {X : Type 0} (o : Option X) (P : X → Type 0) → ((x : X) → o ≡ Some x → P x) → IfSome o P
if_some (Some x) P h = h x refl
if_some None P h = tt

pub of_some : {X : Type 0} (o : Option X) (P : X → Type 0) (x : X) → o ≡ Some x → IfSome o P → P x
of_some {X = X} o P x e h = subst (λ (o : Option X). IfSome o P) e h

-- a value that is there
pub by_value : {X : Type 0} (P : Type 0) (o : Option X) → IsSome o → ((x : X) → o ≡ Some x → P) → P
by_value P (Some x) some there = there x refl
by_value P None some there = absurd (cc)

-- whatever is found in a list with one more entry is the added value, or was found before
pub find-either : {X : Type 0} (P : X → Type 0) (entries : List (List ℕ × X)) (q k : List ℕ) (v : X) → find entries k ≡ None
    → (q ≡ k → P v) → IfSome (find entries q) P → IfSome (find (added entries k v) q) P
find-either {X = X} P entries q k v none here there =
    elim (bytes_eq q k) as (λ b. bytes_eq q k ≡ b → IfSome (find (added entries k v) q) P) [
      | true ↦ λ e. let same = name_from_test q k e in
          subst (λ (o : Option X). IfSome o P) (sym (ap (find (added entries k v)) same ∙ find-new entries k v none)) (here same)
      | false ↦ λ e. let apart : q ≢ k = λ same. cc (e, same_name k, same) in
          subst (λ (o : Option X). IfSome o P) (sym (find-other entries q k v apart)) there
    ] refl

-- ---- a layout with a buffer more

pub no_root : (layout : TableLayout) → IsLayout layout → (name : List ℕ) → find layout.buffers name ≡ None → find layout.roots name ≡ None
no_root layout is name new = by_option _ (find layout.roots name) (λ shape e. absurd (let some = is.named name (rw e refl) in cc)) (λ none. none)

pub rooted_view : (layout : TableLayout) → IsLayout layout → (name : List ℕ) (view : View) → find layout.buffers name ≡ Some view → IsRooted layout view
rooted_view layout is name view e = of_some (find layout.buffers name) (IsRooted layout) view e (is.rooted name)

pub kept_root : (layout : TableLayout) → IsLayout layout → (root : List ℕ) → IsSome (find layout.roots root) → IsValidShape (root_shape layout root)
kept_root layout is root some =
    by_value _ (find layout.roots root) some
    (λ (shape : Shape) e. rw e (of_some (find layout.roots root) IsValidShape shape e (is.kept root)))

pub meet-part : (r extent : Rectangle) → Includes extent (meet r extent)
meet-part r extent u v h = ((Inside-meet u v r extent).0 h).1

pub part-rooted : (layout : TableLayout) (view : View) (r : Rectangle) → IsRooted layout view → IsRectangle r → IsRooted layout (part_of view r)
part-rooted layout view r rooted rectangle = record {
  root = rooted.root;
  inside = λ u v h. rooted.inside u v (meet-part r view.extent u v h);
  extent = IsRectangle-meet r view.extent rectangle rooted.extent;
}

module _ (layout : TableLayout) (is : IsLayout layout) (name : List ℕ) (new : find layout.buffers name ≡ None) (room : length layout.buffers < max_buffers) where
  -- one of a root that is there
  module _ (view : View) (rooted : IsRooted layout view) where
    abbrev with_view : TableLayout
    with_view = record layout { buffers = added layout.buffers name view }

    over : (old : View) → IsRooted layout old → IsRooted with_view old
    over old there = record { root = there.root; inside = there.inside; extent = there.extent }

    IsLayout-with_view : IsLayout with_view
    IsLayout-with_view = record {
      few = omega (arith, length-append layout.buffers ((name, view) ∷ []));
      buffer_names = AreDistinct-added layout.buffers name view new is.buffer_names;
      root_names = is.root_names;
      named = λ root some. by_option _ (find layout.buffers root)
          (λ (x : View) e. rw (find-kept layout.buffers root name view x e) refl)
          (λ none. absurd (let there = is.named root some in cc));
      rooted = λ q. find-either (IsRooted with_view) layout.buffers q name view new (λ _. over view rooted)
          (if_some (find layout.buffers q) (IsRooted with_view) (λ old e. over old (rooted_view layout is q old e)));
      kept = is.kept;
    }

  -- one and its root
  module _ (shape : Shape) (extent : Rectangle) where
    abbrev view : View
    view = record { root = name; extent = extent }

    abbrev with_own : TableLayout
    with_own = layout_with_root layout name shape extent

    none_yet : find layout.roots name ≡ None
    none_yet = no_root layout is name new

    still : (o : Option View) → IfSome o (IsRooted layout) → IfSome o (IsRooted with_own)
    still (Some old) rooted = by_value _ (find layout.roots old.root) rooted.root
        (λ (x : Shape) e.
        let now = find-kept layout.roots old.root name shape x e in
        let same : root_shape with_own old.root ≡ root_shape layout old.root = rw (now, e) refl in
        record {
          root = rw now refl;
          inside = subst (λ (s : Shape). Includes s.box old.extent) (sym same) rooted.inside;
          extent = rooted.extent;
        })
    still None rooted = tt

    same_test : (b : Bool) → is_some (cond b (Some shape) None) ≡ true → is_some (cond b (Some view) None) ≡ true
    same_test true h = refl
    same_test false h = h

    absent : (root : List ℕ) → find layout.buffers root ≡ None → find layout.roots root ≡ None → IsSome (find (added layout.roots name shape) root)
        → IsSome (find (added layout.buffers name view) root)
    absent root lacking rootless some =
        rw (find-added layout.buffers root name view lacking) (same_test (bytes_eq root name) (rw (find-added layout.roots root name shape rootless) at some))

    named : (root : List ℕ) → IsSome (find (added layout.roots name shape) root) → IsSome (find (added layout.buffers name view) root)
    named root some = by_option _ (find layout.buffers root)
        (λ (x : View) e. rw (find-kept layout.buffers root name view x e) refl)
        (λ lacking. absent root lacking (no_root layout is root lacking) some)

    IsLayout-with_root : IsValidShape shape → Includes shape.box extent → IsRectangle extent → IsLayout with_own
    IsLayout-with_root kept inside rectangle = record {
      few = omega (arith, length-append layout.buffers ((name, view) ∷ []));
      buffer_names = AreDistinct-added layout.buffers name view new is.buffer_names;
      root_names = AreDistinct-added layout.roots name shape none_yet is.root_names;
      named = named;
      rooted = λ q. find-either (IsRooted with_own) layout.buffers q name view new
          (λ _. record {
            root = rw (find-new layout.roots name shape none_yet) refl;
            inside = rw (find-new layout.roots name shape none_yet) inside;
            extent = rectangle;
          })
          (still (find layout.buffers q) (is.rooted q));
      kept = λ q. find-either IsValidShape layout.roots q name shape none_yet (λ _. kept) (is.kept q);
    }

-- ---- each edit

pub edit-keeps : (layout : TableLayout) → IsLayout layout → (edit : BufferEdit) → IsProperEdit edit → IsCarriedOut layout edit → IsLayout (layout_with layout edit)
edit-keeps layout is (Create name format extent) proper done =
    IsLayout-with_root layout is name done.0 done.1 (record { box = extent; format = format }) extent (record { box = proper.0; limits = proper.1 }) (λ u v h. h) proper.0
edit-keeps layout is (Sub name parent r) proper done =
    by_value _ (find layout.buffers parent) done.0 (λ view e.
    rw e (IsLayout-with_view layout is name done.1.0 done.1.1 (part_of view r) (part-rooted layout view r (rooted_view layout is parent view e) proper)))
edit-keeps layout is (Duplicate name from) proper done =
    by_value _ (find layout.buffers from) done.0 (λ view e.
    let rooted = rooted_view layout is from view e in
    rw e (IsLayout-with_root layout is name done.1.0 done.1.1 (root_shape layout view.root) view.extent (kept_root layout is view.root rooted.root) rooted.inside rooted.extent))
edit-keeps layout is (Fill name r samples) proper done = is
edit-keeps layout is (Put name r bytes) proper done = is
edit-keeps layout is (Copy from to r dx dy) proper done = is
