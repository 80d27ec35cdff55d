-- What adding a buffer makes of what is held.
use Rattle.std.proofs.Common.{◌≡◌, List, ℕ, [], ◌∷◌, ◌++◌, Option, Some, None, refl, sym, ap, ◌∙◌, subst}
use Rattle.std.specs.Prelude.{MatchOption}
use Rattle.std.specs.Option.{IsSomeAnd, option_map}
use Rattle.plane_rect.specs.Rectangle.{IsRectangle, Rectangle, meet}
use Rattle.pixel_formats.specs.declared.format.Format.{Format}
use Rattle.model_graphs.specs.Facts.{Facts, fact_of}
use Rattle.model_graphs.specs.Shapes.{Shape}
use Rattle.model_graphs.specs.declared.buffer.BufferFact.{BufferFact}
use Rattle.model_buffers.specs.declared.edit.BufferEdit.{BufferEdit}
use Rattle.model_buffers.specs.declared.edit.BufferEdit.TheVariants.{Duplicate, Sub}
use Rattle.model_buffers.specs.BufferEdit.{IsProperEdit, added, edit_refused, layout_with, layout_with_root}
use Rattle.model_buffers.specs.Causes.{IsCarriedOut, IsRefused}
use Rattle.model_buffers.specs.Layout.{IsLayout, TableLayout, View, facts_of, find}
use Rattle.model_buffers.proofs.CauseLaws.{causes}
use Rattle.model_buffers.proofs.LayoutLaws.{by_value, edit-keeps, no_root, rooted_view}
use Rattle.buffer_layouts.specs.Layouts.{AreHeld, HasRootFormat, layout_of_facts}
use Rattle.buffer_layouts.specs.Views.{on_root, root_view}
use Rattle.buffer_layouts.specs.declared.views.RootShape.{RootShape}
use Rattle.buffer_layouts.specs.declared.views.RootView.{RootView}
use Rattle.buffer_layouts.proofs.Answering.{by_fact, unknown_by_fact}
use Rattle.buffer_layouts.proofs.Held.{buffers_pushed, root_added, roots_pushed, view_added}

-- ---- edits that are carried out

module _ (layout : TableLayout) where
  pub carried_out : (edit : BufferEdit) → edit_refused layout edit ≡ None → IsCarriedOut layout edit
  carried_out edit none = subst (λ o. MatchOption o (IsCarriedOut layout edit) (IsRefused layout edit)) none (causes layout edit)

  pub kept : IsLayout layout → (edit : BufferEdit) → IsProperEdit edit → edit_refused layout edit ≡ None → IsLayout (layout_with layout edit)
  kept is edit proper none = edit-keeps layout is edit proper (carried_out edit none)

  pub duplicate_is : (name from : List ℕ) (seen : RootView) → root_view layout from ≡ Some seen
      → layout_with layout (Duplicate name from) ≡ layout_with_root layout name (record { box = seen.bounds; format = seen.format }) seen.extent
  duplicate_is name from seen there = by (find layout.buffers from) refl there
    where
      by : (o : Option View) → find layout.buffers from ≡ o → option_map (on_root layout) o ≡ Some seen
          → layout_with layout (Duplicate name from) ≡ layout_with_root layout name (record { box = seen.bounds; format = seen.format }) seen.extent
      by (Some view) e same =
          let is : on_root layout view ≡ seen = cc in
          rw e (ap (λ (seen : RootView). layout_with_root layout name (record { box = seen.bounds; format = seen.format }) seen.extent) is)
      by None e same = absurd (cc)

-- ---- what is held

module _ (roots : List RootShape) (facts : Facts) (held : AreHeld roots facts) (now : TableLayout) (is : layout_of_facts roots facts ≡ now) where
  layout_now : IsLayout now
  layout_now = subst IsLayout is held.layout

  -- a root is added with a buffer of its name
  module _ (name : List ℕ) (bounds extent : Rectangle) (format : Format) (roots_after : List RootShape) (facts_after : Facts)
      (more_roots : roots_after ≡ roots ++ record { name = name; bounds = bounds; format = format } ∷ [])
      (more_facts : facts_after ≡ facts ++ record { name = name; root = name; bounds = extent; format = format } ∷ []) where
    abbrev root : RootShape
    root = record { name = name; bounds = bounds; format = format }

    abbrev fact : BufferFact
    fact = record { name = name; root = name; bounds = extent; format = format }

    pub root_kept : IsLayout (layout_with_root now name (record { box = bounds; format = format }) extent) → find now.buffers name ≡ None → AreHeld roots_after facts_after
    root_kept after new =
        let none : find now.roots name ≡ None = no_root now layout_now name new in
        rw (more_roots, more_facts)
        (root_added roots facts held root fact (subst (λ (layout : TableLayout). find layout.roots name ≡ None) (sym is) none) refl refl
        (subst (λ (layout : TableLayout). IsLayout (layout_with_root layout name (record { box = bounds; format = format }) extent)) (sym is) after))

    pub root_after : layout_of_facts roots_after facts_after ≡ layout_with_root now name (record { box = bounds; format = format }) extent
    root_after =
        ap (λ roots. layout_of_facts roots facts_after) more_roots ∙ ap (layout_of_facts (roots ++ root ∷ [])) more_facts
        ∙ rw (roots_pushed roots facts held root fact, buffers_pushed roots facts held fact) refl
        ∙ ap (λ (layout : TableLayout). layout_with_root layout name (record { box = bounds; format = format }) extent) is

  -- a part of a parent is added
  module _ (name parent : List ℕ) (rectangle : Rectangle) (seen : BufferFact) (there : fact_of (facts_of now) parent ≡ Some seen) (facts_after : Facts)
      (more : facts_after ≡ facts ++ record { name = name; root = seen.root; bounds = meet rectangle seen.bounds; format = seen.format } ∷ []) where
    abbrev part : BufferFact
    part = record { name = name; root = seen.root; bounds = meet rectangle seen.bounds; format = seen.format }

    abbrev part_view : View
    part_view = record { root = seen.root; extent = meet rectangle seen.bounds }

    part_is : layout_with now (Sub name parent rectangle) ≡ record { roots = now.roots; buffers = added now.buffers name part_view }
    part_is = by_fact now parent _ seen there (λ view e same.
        rw e (ap (λ (fact : BufferFact). record { roots = now.roots; buffers = added now.buffers name (record { root = fact.root; extent = meet rectangle fact.bounds }) }) same))

    part_format : HasRootFormat now.roots part
    part_format = by_fact now parent _ seen there (λ view e same.
        by_value _ (find now.roots view.root) (rooted_view now layout_now parent view e).root (λ (shape : Shape) root.
        subst (λ (fact : BufferFact). IsSomeAnd (find now.roots fact.root) (λ (shape : Shape). shape.format ≡ fact.format)) same (rw root refl)))

    pub part_kept : IsRectangle rectangle → edit_refused now (Sub name parent rectangle) ≡ None → AreHeld roots facts_after
    part_kept proper none =
        let after : IsLayout (record { roots = now.roots; buffers = added now.buffers name part_view }) =
        subst IsLayout part_is (kept now layout_now (Sub name parent rectangle) proper none) in
        rw more
        (view_added roots facts held part
        (subst (λ (layout : TableLayout). IsLayout (record { roots = layout.roots; buffers = added layout.buffers name part_view })) (sym is) after)
        (subst (λ (layout : TableLayout). HasRootFormat layout.roots part) (sym is) part_format))

    pub part_after : layout_of_facts roots facts_after ≡ layout_with now (Sub name parent rectangle)
    part_after =
        ap (layout_of_facts roots) more ∙ rw (buffers_pushed roots facts held part) refl
        ∙ ap (λ (layout : TableLayout). record { roots = layout.roots; buffers = added layout.buffers name part_view }) is ∙ sym part_is

-- a parent that isn't there adds nothing
pub part_of_none : (now : TableLayout) (name parent : List ℕ) (rectangle : Rectangle) → fact_of (facts_of now) parent ≡ None → now ≡ layout_with now (Sub name parent rectangle)
part_of_none now name parent rectangle none = rw (unknown_by_fact now parent none) refl
