-- What is known of buffers by their names, and why edits are refused by it.
use Rattle.std.proofs.Common.{◌≡◌, ℕ, ◌<◌, ◌≤◌, Bool, true, false, arith, List, length, Option, Some, None, Result, Ok, Err, refl, sym, ap, ◌∙◌}
use Rattle.std.specs.Prelude.{IfErr, IfOk, nat_le}
use Rattle.std.proofs.lemmas.Bool.Decides.{nat_tests}
use Rattle.std.specs.Option.{is_some, option_map}
use Rattle.std.proofs.lemmas.List.{length-map}
use Rattle.plane_rect.specs.declared.rect.RectRefused.{RectRefused}
use Rattle.plane_rect.specs.Rectangle.{Rectangle, includes}
use Rattle.pixel_formats.specs.Format.{same_format}
use Rattle.pixel_formats.specs.Limits.{max_buffers}
use Rattle.pixel_formats.specs.declared.format.Format.{Format}
use Rattle.model_graphs.specs.Facts.{fact_of}
use Rattle.model_graphs.specs.Shapes.{Shape}
use Rattle.model_graphs.specs.declared.buffer.BufferFact.{BufferFact}
use Rattle.model_buffers.specs.declared.edit.BufferEdit.{BufferEdit}
use Rattle.model_buffers.specs.declared.refused.EditRefused.{EditRefused}
use Rattle.model_buffers.specs.declared.refused.EditRefused.TheVariants.{Formats, NameTaken, TooManyBuffers, UnknownBuffer}
use Rattle.model_buffers.specs.BufferEdit.{Refusal, add_refused, copy_refused, edit_refused, if_known, unless}
use Rattle.model_buffers.specs.Layout.{TableLayout, View, fact_in, facts_of, find, root_shape, view_shape}
use Rattle.model_buffers.proofs.FactLaws.{fact-found}
use Rattle.buffer_layouts.specs.declared.views.RootView.{RootView}
use Rattle.buffer_layouts.specs.Views.{IsTarget, on_root, root_number, root_view, seen_shape}

module _ (layout : TableLayout) where
  -- ---- facts and views

  pub fact_count : length (facts_of layout) ≡ length layout.buffers
  fact_count = length-map layout.buffers (λ (entry : List ℕ × View). fact_in layout entry.0 entry.1)

  module _ (name : List ℕ) where
    pub known_by_fact : is_some (fact_of (facts_of layout) name) ≡ is_some (find layout.buffers name)
    known_by_fact = ap is_some (fact-found layout name) ∙ by (find layout.buffers name)
      where
        by : (o : Option View) → is_some (option_map (fact_in layout name) o) ≡ is_some o
        by (Some view) = refl
        by None = refl

    pub unknown_by_fact : fact_of (facts_of layout) name ≡ None → find layout.buffers name ≡ None
    unknown_by_fact none = by (find layout.buffers name) (sym (fact-found layout name) ∙ none)
      where
        by : (o : Option View) → option_map (fact_in layout name) o ≡ None → o ≡ None
        by (Some view) e = absurd (cc)
        by None e = refl

    -- the view by which a buffer has its fact
    pub by_fact : (P : Type 0) (fact : BufferFact) → fact_of (facts_of layout) name ≡ Some fact
        → ((view : View) → find layout.buffers name ≡ Some view → fact_in layout name view ≡ fact → P) → P
    by_fact P fact there then = by (find layout.buffers name) refl (sym (fact-found layout name) ∙ there)
      where
        by : (o : Option View) → find layout.buffers name ≡ o → option_map (fact_in layout name) o ≡ Some fact → P
        by (Some view) e same = then view e (cc)
        by None e same = absurd (cc)

    pub refused_by_fact : (fact : BufferFact) (next : Refusal) → fact_of (facts_of layout) name ≡ Some fact → if_known (find layout.buffers name) (λ view. next) ≡ next
    refused_by_fact fact next there = by_fact _ fact there (λ view e same. rw e refl)

    pub refused_without_fact : (next : View → Refusal) → fact_of (facts_of layout) name ≡ None → if_known (find layout.buffers name) next ≡ Some UnknownBuffer
    refused_without_fact next none = rw (unknown_by_fact none) refl

    pub view_by_fact : (fact : BufferFact) (seen : RootView) → fact_of (facts_of layout) name ≡ Some fact → seen.root ≡ root_number layout fact.root
        → seen.bounds ≡ (root_shape layout fact.root).box → seen.format ≡ fact.format → seen.extent ≡ fact.bounds → Some seen ≡ root_view layout name
    view_by_fact fact seen there root bounds format extent = by_fact _ fact there (λ view e same.
        let same_root : root_number layout view.root ≡ seen.root = ap (λ (fact : BufferFact). root_number layout fact.root) same ∙ sym root in
        let same_bounds : (root_shape layout view.root).box ≡ seen.bounds = ap (λ (fact : BufferFact). (root_shape layout fact.root).box) same ∙ sym bounds in
        let same_format : (root_shape layout view.root).format ≡ seen.format = ap (λ (fact : BufferFact). fact.format) same ∙ sym format in
        let same_extent : view.extent ≡ seen.extent = ap (λ (fact : BufferFact). fact.bounds) same ∙ sym extent in
        let is : on_root layout view ≡ seen =
        ap (λ (root : ℕ). record { root = root; bounds = (root_shape layout view.root).box; format = (root_shape layout view.root).format; extent = view.extent }) same_root
        ∙ ap (λ (bounds : Rectangle). record { root = seen.root; bounds = bounds; format = (root_shape layout view.root).format; extent = view.extent }) same_bounds
        ∙ ap (λ (format : Format). record { root = seen.root; bounds = seen.bounds; format = format; extent = view.extent }) same_format
        ∙ ap (λ (extent : Rectangle). record { root = seen.root; bounds = seen.bounds; format = seen.format; extent = extent }) same_extent in
        rw e (ap (λ (view : RootView). Some view) (sym is)))

    pub no_view_by_fact : fact_of (facts_of layout) name ≡ None → None ≡ root_view layout name
    no_view_by_fact none = rw (unknown_by_fact none) refl

    -- ---- refusals

    pub refused_unknown : (next : View → Refusal) → root_view layout name ≡ None → if_known (find layout.buffers name) next ≡ Some UnknownBuffer
    refused_unknown next none = by (find layout.buffers name) none
      where
        by : (o : Option View) → option_map (on_root layout) o ≡ None → if_known o next ≡ Some UnknownBuffer
        by (Some view) e = absurd (cc)
        by None e = refl

    pub refused_by_view : (next : Shape → Refusal) (seen : RootView) → root_view layout name ≡ Some seen
        → if_known (find layout.buffers name) (λ view. next (view_shape layout view)) ≡ next (seen_shape seen)
    refused_by_view next seen there = by (find layout.buffers name) there
      where
        by : (o : Option View) → option_map (on_root layout) o ≡ Some seen → if_known o (λ view. next (view_shape layout view)) ≡ next (seen_shape seen)
        by (Some view) e = let same : on_root layout view ≡ seen = cc in ap (λ (seen : RootView). next (seen_shape seen)) same
        by None e = absurd (cc)

    -- whether a buffer has the name, by the facts
    abbrev has_fact : Bool
    has_fact = is_some (fact_of (facts_of layout) name)

    pub taken : has_fact ≡ true → Some NameTaken ≡ add_refused layout name
    taken known = rw (sym known_by_fact ∙ known) refl

    pub full : has_fact ≡ false → max_buffers ≤ length (facts_of layout) → Some TooManyBuffers ≡ add_refused layout name
    full unknown many =
        let test : nat_le max_buffers (length layout.buffers) ≡ true = grind (arith, nat_tests, fact_count, many) in rw (sym known_by_fact ∙ unknown, test) refl

    pub addable : has_fact ≡ false → length (facts_of layout) < max_buffers → None ≡ add_refused layout name
    addable unknown few =
        let test : nat_le max_buffers (length layout.buffers) ≡ false = grind (arith, nat_tests, fact_count, few) in rw (sym known_by_fact ∙ unknown, test) refl

-- what is answered where an edit asks of the shape of a buffer alone
module _ {layout : TableLayout} {name : List ℕ} {edit : BufferEdit} (next : Shape → Refusal)
    (asks : edit_refused layout edit ≡ if_known (find layout.buffers name) (λ view. next (view_shape layout view))) where
  pub target-unknown : root_view layout name ≡ None → IsTarget layout name edit (Err UnknownBuffer)
  target-unknown none = record {
    carried_out = tt;
    target = tt;
    refused = asks ∙ refused_unknown layout name (λ view. next (view_shape layout view)) none;
  }

  pub target-known : {seen : RootView} {refusal : Refusal} {result : Result RootView EditRefused} → root_view layout name ≡ Some seen
      → refusal ≡ next (seen_shape seen) → IfOk result (λ shown. (shown ≡ seen) × (refusal ≡ None)) → IfErr result (λ cause. refusal ≡ Some cause)
      → IsTarget layout name edit result
  target-known {seen = seen} {result = Ok shown} there is view refused = record {
    carried_out = asks ∙ refused_by_view layout name next seen there ∙ sym is ∙ view.1;
    target = there ∙ ap (λ (view : RootView). Some view) (sym view.0);
    refused = tt;
  }
  target-known {seen = seen} {result = Err cause} there is view refused = record {
    carried_out = tt;
    target = tt;
    refused = asks ∙ refused_by_view layout name next seen there ∙ sym is ∙ refused;
  }

-- ---- copies

module _ (layout : TableLayout) (from to : List ℕ) (rectangle : Rectangle) (moved : Result Rectangle RectRefused) where
  pub copy_by_views : (source target : RootView) → root_view layout from ≡ Some source → root_view layout to ≡ Some target
      → if_known (find layout.buffers from) (λ source. if_known (find layout.buffers to) (λ target. copy_refused (view_shape layout source) (view_shape layout target) rectangle moved))
      ≡ copy_refused (seen_shape source) (seen_shape target) rectangle moved
  copy_by_views source target source_is target_is =
      refused_by_view layout from (λ shape. if_known (find layout.buffers to) (λ target. copy_refused shape (view_shape layout target) rectangle moved)) source source_is
      ∙ refused_by_view layout to (λ shape. copy_refused (seen_shape source) shape rectangle moved) target target_is

  pub no_copy_target : (source : RootView) → root_view layout from ≡ Some source → root_view layout to ≡ None
      → if_known (find layout.buffers from) (λ source. if_known (find layout.buffers to) (λ target. copy_refused (view_shape layout source) (view_shape layout target) rectangle moved))
      ≡ Some UnknownBuffer
  no_copy_target source source_is none =
      refused_by_view layout from (λ shape. if_known (find layout.buffers to) (λ target. copy_refused shape (view_shape layout target) rectangle moved)) source source_is
      ∙ refused_unknown layout to (λ target. copy_refused (seen_shape source) (view_shape layout target) rectangle moved) none

-- where both rectangles are in their buffers, the formats decide
pub copied_by_formats : (source target : Shape) (rectangle there : Rectangle) (moved : Result Rectangle RectRefused) (same : Bool) → includes source.box rectangle ≡ true
    → moved ≡ Ok there → includes target.box there ≡ true → same_format source.format target.format ≡ same
    → copy_refused source target rectangle moved ≡ unless same Formats None
copied_by_formats source target rectangle there moved same inside is inside_too formats = rw (inside, is, inside_too, formats) refl
