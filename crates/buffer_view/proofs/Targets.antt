-- The roots that edits write to.
use Rattle.std.proofs.Common.{◌≡◌, ℕ, List, get_or, length, Option, Some, None, refl, sym, ap, subst, ◌∙◌}
use Rattle.std.specs.Prelude.{slice_get}
use Rattle.std.specs.Option.{IsSomeAnd, option_map}
use Rattle.buffer_layouts.specs.Views.{on_root, root_view}
use Rattle.buffer_layouts.specs.declared.views.RootView.{RootView}
use Rattle.buffer_layouts.proofs.Adding.{carried_out}
use Rattle.buffer_layouts.proofs.Rooted.{entry_of_view}
use Rattle.model_buffers.specs.BufferEdit.{IsPixel, edit_refused}
use Rattle.model_buffers.specs.Edits.{by_view, evenly, table_with, written}
use Rattle.model_buffers.specs.Layout.{IsLayout, TableLayout, View, buffer_shape, find, root_shape, seen_shape, view_shape}
use Rattle.model_buffers.specs.Table.{Table, layout_of, root_image}
use Rattle.model_buffers.specs.declared.edit.BufferEdit.{BufferEdit}
use Rattle.model_buffers.specs.declared.edit.BufferEdit.TheVariants.{Fill, Put}
use Rattle.model_buffers.proofs.LayoutLaws.{rooted_view}
use Rattle.model_buffers.proofs.ShapeLaws.{root_shape-is}
use Rattle.model_graphs.specs.Shapes.{Shape}
use Rattle.model_images.specs.FromRaw.{byte_count, pixels_from_raw}
use Rattle.model_images.specs.Image.{Image}
use Rattle.pixel_formats.specs.declared.format.Format.{Format}
use Rattle.plane_rect.specs.Rectangle.{Includes, Rectangle}
use Rattle.root_tiles.specs.Roots.{RootTiles}
use Rattle.buffer_view.specs.BufferTables.{BufferTable}

-- two meanings of a table that may not be known
pub mapped-same : {X Y Z : Type 0} (o : Option X) (t : Y) (f g : Y → Z) → f t ≡ g t
    → option_map f (option_map (λ (x : X). t) o) ≡ option_map g (option_map (λ (x : X). t) o)
mapped-same None t f g same = refl
mapped-same (Some x) t f g same = ap Some same

-- a value that is there, of which more is known
pub there-weaker : {X : Type 0} (P Q : X → Type 0) (o : Option X) → ((x : X) → P x → Q x) → IsSomeAnd o P → IsSomeAnd o Q
there-weaker P Q None weaker there = there
there-weaker P Q (Some x) weaker there = weaker x there

-- what a table shows from within it shows from without
module _ (inside now : BufferTable) (same : inside ≡ now) where
  pub target-here : (name : List ℕ) (seen : RootView) → root_view inside.layout name ≡ Some seen → root_view now.layout name ≡ Some seen
  target-here name seen target = ap (λ (b : BufferTable). root_view b.layout name) (sym same) ∙ target

  pub carried-here : (edit : BufferEdit) → edit_refused inside.layout edit ≡ None → edit_refused now.layout edit ≡ None
  carried-here edit none = ap (λ (b : BufferTable). edit_refused b.layout edit) (sym same) ∙ none

  pub root-here : (number : ℕ) (root : RootTiles) → root ≡ get_or inside.roots number root → get_or now.roots number root ≡ root
  root-here number root is = sym (is ∙ ap (λ (b : BufferTable). get_or b.roots number root) same)

module _ (layout : TableLayout) (is : IsLayout layout) (name : List ℕ) (seen : RootView) (target : root_view layout name ≡ Some seen) where
  -- what is seen is a view of the root of the number
  pub by_target : (P : Type 0) → ((view : View) → find layout.buffers name ≡ Some view → on_root layout view ≡ seen
      → slice_get layout.roots seen.root ≡ Some (view.root, root_shape layout view.root)
      → Includes (root_shape layout view.root).box view.extent → P) → P
  by_target P then = by (find layout.buffers name) refl target
    where
      by : (o : Option View) → find layout.buffers name ≡ o → option_map (on_root layout) o ≡ Some seen → P
      by None e there = absurd (cc)
      by (Some view) e there =
          let seen_is : on_root layout view ≡ seen = cc in
          then view e seen_is (subst (λ (s : RootView). slice_get layout.roots s.root ≡ Some (view.root, root_shape layout view.root)) seen_is (entry_of_view layout name view is e))
          (rooted_view layout is name view e).inside

  abbrev OfEntry : (Shape → Type 0) → Type 0
  OfEntry P = IsSomeAnd (slice_get layout.roots seen.root) (λ (entry : List ℕ × Shape). P entry.1)

  -- what holds of the buffer's shape holds of the root's
  pub of-buffer : (r : Rectangle) (P : Format → Type 0) → Includes (buffer_shape layout name).box r → P (buffer_shape layout name).format
      → OfEntry (λ shape. Includes shape.box r) × OfEntry (λ shape. P shape.format)
  of-buffer r P inside format =
      by_target _ (λ view there seen_is entry within.
      let shape : buffer_shape layout name ≡ view_shape layout view = ap (seen_shape layout) there in
      let part : Includes view.extent r = subst (λ (s : Shape). Includes s.box r) shape inside in
      let has : P (root_shape layout view.root).format = subst (λ (s : Shape). P s.format) shape format in (
        subst (λ (o : Option (List ℕ × Shape)). IsSomeAnd o (λ (entry : List ℕ × Shape). Includes entry.1.box r)) (sym entry) (λ u v h. within u v (part u v h)),
        subst (λ (o : Option (List ℕ × Shape)). IsSomeAnd o (λ (entry : List ℕ × Shape). P entry.1.format)) (sym entry) has,
      ))

  pub fill-can : (r : Rectangle) (samples : List ℕ) → edit_refused layout (Fill name r samples) ≡ None
      → OfEntry (λ shape. Includes shape.box r) × OfEntry (λ shape. IsPixel shape.format samples)
  fill-can r samples none = let can = carried_out layout (Fill name r samples) none in of-buffer r (λ format. IsPixel format samples) can.0.1 can.1

  pub put-can : (r : Rectangle) (bytes : List ℕ) → edit_refused layout (Put name r bytes) ≡ None
      → OfEntry (λ shape. Includes shape.box r) × OfEntry (λ shape. length bytes ≡ byte_count r shape.format)
  put-can r bytes none = let can = carried_out layout (Put name r bytes) none in of-buffer r (λ format. length bytes ≡ byte_count r format) can.0.1 can.1

  -- the same bytes for several workers
  pub put-split : {S : Type 0} (r : Rectangle) (bytes : List ℕ) → edit_refused layout (Put name r bytes) ≡ None → S
      → OfEntry (λ shape. S × (length bytes ≡ byte_count r shape.format))
  put-split {S} r bytes none shared =
      there-weaker (λ (entry : List ℕ × Shape). length bytes ≡ byte_count r entry.1.format)
      (λ (entry : List ℕ × Shape). S × (length bytes ≡ byte_count r entry.1.format)) (slice_get layout.roots seen.root) (λ entry long. (shared, long))
      (put-can r bytes none).1

  -- ---- what the tables show then

  module _ {X : Type 0} (content : Option X) (images : List (List ℕ × Image)) (shown : Option Table) where
    abbrev table : Table
    table = record { roots = images; buffers = layout.buffers }

    abbrev IsShown : (Shape → ℕ → ℕ → ℕ → ℕ) → Rectangle → Type 0
    IsShown f r = (root : List ℕ) (shape : Shape) → slice_get layout.roots seen.root ≡ Some (root, shape)
        → shown ≡ option_map (λ (t : Table). written t root r (f shape)) (option_map (λ (x : X). table) content)

    pub fill-shown : (r : Rectangle) (samples : List ℕ) → IsShown (λ shape. evenly samples) r
        → shown ≡ option_map (λ (t : Table). table_with t (Fill name r samples)) (option_map (λ (x : X). table) content)
    fill-shown r samples is_shown =
        by_target _ (λ view there seen_is entry within.
        is_shown view.root (root_shape layout view.root) entry
        ∙ mapped-same content table (λ (t : Table). written t view.root r (evenly samples)) (λ (t : Table). table_with t (Fill name r samples))
        (sym (ap (λ (o : Option View). by_view table o (λ view. written table view.root r (evenly samples))) there)))

    pub put-shown : (r : Rectangle) (bytes : List ℕ) → layout_of table ≡ layout → IsShown (λ shape. pixels_from_raw r shape.format bytes) r
        → shown ≡ option_map (λ (t : Table). table_with t (Put name r bytes)) (option_map (λ (x : X). table) content)
    put-shown r bytes same is_shown =
        by_target _ (λ view there seen_is entry within.
        is_shown view.root (root_shape layout view.root) entry
        ∙ mapped-same content table (λ (t : Table). written t view.root r (pixels_from_raw r (root_shape layout view.root).format bytes))
        (λ (t : Table). table_with t (Put name r bytes))
        (ap (λ (format : Format). written table view.root r (pixels_from_raw r format bytes)) (sym (format-of view.root same))
        ∙ sym (ap (λ (o : Option View). by_view table o (λ view. written table view.root r (pixels_from_raw r (root_image table view.root).format bytes))) there)))
      where
        format-of : (root : List ℕ) → layout_of table ≡ layout → (root_image table root).format ≡ (root_shape layout root).format
        format-of root same =
            ap (λ (shape : Shape). shape.format) (sym (root_shape-is table root)) ∙ ap (λ (l : TableLayout). (root_shape l root).format) same
