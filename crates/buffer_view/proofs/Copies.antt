-- What a copy of a rectangle asks, and what it makes.
use Rattle.std.proofs.Common.{◌≡◌, ℕ, ℤ, ◌*◌, List, length, Option, Some, None, Result, refl, sym, ap, ap₂, subst, ◌∙◌}
use Rattle.std.specs.Prelude.{IfSome, slice_get, ⊤}
use Rattle.std.specs.Option.{IsSomeAnd, option_map}
use Rattle.buffer_layouts.specs.Views.{AreCopyParts}
use Rattle.buffer_layouts.specs.declared.views.CopyParts.{CopyParts}
use Rattle.buffer_layouts.proofs.Adding.{carried_out}
use Rattle.model_buffers.specs.BufferEdit.{edit_refused}
use Rattle.model_buffers.specs.Causes.{HasMoved, IsCarriedOut}
use Rattle.model_buffers.specs.Edits.{by_move, by_view, moved_samples, table_with, written}
use Rattle.model_buffers.specs.Layout.{IsLayout, TableLayout, View, buffer_shape, find, root_shape, seen_shape}
use Rattle.model_buffers.specs.Table.{IsTable, Table, image_of, layout_of, root_image, seen}
use Rattle.model_buffers.specs.declared.edit.BufferEdit.TheVariants.{Copy}
use Rattle.model_buffers.proofs.ShapeLaws.{root_shape-is}
use Rattle.model_graphs.specs.Shapes.{Shape}
use Rattle.model_images.specs.FromRaw.{byte_count, pixels_from_raw}
use Rattle.model_images.specs.Image.{Image}
use Rattle.model_images.specs.Paint.{cut}
use Rattle.model_images.specs.Raw.{raw}
use Rattle.pixel_formats.specs.Format.{pixel_bytes}
use Rattle.pixel_formats.specs.declared.format.Format.{Format}
use Rattle.plane_rect.specs.declared.rect.RectRefused.{RectRefused}
use Rattle.plane_rect.specs.Rectangle.{Includes, IsRectangle, Rectangle, area, shifted}
use Rattle.buffer_view.proofs.Copied.{moved-sample, moved-sides, written-same}
use Rattle.buffer_view.proofs.Targets.{by_target, of-buffer}

-- two meanings of a table, where it is known and something holds of it
mapped-where : {X Y Z : Type 0} (o : Option X) (t : Y) (P : Y → Type 0) (f g : Y → Z) → IfSome (option_map (λ (x : X). t) o) P → (P t → f t ≡ g t)
    → option_map f (option_map (λ (x : X). t) o) ≡ option_map g (option_map (λ (x : X). t) o)
mapped-where None t P f g has same = refl
mapped-where (Some x) t P f g has same = ap Some (same has)

module _ (layout : TableLayout) (is : IsLayout layout) (from to : List ℕ) (r : Rectangle) (dx dy : ℤ) (parts : CopyParts)
    (are : AreCopyParts layout from to r dx dy parts) (none : edit_refused layout (Copy from to r dx dy) ≡ None) (proper : IsRectangle r) where
  abbrev OfEntry : ℕ → (Shape → Type 0) → Type 0
  OfEntry n P = IsSomeAnd (slice_get layout.roots n) (λ (entry : List ℕ × Shape). P entry.1)

  abbrev can : IsCarriedOut layout (Copy from to r dx dy)
  can = carried_out layout (Copy from to r dx dy) none

  pub source-can : OfEntry parts.source.root (λ shape. Includes shape.box r)
  source-can = (of-buffer layout is from parts.source are.source r (λ format. ⊤) can.0.0.1 tt).0

  moved-in : Includes (buffer_shape layout to).box parts.moved
  moved-in = subst (HasMoved layout to) are.moved can.0.2

  area-same : area parts.moved ≡ area r
  area-same = let sides = moved-sides dx dy r parts.moved proper are.moved in ap₂ (λ (w h : ℕ). w * h) sides.width sides.height

  -- the formats of the roots are one
  module _ (source_view target_view : View) (s : find layout.buffers from ≡ Some source_view) (t : find layout.buffers to ≡ Some target_view) where
    formats : (root_shape layout source_view.root).format ≡ (root_shape layout target_view.root).format
    formats =
        sym (ap (λ (o : Option View). (seen_shape layout o).format) s) ∙ can.1 ∙ ap (λ (o : Option View). (seen_shape layout o).format) t

  pub target-can : (bytes : List ℕ)
      → ((root : List ℕ) (shape : Shape) → slice_get layout.roots parts.source.root ≡ Some (root, shape) → length bytes ≡ byte_count r shape.format)
      → OfEntry parts.target.root (λ shape. Includes shape.box parts.moved) × OfEntry parts.target.root (λ shape. length bytes ≡ byte_count parts.moved shape.format)
  target-can bytes count =
      by_target layout is from parts.source are.source _ (λ source_view s seen_is entry within.
      by_target layout is to parts.target are.target _ (λ target_view t target_is target_entry target_within.
      of-buffer layout is to parts.target are.target parts.moved (λ format. length bytes ≡ byte_count parts.moved format) moved-in
      (count source_view.root (root_shape layout source_view.root) entry
      ∙ ap₂ (λ (n : ℕ) (format : Format). n * pixel_bytes format) (sym area-same)
      (formats source_view target_view s t ∙ sym (ap (λ (o : Option View). (seen_shape layout o).format) t)))))

  -- ---- what the tables show then

  module _ {X : Type 0} (content : Option X) (images : List (List ℕ × Image)) (shown : Option Table) (bytes : List ℕ) where
    abbrev table : Table
    table = record { roots = images; buffers = layout.buffers }

    module _ (same : layout_of table ≡ layout) (whole : IsTable table) where
      format-of : (root : List ℕ) → (root_image table root).format ≡ (root_shape layout root).format
      format-of root =
          ap (λ (shape : Shape). shape.format) (sym (root_shape-is table root)) ∙ ap (λ (l : TableLayout). (root_shape l root).format) same

      after-copy : (source_view target_view : View) → find layout.buffers from ≡ Some source_view → find layout.buffers to ≡ Some target_view
          → table_with table (Copy from to r dx dy) ≡ written table target_view.root parts.moved (moved_samples (cut (root_image table source_view.root) source_view.extent) r parts.moved)
      after-copy source_view target_view s t =
          ap (λ (o : Option View). by_view table o (λ target. by_move table (shifted dx dy r) (λ moved.
          written table target.root moved (moved_samples (image_of table from) r moved)))) t
          ∙ ap (λ (m : Result Rectangle RectRefused). by_move table m (λ moved. written table target_view.root moved (moved_samples (image_of table from) r moved))) are.moved
          ∙ ap (λ (o : Option View). written table target_view.root parts.moved (moved_samples (seen table o) r parts.moved)) s

      same-written : (source_view target_view : View) → find layout.buffers from ≡ Some source_view → find layout.buffers to ≡ Some target_view
          → bytes ≡ raw (cut (root_image table source_view.root) r) r
          → written table target_view.root parts.moved (pixels_from_raw parts.moved (root_shape layout target_view.root).format bytes)
          ≡ written table target_view.root parts.moved (moved_samples (cut (root_image table source_view.root) source_view.extent) r parts.moved)
      same-written source_view target_view s t raw_is =
          let image = root_image table source_view.root in
          let format : image.format ≡ (root_shape layout target_view.root).format = format-of source_view.root ∙ formats source_view target_view s t in
          let inside : Includes source_view.extent r = subst (λ (o : Option View). Includes (seen_shape layout o).box r) s can.0.0.1 in
          let sides = moved-sides dx dy r parts.moved proper are.moved in
          ap (λ (f : Format). written table target_view.root parts.moved (pixels_from_raw parts.moved f bytes)) (sym format)
          ∙ written-same target_view.root parts.moved (pixels_from_raw parts.moved image.format bytes) (moved_samples (cut image source_view.extent) r parts.moved)
          image.format (λ u v c there known. moved-sample r parts.moved sides u v there image source_view.extent bytes c inside known raw_is)
          table whole (format-of target_view.root ∙ sym format)

      pub copy-shown : ((root : List ℕ) (shape : Shape) → slice_get layout.roots parts.target.root ≡ Some (root, shape)
          → shown ≡ option_map (λ (t : Table). written t root parts.moved (pixels_from_raw parts.moved shape.format bytes)) (option_map (λ (x : X). table) content))
          → ((root : List ℕ) (shape : Shape) → slice_get layout.roots parts.source.root ≡ Some (root, shape)
          → IfSome (option_map (λ (x : X). table) content) (λ (t : Table). bytes ≡ raw (cut (root_image t root) r) r))
          → shown ≡ option_map (λ (t : Table). table_with t (Copy from to r dx dy)) (option_map (λ (x : X). table) content)
      copy-shown is_shown raw_is =
          by_target layout is from parts.source are.source _ (λ source_view s seen_is entry within.
          by_target layout is to parts.target are.target _ (λ target_view t target_is target_entry target_within.
          is_shown target_view.root (root_shape layout target_view.root) target_entry
          ∙ mapped-where content table (λ (t : Table). bytes ≡ raw (cut (root_image t source_view.root) r) r)
          (λ (t : Table). written t target_view.root parts.moved (pixels_from_raw parts.moved (root_shape layout target_view.root).format bytes))
          (λ (t : Table). table_with t (Copy from to r dx dy))
          (raw_is source_view.root (root_shape layout source_view.root) entry)
          (λ known. same-written source_view target_view s t known ∙ sym (after-copy source_view target_view s t))))
