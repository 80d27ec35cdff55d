-- The layouts of tables, and the layout of an edited one.
use Rattle.std.proofs.Common.{◌≡◌, ℕ, Bool, true, false, cond, List, [], ◌∷◌, map, Option, Some, None, Result, Ok, Err, IfOk, refl, sym, ap, ◌∙◌}
use Rattle.std.specs.Prelude.{unwrap_or}
use Rattle.std.specs.Option.{option_map}
use Rattle.std.specs.Str.{bytes_eq}
use Rattle.std.proofs.lemmas.List.{map-append}
use Rattle.std.proofs.lemmas.Map.Made.{lookup-map_values}
use Rattle.plane_rect.specs.declared.rect.RectRefused.{RectRefused}
use Rattle.plane_rect.specs.Rectangle.{Rectangle, shifted}
use Rattle.model_images.specs.Image.{Image}
use Rattle.model_images.specs.Paint.{no_image, painted}
use Rattle.model_images.specs.FromRaw.{pixels_from_raw}
use Rattle.model_graphs.specs.Shapes.{Shape, no_shape, shape_of_image}
use Rattle.model_buffers.specs.declared.edit.BufferEdit.{BufferEdit}
use Rattle.model_buffers.specs.declared.edit.BufferEdit.TheVariants.{Create, Sub, Duplicate, Fill, Put, Copy}
use Rattle.model_buffers.specs.BufferEdit.{Refusal, added, edit_refused, layout_with, layout_with_duplicate, layout_with_part, layout_with_root, part_of}
use Rattle.model_buffers.specs.Edits.{by_move, by_view, edited_table, evenly, moved_samples, table_with, unless_refused, with_root, with_view, written}
use Rattle.model_buffers.specs.Layout.{View, buffer_shape, find, root_shape, seen_shape}
use Rattle.model_buffers.specs.Table.{Table, image_of, layout_of, root_image, seen}

pub find-shapes : (table : Table) (root : List ℕ) → find (layout_of table).roots root ≡ option_map shape_of_image (find table.roots root)
find-shapes table root = lookup-map_values shape_of_image (bytes_eq root) table.roots

pub root_shape-is : (table : Table) (root : List ℕ) → root_shape (layout_of table) root ≡ shape_of_image (root_image table root)
root_shape-is table root = rw (find-shapes table root) (cases (find table.roots root))
  where
    cases : (o : Option Image) → unwrap_or (option_map shape_of_image o) no_shape ≡ shape_of_image (unwrap_or o no_image)
    cases (Some image) = refl
    cases None = refl

pub buffer_shape-is : (table : Table) (name : List ℕ) → buffer_shape (layout_of table) name ≡ shape_of_image (image_of table name)
buffer_shape-is table name = cases (find table.buffers name)
  where
    cases : (o : Option View) → seen_shape (layout_of table) o ≡ shape_of_image (seen table o)
    cases (Some view) = ap (λ (shape : Shape). record { box = view.extent; format = shape.format }) (root_shape-is table view.root)
    cases None = refl

-- ---- an edited table

root-added : (table : Table) (name : List ℕ) (image : Image) (extent : Rectangle)
    → layout_of (with_root table name image extent) ≡ layout_with_root (layout_of table) name (shape_of_image image) extent
root-added table name image extent =
    let entry : List ℕ × Image → List ℕ × Shape = λ e. (e.0, shape_of_image e.1) in
    ap (λ (roots : List (List ℕ × Shape)). record { roots = roots; buffers = added table.buffers name (record { root = name; extent = extent }) })
    (map-append entry table.roots ((name, image) ∷ []))

module _ (root : List ℕ) (r : Rectangle) (f : ℕ → ℕ → ℕ → ℕ) where
  abbrev shaped : List ℕ × Image → List ℕ × Shape
  shaped e = (e.0, shape_of_image e.1)

  abbrev changed : List ℕ × Image → List ℕ × Image
  changed e = (e.0, cond (bytes_eq root e.0) (painted e.1 r f) e.1)

  same_shape : (b : Bool) (image : Image) → shape_of_image (cond b (painted image r f) image) ≡ shape_of_image image
  same_shape true image = refl
  same_shape false image = refl

  shapes-written : (entries : List (List ℕ × Image)) → map shaped (map changed entries) ≡ map shaped entries
  shapes-written [] = refl
  shapes-written (e ∷ entries) =
      ap (λ (shape : Shape). let first : List ℕ × Shape = (e.0, shape) in first ∷ map shaped (map changed entries)) (same_shape (bytes_eq root e.0) e.1)
      ∙ ap (λ (rest : List (List ℕ × Shape)). shaped e ∷ rest) (shapes-written entries)

  samples-written : (table : Table) → layout_of (written table root r f) ≡ layout_of table
  samples-written table =
      ap (λ (roots : List (List ℕ × Shape)). record { roots = roots; buffers = table.buffers }) (shapes-written table.roots)

-- what is done by a view keeps the layout, where it does so for each view
view-keeps : (table : Table) (o : Option View) (after : View → Table) → ((view : View) → layout_of (after view) ≡ layout_of table)
    → layout_of (by_view table o after) ≡ layout_of table
view-keeps table None after keeps = refl
view-keeps table (Some view) after keeps = keeps view

move-keeps : (table : Table) (moved : Result Rectangle RectRefused) (after : Rectangle → Table) → ((r : Rectangle) → layout_of (after r) ≡ layout_of table)
    → layout_of (by_move table moved after) ≡ layout_of table
move-keeps table (Ok r) after keeps = keeps r
move-keeps table (Err refused) after keeps = refl

part-added : (table : Table) (name : List ℕ) (r : Rectangle) (o : Option View)
    → layout_of (by_view table o (λ view. with_view table name (part_of view r))) ≡ layout_with_part (layout_of table) name r o
part-added table name r None = refl
part-added table name r (Some view) = refl

duplicate-added : (table : Table) (name : List ℕ) (o : Option View)
    → layout_of (by_view table o (λ view. with_root table name (root_image table view.root) view.extent)) ≡ layout_with_duplicate (layout_of table) name o
duplicate-added table name None = refl
duplicate-added table name (Some view) =
    root-added table name (root_image table view.root) view.extent
    ∙ ap (λ (shape : Shape). layout_with_root (layout_of table) name shape view.extent) (sym (root_shape-is table view.root))

pub layout-with : (table : Table) (edit : BufferEdit) → layout_of (table_with table edit) ≡ layout_with (layout_of table) edit
layout-with table (Create name format extent) = root-added table name _ extent
layout-with table (Sub name parent r) = part-added table name r (find table.buffers parent)
layout-with table (Duplicate name from) = duplicate-added table name (find table.buffers from)
layout-with table (Fill name r samples) = view-keeps table (find table.buffers name) _ (λ view. samples-written view.root r (evenly samples) table)
layout-with table (Put name r bytes) = view-keeps table (find table.buffers name) _ (λ view. samples-written view.root r (pixels_from_raw r (root_image table view.root).format bytes) table)
layout-with table (Copy from to r dx dy) =
    view-keeps table (find table.buffers to) _ (λ view. move-keeps table (shifted dx dy r) _ (λ moved. samples-written view.root moved (moved_samples (image_of table from) r moved) table))

pub layout-edited : (table : Table) (edit : BufferEdit) → IfOk (edited_table table edit) (λ after. layout_of after ≡ layout_with (layout_of table) edit)
layout-edited table edit = cases (edit_refused (layout_of table) edit)
  where
    cases : (r : Refusal) → IfOk (unless_refused r (table_with table edit)) (λ after. layout_of after ≡ layout_with (layout_of table) edit)
    cases None = layout-with table edit
    cases (Some refused) = tt
