-- What the edits give.
use Rattle.std.proofs.Common.{◌≡◌, ℕ, ℤ, List, Option, Some, None, Result, Ok, Err, refl, sym, ◌∙◌, subst}
use Rattle.std.specs.Prelude.{IfOk, IfSome, MatchOption}
use Rattle.plane_rect.specs.declared.rect.RectRefused.{RectRefused}
use Rattle.plane_rect.specs.Rectangle.{Rectangle, Includes, IsRectangle, meet, shifted}
use Rattle.pixel_formats.specs.declared.format.Format.{Format}
use Rattle.model_images.specs.Image.{Image, IsImage}
use Rattle.model_images.specs.Paint.{blank, cut}
use Rattle.model_graphs.specs.Shapes.{Shape}
use Rattle.model_images.specs.FromRaw.{pixels_from_raw}
use Rattle.model_images.proofs.Laws.{IsImage-image_from_fn}
use Rattle.model_buffers.specs.declared.edit.BufferEdit.{BufferEdit}
use Rattle.model_buffers.specs.declared.edit.BufferEdit.TheVariants.{Create, Sub, Duplicate, Fill, Put, Copy}
use Rattle.model_buffers.specs.BufferEdit.{IsProperEdit, Refusal, edit_refused, part_of}
use Rattle.model_buffers.specs.Causes.{HasMoved, IsCarriedOut, IsKnown, IsRefused}
use Rattle.model_buffers.specs.Edits.{Edited, by_move, by_view, edited_table, evenly, moved_samples, table_with, unless_refused, with_root, with_view, written}
use Rattle.model_buffers.specs.Effects.{IsAdded, HasOwnRoot, IsWritten}
use Rattle.model_buffers.specs.Layout.{IsLayout, View, buffer_shape, find}
use Rattle.model_buffers.specs.Table.{Table, image_of, layout_of, root_image, root_of, IsTable}
use Rattle.model_buffers.proofs.AddingLaws.{IsAdded-with_view, root-with_view, IsAdded-with_root, HasOwnRoot-with_root, root_there, whole-with_root}
use Rattle.model_buffers.proofs.CauseLaws.{causes}
use Rattle.model_images.proofs.Agreeing.{cut-cut}
use Rattle.model_images.proofs.Painting.{cut-image_from_fn}
use Rattle.model_buffers.proofs.LayoutLaws.{by_value, edit-keeps, meet-part, of_some, rooted_view}
use Rattle.model_buffers.proofs.ShapeLaws.{buffer_shape-is, layout-with}
use Rattle.model_buffers.proofs.TableLaws.{IsWritten-written, whole-written}

-- what holds of the table after an edit that is carried out holds where the edit isn't refused
pub if_done : (P : Table → Type 0) (table : Table) (edit : BufferEdit) → (IsCarriedOut (layout_of table) edit → P (table_with table edit)) → IfOk (edited_table table edit) P
if_done P table edit done = cases (edit_refused (layout_of table) edit) (causes (layout_of table) edit)
  where
    cases : (r : Refusal) → MatchOption r (IsCarriedOut (layout_of table) edit) (IsRefused (layout_of table) edit) → IfOk (unless_refused r (table_with table edit)) P
    cases None carried = done carried
    cases (Some refused) cause = tt

-- the view of a buffer that is known
pub with_found : (P : Table → Type 0) (table : Table) (name : List ℕ) (after : View → Table) → IsKnown (layout_of table) name
    → ((view : View) → find table.buffers name ≡ Some view → P (after view)) → P (by_view table (find table.buffers name) after)
with_found P table name after there done =
    by_value _ (find table.buffers name) there (λ view e. subst (λ (o : Option View). P (by_view table o after)) (sym e) (done view e))

-- the rectangle after a move that is one
with_moved : (P : Table → Type 0) (table : Table) (dx dy : ℤ) (r moved : Rectangle) (after : Rectangle → Table) → shifted dx dy r ≡ Ok moved
    → P (after moved) → P (by_move table (shifted dx dy r) after)
with_moved P table dx dy r moved after e done = subst (λ m. P (by_move table m after)) (sym e) done

module _ (table : Table) (is : IsTable table) where
  pub whole_root : (root : List ℕ) (image : Image) → find table.roots root ≡ Some image → IsImage (root_image table root)
  whole_root root image e = rw e (of_some (find table.roots root) IsImage image e (is.whole root))

  -- ---- a table after an edit

  abbrev Whole : Table → Type 0
  Whole after = (root : List ℕ) → IfSome (find after.roots root) IsImage

  rooted_image : (name : List ℕ) (view : View) → find table.buffers name ≡ Some view → IsImage (root_image table view.root)
  rooted_image name view e =
      by_value _ (find table.roots view.root) (root_there table view.root (rooted_view (layout_of table) is.layout name view e).root) (whole_root view.root)

  move-whole : (moved : Result Rectangle RectRefused) (after : Rectangle → Table) → ((r : Rectangle) → Whole (after r)) → Whole (by_move table moved after)
  move-whole (Ok r) after whole = whole r
  move-whole (Err refused) after whole = is.whole

  whole-table : (edit : BufferEdit) → IsCarriedOut (layout_of table) edit → Whole (table_with table edit)
  whole-table (Create name format extent) done =
      whole-with_root table is name done.0 (blank extent format) extent (IsImage-image_from_fn extent format (λ u v c. 0))
  whole-table (Sub name parent r) done = with_found Whole table parent _ done.0 (λ view e. is.whole)
  whole-table (Duplicate name from) done =
      with_found Whole table from _ done.0 (λ view e.
      whole-with_root table is name done.1.0 (root_image table view.root) view.extent (rooted_image from view e))
  whole-table (Fill name r samples) done =
      with_found Whole table name _ done.0.0 (λ view e. whole-written table view.root r (evenly samples) is)
  whole-table (Put name r bytes) done =
      with_found Whole table name _ done.0.0 (λ view e. whole-written table view.root r (pixels_from_raw r (root_image table view.root).format bytes) is)
  whole-table (Copy from to r dx dy) done =
      with_found Whole table to _ done.0.1 (λ view e.
      move-whole (shifted dx dy r) _ (λ moved. whole-written table view.root moved (moved_samples (image_of table from) r moved) is))

  pub edited-table : (edit : BufferEdit) → IsProperEdit edit → IfOk (edited_table table edit) IsTable
  edited-table edit proper =
      if_done IsTable table edit (λ done. record {
        layout = subst IsLayout (sym (layout-with table edit)) (edit-keeps (layout_of table) is.layout edit proper done);
        whole = whole-table edit done;
      })

  -- ---- what is added

  pub created-image : (name : List ℕ) (format : Format) (extent : Rectangle) → IfOk (edited_table table (Create name format extent)) (IsAdded table name (blank extent format))
  created-image name format extent =
      if_done (IsAdded table name (blank extent format)) table (Create name format extent) (λ done.
      subst (λ (image : Image). IsAdded table name image (with_root table name (blank extent format) extent)) (cut-image_from_fn extent format (λ u v c. 0))
      (IsAdded-with_root table is name done.0 (blank extent format) extent))

  pub created-root : (name : List ℕ) (format : Format) (extent : Rectangle) → IfOk (edited_table table (Create name format extent)) (λ after. HasOwnRoot after name)
  created-root name format extent =
      if_done (λ after. HasOwnRoot after name) table (Create name format extent) (λ done. HasOwnRoot-with_root table is name done.0 (blank extent format) extent)

  -- what holds of a table with a sub-buffer, by its parent's view
  pub if_sub_buffer : (P : Table → Type 0) (name parent : List ℕ) (r : Rectangle)
      → ((view : View) → find table.buffers parent ≡ Some view → find table.buffers name ≡ None → P (with_view table name (part_of view r)))
      → IfOk (edited_table table (Sub name parent r)) P
  if_sub_buffer P name parent r each = if_done P table (Sub name parent r) (λ done. with_found P table parent _ done.0 (λ view e. each view e done.1.0))

  part-seen : (parent : List ℕ) (view : View) (r : Rectangle) → find table.buffers parent ≡ Some view
      → cut (root_image table view.root) (meet r view.extent) ≡ cut (image_of table parent) (meet r (image_of table parent).box)
  part-seen parent view r e = rw e (sym (cut-cut (root_image table view.root) view.extent (meet r view.extent) (meet-part r view.extent)))

  pub sub_buffer-image : (name parent : List ℕ) (r : Rectangle) → IsRectangle r
      → IfOk (edited_table table (Sub name parent r)) (IsAdded table name (cut (image_of table parent) (meet r (image_of table parent).box)))
  sub_buffer-image name parent r rectangle =
      if_sub_buffer (IsAdded table name (cut (image_of table parent) (meet r (image_of table parent).box))) name parent r (λ view e none.
      subst (λ (image : Image). IsAdded table name image (with_view table name (part_of view r))) (part-seen parent view r e)
      (IsAdded-with_view table is name none (part_of view r)))

  pub sub_buffer-root : (name parent : List ℕ) (r : Rectangle) → IsRectangle r → IfOk (edited_table table (Sub name parent r)) (λ after. root_of after name ≡ root_of table parent)
  sub_buffer-root name parent r rectangle =
      if_sub_buffer (λ after. root_of after name ≡ root_of table parent) name parent r (λ view e none.
      root-with_view table is name none (part_of view r) ∙ rw e refl)

  -- what holds of a table with a duplicate, by the view of the other
  pub if_duplicated : (P : Table → Type 0) (name from : List ℕ)
      → ((view : View) → find table.buffers from ≡ Some view → find table.buffers name ≡ None → P (with_root table name (root_image table view.root) view.extent))
      → IfOk (edited_table table (Duplicate name from)) P
  if_duplicated P name from each = if_done P table (Duplicate name from) (λ done. with_found P table from _ done.0 (λ view e. each view e done.1.0))

  pub duplicated-image : (name from : List ℕ) → IfOk (edited_table table (Duplicate name from)) (IsAdded table name (image_of table from))
  duplicated-image name from =
      if_duplicated (IsAdded table name (image_of table from)) name from (λ view e none.
      subst (λ (image : Image). IsAdded table name image (with_root table name (root_image table view.root) view.extent))
      (let there : cut (root_image table view.root) view.extent ≡ image_of table from = rw e refl in there)
      (IsAdded-with_root table is name none (root_image table view.root) view.extent))

  pub duplicated-root : (name from : List ℕ) → IfOk (edited_table table (Duplicate name from)) (λ after. HasOwnRoot after name)
  duplicated-root name from =
      if_duplicated (λ after. HasOwnRoot after name) name from (λ view e none.
      HasOwnRoot-with_root table is name none (root_image table view.root) view.extent)

  -- ---- what is written

  written_name : (name : List ℕ) (view : View) → find table.buffers name ≡ Some view → root_of table name ≡ Some view.root
  written_name name view e = rw e refl

  format-seen : (name : List ℕ) (view : View) → find table.buffers name ≡ Some view → (image_of table name).format ≡ (root_image table view.root).format
  format-seen name view e = rw e refl

  inside-image : (name : List ℕ) (r : Rectangle) → Includes (buffer_shape (layout_of table) name).box r → Includes (image_of table name).box r
  inside-image name r inside = subst (λ (shape : Shape). Includes shape.box r) (buffer_shape-is table name) inside

  pub filled-images : (name : List ℕ) (r : Rectangle) (samples : List ℕ) → IfOk (edited_table table (Fill name r samples)) (IsWritten table name r (evenly samples))
  filled-images name r samples =
      if_done (IsWritten table name r (evenly samples)) table (Fill name r samples) (λ done.
      with_found (IsWritten table name r (evenly samples)) table name _ done.0.0 (λ view e.
      IsWritten-written table view.root r (evenly samples) is name (written_name name view e) (inside-image name r done.0.1)))

  pub put-images : (name : List ℕ) (r : Rectangle) (bytes : List ℕ)
      → IfOk (edited_table table (Put name r bytes)) (IsWritten table name r (pixels_from_raw r (image_of table name).format bytes))
  put-images name r bytes =
      let f : ℕ → ℕ → ℕ → ℕ = pixels_from_raw r (image_of table name).format bytes in
      if_done (IsWritten table name r f) table (Put name r bytes) (λ done.
      with_found (IsWritten table name r f) table name _ done.0.0 (λ view e.
      subst (λ (format : Format). IsWritten table name r f (written table view.root r (pixels_from_raw r format bytes))) (format-seen name view e)
      (IsWritten-written table view.root r f is name (written_name name view e) (inside-image name r done.0.1))))

  pub copied-images : (from to : List ℕ) (r moved : Rectangle) (dx dy : ℤ) → shifted dx dy r ≡ Ok moved
      → IfOk (edited_table table (Copy from to r dx dy)) (IsWritten table to moved (moved_samples (image_of table from) r moved))
  copied-images from to r moved dx dy is_moved =
      let f : ℕ → ℕ → ℕ → ℕ = moved_samples (image_of table from) r moved in
      if_done (IsWritten table to moved f) table (Copy from to r dx dy) (λ done.
      with_found (IsWritten table to moved f) table to _ done.0.1 (λ view e.
      with_moved (IsWritten table to moved f) table dx dy r moved _ is_moved
      (IsWritten-written table view.root moved f is to (written_name to view e)
      (inside-image to moved (subst (HasMoved (layout_of table) to) is_moved done.0.2)))))

-- a copy whose moved rectangle is none is refused
pub copied-nowhere : (P : Table → Type 0) (table : Table) (from to : List ℕ) (r : Rectangle) (dx dy : ℤ) (refused : RectRefused) → shifted dx dy r ≡ Err refused
    → IfOk (edited_table table (Copy from to r dx dy)) P
copied-nowhere P table from to r dx dy refused e =
    if_done P table (Copy from to r dx dy) (λ done. absurd (subst (HasMoved (layout_of table) to) e done.0.2))

-- what follows of a table follows of what an edit gives
pub if_then : {P Q : Table → Type 0} (edited : Edited) → ((after : Table) → P after → Q after) → IfOk edited P → IfOk edited Q
if_then (Ok after) step p = step after p
if_then (Err refused) step p = tt
