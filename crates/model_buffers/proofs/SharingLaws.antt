-- Which buffers see what is written to another.
use Rattle.std.proofs.Common.{◌≡◌, ◌≢◌, ℕ, List, Some, None, refl, sym, ap, ◌∙◌}
use Rattle.std.specs.Prelude.{IfOk}
use Rattle.plane_rect.specs.Rectangle.{Rectangle}
use Rattle.model_buffers.specs.declared.edit.BufferEdit.TheVariants.{Duplicate, Sub}
use Rattle.model_buffers.specs.BufferEdit.{part_of}
use Rattle.model_buffers.specs.Edits.{edited_table, with_view}
use Rattle.model_buffers.specs.Effects.{IsWritten, ShowsOver}
use Rattle.model_buffers.specs.Layout.{View, find}
use Rattle.model_buffers.specs.Table.{Table, IsTable, image_of, root_image, root_of}
use Rattle.model_buffers.proofs.AddingLaws.{IsAdded-with_view, root-with_view, IsAdded-with_root, HasOwnRoot-with_root}
use Rattle.model_buffers.proofs.EffectLaws.{if_sub_buffer, if_duplicated}

-- a name that is there is not a new one
known-apart : (table : Table) (old new : List ℕ) (view : View) → find table.buffers old ≡ Some view → find table.buffers new ≡ None → old ≢ new
known-apart table old new view there absent same = cc (there, absent, ap (find table.buffers) same)

module _ (table : Table) (is : IsTable table) (name parent : List ℕ) (part : Rectangle) where
  -- the root of a sub-buffer is the parent's
  same_root : (view : View) → find table.buffers parent ≡ Some view → find table.buffers name ≡ None
      → (let both = with_view table name (part_of view part) in root_of both name ≡ root_of both parent)
  same_root view e none =
      let added = IsAdded-with_view table is name none (part_of view part) in
      root-with_view table is name none (part_of view part) ∙ rw e refl ∙ sym (added.roots parent (known-apart table parent name view e none))

  pub shows-parent : IfOk (edited_table table (Sub name parent part)) (λ both.
      (r : Rectangle) (f : ℕ → ℕ → ℕ → ℕ) (after : Table) → IsWritten both parent r f after → ShowsOver r f (image_of after name))
  shows-parent =
      if_sub_buffer table is (λ both. (r : Rectangle) (f : ℕ → ℕ → ℕ → ℕ) (after : Table) → IsWritten both parent r f after → ShowsOver r f (image_of after name))
      name parent part (λ view e none r f after done. done.shown name (same_root view e none))

  pub shows-part : IfOk (edited_table table (Sub name parent part)) (λ both.
      (r : Rectangle) (f : ℕ → ℕ → ℕ → ℕ) (after : Table) → IsWritten both name r f after → ShowsOver r f (image_of after parent))
  shows-part =
      if_sub_buffer table is (λ both. (r : Rectangle) (f : ℕ → ℕ → ℕ → ℕ) (after : Table) → IsWritten both name r f after → ShowsOver r f (image_of after parent))
      name parent part (λ view e none r f after done. done.shown parent (sym (same_root view e none)))

module _ (table : Table) (is : IsTable table) (name from : List ℕ) where
  pub keeps-duplicate : IfOk (edited_table table (Duplicate name from)) (λ both.
      (r : Rectangle) (f : ℕ → ℕ → ℕ → ℕ) (after : Table) → IsWritten both from r f after → image_of after name ≡ image_of table from)
  keeps-duplicate =
      if_duplicated table is (λ both. (r : Rectangle) (f : ℕ → ℕ → ℕ → ℕ) (after : Table) → IsWritten both from r f after → image_of after name ≡ image_of table from)
      name from (λ view e none r f after done.
      let own = HasOwnRoot-with_root table is name none (root_image table view.root) view.extent in
      let added = IsAdded-with_root table is name none (root_image table view.root) view.extent in
      done.other_roots name (λ same. own.alone from (known-apart table from name view e none) (sym same ∙ own.root))
      ∙ added.shows ∙ rw e refl)

  pub keeps-original : IfOk (edited_table table (Duplicate name from)) (λ both.
      (r : Rectangle) (f : ℕ → ℕ → ℕ → ℕ) (after : Table) → IsWritten both name r f after → image_of after from ≡ image_of table from)
  keeps-original =
      if_duplicated table is (λ both. (r : Rectangle) (f : ℕ → ℕ → ℕ → ℕ) (after : Table) → IsWritten both name r f after → image_of after from ≡ image_of table from)
      name from (λ view e none r f after done.
      let apart = known-apart table from name view e none in
      let own = HasOwnRoot-with_root table is name none (root_image table view.root) view.extent in
      let added = IsAdded-with_root table is name none (root_image table view.root) view.extent in
      done.other_roots from (λ same. own.alone from apart (same ∙ own.root)) ∙ added.others from apart)
