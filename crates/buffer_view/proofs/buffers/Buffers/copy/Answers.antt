use Rattle.std.proofs.Common.{◌≡◌, ℕ, List, length, None, Some, ap, of_z, refl, subst, sym, to_z, w64, ◌∙◌}
use Rattle.std.specs.Prelude.{IfSome, slice_get}
use Rattle.std.proofs.lemmas.Int.{to_z-of_z}
use Rattle.std.proofs.lemmas.Result.{err_from_is_err_and}
use Rattle.buffer_layouts.specs.Views.{AreCopyParts}
use Rattle.model_buffers.specs.BufferEdit.{edit_refused}
use Rattle.model_buffers.specs.Counts.{moved_count}
use Rattle.model_buffers.specs.Table.{Table, root_image}
use Rattle.model_buffers.specs.declared.edit.BufferEdit.TheVariants.{Copy}
use Rattle.model_graphs.specs.Shapes.{Shape}
use Rattle.model_images.specs.FromRaw.{byte_count}
use Rattle.model_images.specs.Paint.{cut}
use Rattle.model_images.specs.Raw.{raw}
use Rattle.buffer_view.specs.BufferLaws.{layout-shown}
use Rattle.buffer_view.specs.BufferTables.{AreBuffersOver, BufferTable, images_over, table_of}
use Rattle.buffer_view.proofs.Copies.{copy-shown, source-can, target-can}
use Rattle.buffer_view.proofs.Edited.{unwritten, write-done, write-failed, write-refused, written-later}
use Rattle.buffer_view.proofs.Tables.{is-table}
use Rattle.buffer_view.proofs.buffers.Buffers.copy.Given
use Rattle.buffer_view.proofs.buffers.Buffers.copy.Goals.{After-deref, In_ok-parts}
use Rattle.buffer_view.proofs.buffers.Buffers.copy.Goals as goal

-- ---- the edit can be carried out, on these parts

module _ (g : Given.Over) (c : In_ok-parts g) where
  x : to_z w64 (of_z w64 c.args.dx) ≡ c.args.dx
  x = to_z-of_z w64 c.args.dx c.ranges.dx

  y : to_z w64 (of_z w64 c.args.dy) ≡ c.args.dy
  y = to_z-of_z w64 c.args.dy c.ranges.dy

  are : AreCopyParts c.args.self.now.layout c.args.from c.args.to c.args.rect c.args.dx c.args.dy c.in_ok-parts.parts
  are =
      subst (λ (b : BufferTable). AreCopyParts b.layout c.args.from c.args.to c.args.rect c.args.dx c.args.dy c.in_ok-parts.parts) c.self.view_is
      (rw (x, y) at c.in_ok-parts.ensures.parts)

  none : edit_refused c.args.self.now.layout (Copy c.args.from c.args.to c.args.rect c.args.dx c.args.dy) ≡ None
  none =
      ap (λ (b : BufferTable). edit_refused b.layout (Copy c.args.from c.args.to c.args.rect c.args.dx c.args.dy)) (sym c.self.view_is)
      ∙ (rw (x, y) at c.in_ok-parts.ensures.carried_out)

pub read-requires-clause-inside : goal.read-requires-clause-inside
read-requires-clause-inside g c =
    let at = (goal.at.read-requires-clause-inside g c).In_ok-parts in
    source-can c.args.self.now.layout c.requires.table.layout c.args.from c.args.to c.args.rect c.args.dx c.args.dy c.in_ok-parts.parts (are g at) (none g at) c.first_column.ensures.rectangle

pub write-requires-clause-over : goal.write-requires-clause-over
write-requires-clause-over g c = subst (AreBuffersOver c.args.self.now) (sym c.read.ensures.read.held) c.requires

module _ (g : Given.Over) (c : After-deref g) where
  -- the bytes are as many as the part has
  count : (name : List ℕ) (shape : Shape) → slice_get c.args.self.now.layout.roots c.in_ok-parts.parts.source.root ≡ Some (name, shape)
      → length c.deref.result.now ≡ byte_count c.args.rect shape.format
  count name shape there = ap length c.deref.ensures.value ∙ c.in_ok-bytes.ensures.count name shape there

pub write-requires-clause-inside : goal.write-requires-clause-inside
write-requires-clause-inside g c =
    let at = goal.at.write-requires-clause-inside g c in
    (target-can c.args.self.now.layout c.requires.table.layout c.args.from c.args.to c.args.rect c.args.dx c.args.dy c.in_ok-parts.parts (are g at.In_ok-parts) (none g at.In_ok-parts) c.first_column.ensures.rectangle
    c.deref.result.now (count g at.After-deref)).0

pub write-requires-clause-samples : goal.write-requires-clause-samples
write-requires-clause-samples g c =
    let at = goal.at.write-requires-clause-samples g c in
    (target-can c.args.self.now.layout c.requires.table.layout c.args.from c.args.to c.args.rect c.args.dx c.args.dy c.in_ok-parts.parts (are g at.In_ok-parts) (none g at.In_ok-parts) c.first_column.ensures.rectangle
    c.deref.result.now (count g at.After-deref)).1

-- ---- what is left

pub returns-in_err-parts : goal.returns-in_err-parts
returns-in_err-parts g c =
    let now = c.args.self.now in
    let x = to_z-of_z w64 c.args.dx c.ranges.dx in
    let y = to_z-of_z w64 c.args.dy c.ranges.dy in
    let e = Copy c.args.from c.args.to c.args.rect c.args.dx c.args.dy in
    let p = err_from_is_err_and c.from_residual.result c.from_residual.ensures.1 in
    rw (p.1, p.2) (write-refused e now now c.in_err-parts.field-0.0 _ refl
    (ap (λ (b : BufferTable). edit_refused b.layout e) (sym c.self.view_is) ∙ (rw (x, y) at c.in_err-parts.ensures.refused)) c.requires)

pub returns-in_err-bytes : goal.returns-in_err-bytes
returns-in_err-bytes g c =
    let at = (goal.at.returns-in_err-bytes g c).In_ok-parts in
    let now = c.args.self.now in
    let p = err_from_is_err_and c.from_residual-in_err-bytes.result c.from_residual-in_err-bytes.ensures.1 in
    rw (p.1, p.2) (write-failed (Copy c.args.from c.args.to c.args.rect c.args.dx c.args.dy) now now 0 c.in_ok-parts.parts.moved (λ format u v k. 0) _ _ (none g at) (sym (ap moved_count (are g at).moved)) c.in_err-bytes.field-0.0
    (unwritten {X = Unit {0}} 0 c.in_ok-parts.parts.moved (λ format u v k. 0) now now c.in_err-bytes.field-0.0 _ _ c.read.ensures.read c.in_err-bytes.ensures.cause c.requires))

pub returns-in_err-write : goal.returns-in_err-write
returns-in_err-write g c =
    let at = (goal.at.returns-in_err-write g c).In_ok-parts in
    let p = err_from_is_err_and c.from_residual-in_err-write.result c.from_residual-in_err-write.ensures.1 in
    rw (p.1, p.2) (write-failed (Copy c.args.from c.args.to c.args.rect c.args.dx c.args.dy) c.args.self.now c.write.new.self _ _ _ _ _ (none g at) (sym (ap moved_count (are g at).moved)) c.in_err-write.field-0.0
    (written-later _ _ _ _ _ _ _ _ _ c.read.ensures.read c.in_err-write.ensures))

pub returns : goal.returns
returns g c =
    let at = (goal.at.returns g c).In_ok-parts in
    let now = c.args.self.now in
    let first = g.C.ChainMeaning.held c.args.chain.now in
    let bytes = c.deref.result.now in
    let written = written-later _ _ _ now c.write.new.self _ _ _ _ c.read.ensures.read c.in_ok-write.ensures in
    let shown = copy-shown now.layout c.requires.table.layout c.args.from c.args.to c.args.rect c.args.dx c.args.dy c.in_ok-parts.parts (are g at) (none g at) c.first_column.ensures.rectangle first.content (images_over first now.layout.roots now.roots) _ bytes
    (layout-shown now first c.requires.table) (is-table now first c.requires.table)
    written.table
    (λ name shape there.
    subst (λ (bs : List ℕ). IfSome (table_of now first) (λ (t : Table). bs ≡ raw (cut (root_image t name) c.args.rect) c.args.rect)) (sym c.deref.ensures.value)
    (c.in_ok-bytes.ensures.bytes name shape there)) in
    write-done (Copy c.args.from c.args.to c.args.rect c.args.dx c.args.dy) now c.write.new.self _ _ _ _ _ (none g at) (sym (ap moved_count (are g at).moved)) _ _ refl shown written
