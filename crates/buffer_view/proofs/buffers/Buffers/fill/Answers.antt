use Rattle.std.proofs.Common.{ap, refl, sym, ◌∙◌}
use Rattle.std.proofs.lemmas.Result.{err_from_is_err_and}
use Rattle.model_buffers.specs.BufferEdit.{edit_refused}
use Rattle.model_buffers.specs.declared.edit.BufferEdit.TheVariants.{Fill}
use Rattle.buffer_view.specs.BufferTables.{BufferTable, images_over}
use Rattle.buffer_view.proofs.Edited.{write-done, write-failed, write-refused}
use Rattle.buffer_view.proofs.Targets.{carried-here, fill-can, fill-shown, target-here}
use Rattle.buffer_view.proofs.buffers.Buffers.fill.Goals as goal

pub write-requires-clause-inside : goal.write-requires-clause-inside
write-requires-clause-inside g c =
    (fill-can c.args.self.now.layout c.requires.table.layout c.args.name c.in_ok-view.view (target-here _ _ c.self.view_is _ _ c.in_ok-view.ensures.target)
    c.args.rect c.args.samples.now (carried-here _ _ c.self.view_is (Fill c.args.name c.args.rect c.args.samples.now) c.in_ok-view.ensures.carried_out)).0

pub write-requires-clause-samples : goal.write-requires-clause-samples
write-requires-clause-samples g c =
    (fill-can c.args.self.now.layout c.requires.table.layout c.args.name c.in_ok-view.view (target-here _ _ c.self.view_is _ _ c.in_ok-view.ensures.target)
    c.args.rect c.args.samples.now (carried-here _ _ c.self.view_is (Fill c.args.name c.args.rect c.args.samples.now) c.in_ok-view.ensures.carried_out)).1

pub returns-in_err-view : goal.returns-in_err-view
returns-in_err-view g c =
    let now = c.args.self.now in
    let p = err_from_is_err_and c.from_residual.result c.from_residual.ensures.1 in
    rw (p.1, p.2) (write-refused (Fill c.args.name c.args.rect c.args.samples.now) now now c.in_err-view.field-0.0 _ refl
    (ap (λ (b : BufferTable). edit_refused b.layout (Fill c.args.name c.args.rect c.args.samples.now)) (sym c.self.view_is) ∙ c.in_err-view.ensures.refused) c.requires)

pub returns-in_err-write : goal.returns-in_err-write
returns-in_err-write g c =
    let none = carried-here _ _ c.self.view_is (Fill c.args.name c.args.rect c.args.samples.now) c.in_ok-view.ensures.carried_out in
    let p = err_from_is_err_and c.from_residual-in_err-write.result c.from_residual-in_err-write.ensures.1 in
    rw (p.1, p.2) (write-failed (Fill c.args.name c.args.rect c.args.samples.now) _ _ _ c.args.rect _ _ _ none refl c.in_err-write.field-0.0 c.in_err-write.ensures)

pub returns : goal.returns
returns g c =
    let now = c.args.self.now in
    let first = g.C.ChainMeaning.held c.args.chain.now in
    let none = carried-here _ _ c.self.view_is (Fill c.args.name c.args.rect c.args.samples.now) c.in_ok-view.ensures.carried_out in
    let shown = fill-shown now.layout c.requires.table.layout c.args.name c.in_ok-view.view (target-here _ _ c.self.view_is _ _ c.in_ok-view.ensures.target)
    first.content (images_over first now.layout.roots now.roots) _ c.args.rect c.args.samples.now c.in_ok-write.ensures.table in
    write-done (Fill c.args.name c.args.rect c.args.samples.now) _ _ _ c.args.rect _ _ _ none refl _ _ refl shown c.in_ok-write.ensures
