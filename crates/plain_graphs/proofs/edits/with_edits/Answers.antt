use Rattle.std.proofs.Common.{◌≡◌, sym, ◌∙◌, Some}
use Rattle.model_graphs.specs.Facts.{shapes_of_facts}
use Rattle.model_states.specs.Edits.{edit_refused}
use Rattle.plain_graphs.proofs.EditLaws.{with_edits-stops}
use Rattle.plain_graphs.proofs.edits.with_edits.Goals as goal

pub returns-in-Some : goal.returns-in-Some
returns-in-Some c =
    let shapes = shapes_of_facts c.args.buffers.now in
    let refused : edit_refused shapes c.loop-edit.nodes.items c.edit-item.result ≡ Some c.in-Some.refused =
    rw c.deref.ensures.value at (sym c.edit_refused.ensures ∙ c.in-Some.is) in
    sym (with_edits-stops shapes c.loop-edit.nodes.items c.args.edits.now c.loop-edit.edit-index c.edit-item.result
    c.in-Some.refused c.loop-edit-test.true (sym c.edit-item.is) refused)
    ∙ c.loop-edit.invariant
