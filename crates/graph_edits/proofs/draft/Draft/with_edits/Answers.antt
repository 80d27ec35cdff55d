use Rattle.std.proofs.Common.{sym, Ok}
use Rattle.std.proofs.lemmas.Result.{err_from_is_err_and}
use Rattle.model_graphs.specs.Facts.{shapes_of_facts}
use Rattle.model_states.specs.Edits.{with_edits}
use Rattle.graph_edits.proofs.EditLaws.{refusal_stays}
use Rattle.graph_edits.proofs.draft.Draft.with_edits.Goals as goal

pub returns-in_err-draft-clause-refused : goal.returns-in_err-draft-clause-refused
returns-in_err-draft-clause-refused g c =
    let p = err_from_is_err_and c.from_residual.result c.from_residual.ensures.1 in
    rw (p.1, p.2)
    (refusal_stays (shapes_of_facts c.args.buffers.now) c.loop-edit.draft
    (with_edits (shapes_of_facts c.args.buffers.now) (Ok c.args.self) c.args.edits.now)
    c.args.edits.now c.loop-edit.edit-index c.edit-item.result c.in_err-draft.field-0.0
    c.loop-edit-test.true (sym c.edit-item.is) c.loop-edit.invariant c.in_err-draft.ensures.refused)
