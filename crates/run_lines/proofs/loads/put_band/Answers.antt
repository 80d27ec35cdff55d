use Rattle.std.proofs.Common.{List, subst, Ok, Err, ℕ}
use Rattle.std.proofs.lemmas.Result.{err_from_is_err_and}
use Rattle.model_buffers.specs.declared.edit.BufferEdit.TheVariants.{Put}
use Rattle.run_lines.proofs.EditLines.{carried_edit, refused_edit}
use Rattle.run_lines.specs.Edited.{IsEdited, SessionOver}
use Rattle.run_lines.proofs.loads.put_band.Goals as goal

pub returns-in_err-edit-clause-edited : goal.returns-in_err-edit-clause-edited
returns-in_err-edit-clause-edited g c =
    let old : SessionOver = record { parts = c.args.session.now; held = g.C.ChainMeaning.held c.args.chain.now; counts = g.C.ChainMeaning.counts c.args.chain.now } in
    let new : SessionOver = record { parts = c.edit.new.self; held = g.C.ChainMeaning.held c.edit.new.chain; counts = g.C.ChainMeaning.counts c.edit.new.chain } in
    let refused = c.in_err-edit.field-0.0 in
    let ensures = c.in_err-edit.ensures in
    let put = Put c.args.name c.args.band c.new.result in
    let edited : IsEdited put (Err refused) old new = refused_edit put refused old new ensures.exact ensures.cause ensures.states.capacity ensures.left.others.exposed ensures.left.counts in
    let same : IsEdited (Put c.args.name c.args.band c.args.bytes.items) (Err refused) old new = subst (λ (bytes : List ℕ). IsEdited (Put c.args.name c.args.band bytes) (Err refused) old new) c.new.ensures edited in
    let p = err_from_is_err_and c.from_residual.result c.from_residual.ensures.1 in
    rw (p.1, p.2) same

pub returns-clause-edited : goal.returns-clause-edited
returns-clause-edited g c =
    let old : SessionOver = record { parts = c.args.session.now; held = g.C.ChainMeaning.held c.args.chain.now; counts = g.C.ChainMeaning.counts c.args.chain.now } in
    let new : SessionOver = record { parts = c.edit.new.self; held = g.C.ChainMeaning.held c.edit.new.chain; counts = g.C.ChainMeaning.counts c.edit.new.chain } in
    let ensures = c.in_ok-edit.ensures in
    let put = Put c.args.name c.args.band c.new.result in
    let edited : IsEdited put (Ok tt) old new = carried_edit put old new ensures.edited.carried_out ensures.session ensures.states.capacity ensures.left.others.exposed ensures.left.counts in
    subst (λ (bytes : List ℕ). IsEdited (Put c.args.name c.args.band bytes) (Ok tt) old new) c.new.ensures edited
