use Rattle.std.proofs.lemmas.Result.{err_from_is_err_and}
use Rattle.std.proofs.Common.{◌≡◌, sym, subst}
use Rattle.root_tiles.specs.Chains.{chain_state}
use Rattle.model_graphs.specs.Facts.{rectangles_of}
use Rattle.model_graphs.specs.Laws.{KeepsLaws}
use Rattle.session_states.specs.OverChains.{AreVersionsOver}
use Rattle.commit_session.specs.Parts.{Parts}
use Rattle.commit_session.proofs.Changed.{versions-over}
use Rattle.commit_session.proofs.Edited.{edit-made, edit-refused, reserved}
use Rattle.commit_session.proofs.Passed.{unedited}
use Rattle.commit_session.proofs.Same.{this}
use Rattle.commit_session.proofs.state.SessionState.edit.Given
use Rattle.commit_session.proofs.state.SessionState.edit.Goals.{After-edit, After-reserve}
use Rattle.commit_session.proofs.state.SessionState.edit.Goals as goal

module _ (g : Given.Over) where
  laws : KeepsLaws g.Op.OpMeaning.meanings
  laws = record { local = g.Op.OpMeaning.local; dual = g.Op.OpMeaning.dual }

  -- there is room for one rectangle more
  module _ (c : After-reserve g) where
    abbrev with_room : Parts g.row.Op.Denot
    with_room = record (this c.self.view_is) { written = rectangles_of c.reserve.new.self.items }

    room_is : with_room ≡ c.args.self.now
    room_is = reserved (this c.self.view_is) c.args.self.now c.self.inside.written.items c.reserve.new.self.items c.reserve.ensures.items c.self.view_is

  module _ (c : After-edit g) where
    abbrev parts : Parts g.row.Op.Denot
    parts = record (this c.self.view_is) { written = rectangles_of c.reserve.new.self.items }

    is : parts ≡ c.args.self.now
    is = reserved (this c.self.view_is) c.args.self.now c.self.inside.written.items c.reserve.new.self.items c.reserve.ensures.items c.self.view_is

pub edit-requires-clause-over : goal.edit-requires-clause-over
edit-requires-clause-over g c κs within =
    subst (λ (p : Parts g.row.Op.Denot). AreVersionsOver p.versions (g.C.ChainMeaning.held c.args.chain.now)) (sym c.self.view_is)
    (versions-over g.Op.OpMeaning.same g.Op.OpMeaning.meanings c.args.self.now (g.C.ChainMeaning.held c.args.chain.now) c.requires.over)

pub returns-in_err-reserve : goal.returns-in_err-reserve
returns-in_err-reserve g c =
    let at = (goal.at.returns-in_err-reserve g c).After-reserve in
    let p = err_from_is_err_and c.from_residual.result c.from_residual.ensures.1 in
    rw (p.1, p.2) (unedited g.Op.OpMeaning.same g.Op.OpMeaning.meanings c.args.edit.now c.args.self.now _ (chain_state g.C.ChainMeaning c.args.chain.now) (room_is g at) c.requires.over)

pub returns-in_err-edit : goal.returns-in_err-edit
returns-in_err-edit g c =
    let at = (goal.at.returns-in_err-edit g c).After-edit in
    let p = err_from_is_err_and c.from_residual-in_err-edit.result c.from_residual-in_err-edit.ensures.1 in
    rw (p.1, p.2) (edit-refused g.Op.OpMeaning.same g.Op.OpMeaning.meanings _ c.args.self.now (is g at) (chain_state g.C.ChainMeaning c.args.chain.now) (chain_state g.C.ChainMeaning c.edit.new.chain)
    c.requires.over c.args.edit.now c.edit.new.self c.edit.ensures.states c.edit.ensures.left c.edit.ensures.tables c.edit.ensures.over c.in_err-edit.field-0.0 c.in_err-edit.ensures.edited)

pub returns : goal.returns
returns g c =
    let at = (goal.at.returns g c).After-edit in
    edit-made g.Op.OpMeaning.same g.Op.OpMeaning.meanings _ c.args.self.now (is g at) (chain_state g.C.ChainMeaning c.args.chain.now) (chain_state g.C.ChainMeaning c.edit.new.chain)
    c.requires.over c.args.edit.now c.edit.new.self c.edit.ensures.states c.edit.ensures.left c.edit.ensures.tables c.edit.ensures.over
    _ (laws g) g.Op.OpMeaning.boxed g.Op.OpMeaning.distinguished.apart c.working.result.now (rectangles_of c.record_written.new.written.items) c.requires.proper
    c.in_ok-edit.ensures.edited c.working.ensures c.record_written.ensures
