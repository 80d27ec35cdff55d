use Rattle.std.proofs.Common.{sym, subst}
use Rattle.std.proofs.lemmas.Result.{err_from_is_err_and}
use Rattle.root_tiles.specs.Chains.{chain_state}
use Rattle.session_states.specs.OverChains.{AreVersionsOver}
use Rattle.commit_session.specs.Parts.{Parts}
use Rattle.commit_session.proofs.Changed.{versions-over}
use Rattle.commit_session.proofs.Grabbed.{grabbed}
use Rattle.commit_session.proofs.state.SessionState.grab.Goals as goal

pub get-requires-clause-over : goal.get-requires-clause-over
get-requires-clause-over g c =
    subst (λ (p : Parts g.row.Op.Denot). AreVersionsOver p.versions (g.C.ChainMeaning.held c.args.chain.now)) (sym c.self.view_is)
    (versions-over g.Op.OpMeaning.same g.Op.OpMeaning.meanings c.args.self.now (g.C.ChainMeaning.held c.args.chain.now) c.requires.over)

pub returns-in_err-get : goal.returns-in_err-get
returns-in_err-get g c =
    let p = err_from_is_err_and c.from_residual.result c.from_residual.ensures.1 in
    rw (p.1, p.2) (grabbed g.Op.OpMeaning.same g.Op.OpMeaning.meanings _ c.args.self.now c.self.view_is (chain_state g.C.ChainMeaning c.args.chain.now) (chain_state g.C.ChainMeaning c.get.new.chain)
    c.requires.over c.args.name c.args.level c.args.abyss c.args.rect _ c.get.new.self c.get.ensures.states c.get.ensures.left c.get.ensures.tables c.get.ensures.over c.in_err-get.ensures.read)

pub returns : goal.returns
returns g c =
    grabbed g.Op.OpMeaning.same g.Op.OpMeaning.meanings _ c.args.self.now c.self.view_is (chain_state g.C.ChainMeaning c.args.chain.now) (chain_state g.C.ChainMeaning c.get.new.chain)
    c.requires.over c.args.name c.args.level c.args.abyss c.args.rect _ c.get.new.self c.get.ensures.states c.get.ensures.left c.get.ensures.tables c.get.ensures.over c.in_ok-get.ensures.read
