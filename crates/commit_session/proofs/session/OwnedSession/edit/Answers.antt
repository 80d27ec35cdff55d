use Rattle.std.proofs.Common.{◌++◌, ◌∷◌, [], ap, sym, refl, subst}
use Rattle.root_tiles.specs.Chains.{ChainState, chain_state}
use Rattle.model_sessions.specs.Steps.{EditNode, HistoryEdit, IsProper}
use Rattle.commit_session.specs.Edits.{Edits}
use Rattle.commit_session.specs.Parts.{Parts}
use Rattle.commit_session.specs.Seen.{IsSessionOf}
use Rattle.commit_session.proofs.Acting.{acts-edit, pending-left, pending-states, on-error, on-ok}
use Rattle.commit_session.proofs.session.OwnedSession.edit.Goals as goal

pub edit-requires-clause-proper : goal.edit-requires-clause-proper
edit-requires-clause-proper g c κs within =
    subst (λ (step : HistoryEdit g.row.K-Op.Denot). IsProper step) (sym c.in-Buffer.ensures) c.requires.proper

pub returns-in-Buffer : goal.returns-in-Buffer
returns-in-Buffer g c =
    subst (λ (step : HistoryEdit g.row.K-Op.Denot). Edits g.K.Op.OpMeaning.same g.K.Op.OpMeaning.meanings step c.edit.result c.args.self.now.state c.edit.new.self (chain_state g.C.ChainMeaning c.args.self.now.chain) (chain_state g.C.ChainMeaning c.edit.new.chain))
    c.in-Buffer.ensures c.edit.ensures

pub returns-in-Node : goal.returns-in-Node
returns-in-Node g c =
    let result = c.add_pending.result in
    let now = c.args.self.now.state in
    let new = c.add_pending.new.self in
    let s0 : ChainState = chain_state g.C.ChainMeaning c.args.self.now.chain in
    let pending = now.pending ++ c.in-Node.edit ∷ [] in
    let added = c.add_pending.ensures.added in
    let unchanged = c.add_pending.ensures.unchanged in
    subst (λ (step : HistoryEdit g.row.K-Op.Denot). Edits g.K.Op.OpMeaning.same g.K.Op.OpMeaning.meanings step result now new s0 s0) c.in-Node.ensures
    (record {
      edited = added;
      unchanged = on-error result _ _ (λ is. ap (λ (p : Parts g.row.K-Op.Denot). p.versions.working.layout) is) unchanged;
      unwritten = on-error result _ _ (λ is. ap (λ (p : Parts g.row.K-Op.Denot). p.written) is) unchanged;
      pending = on-error result _ _ (λ is. ap (λ (p : Parts g.row.K-Op.Denot). p.pending) is) unchanged;
      states = pending-states result now new pending added unchanged;
      session = λ held of. c.add_pending.ensures.session s0.held held of;
      action = λ held of.
          on-ok result _ _
          (acts-edit g.K.Op.OpMeaning.same g.K.Op.OpMeaning.meanings held now.capacity (IsSessionOf g.K.Op.OpMeaning.same g.K.Op.OpMeaning.meanings new s0.held) (EditNode c.in-Node.edit) refl)
          (c.add_pending.ensures.session s0.held held of);
      same = λ held of.
          on-error result _ _ (λ is. subst (λ (p : Parts g.row.K-Op.Denot). IsSessionOf g.K.Op.OpMeaning.same g.K.Op.OpMeaning.meanings p s0.held held) (sym is) of) unchanged;
      exact = λ cause given other. absurd (cc);
      cause = c.add_pending.ensures.cause;
      over = c.add_pending.ensures.over s0.held c.requires.over;
      left = pending-left result now new pending added unchanged s0;
    })
