use Rattle.std.proofs.Common.{◌≡◌, List, [], ◌∷◌, ◌++◌, sym, ap, subst, ◌∙◌}
use Rattle.model_graphs.specs.declared.node.NodeEdit.{NodeEdit}
use Rattle.model_graphs.specs.Laws.{KeepsLaws}
use Rattle.commit_session.specs.Parts.{Parts}
use Rattle.commit_session.specs.Seen.{IsOver}
use Rattle.commit_session.proofs.Changed.{over-pending}
use Rattle.commit_session.proofs.Same.{this}
use Rattle.commit_session.proofs.state.SessionState.add_pending.Given
use Rattle.commit_session.proofs.state.SessionState.add_pending.Goals as goal

laws : (g : Given.Over) → KeepsLaws g.Op.OpMeaning.meanings
laws g = record { local = g.Op.OpMeaning.local; dual = g.Op.OpMeaning.dual }

pub returns-clause-over : goal.returns-clause-over
returns-clause-over g c =
    let v : Parts g.row.Op.Denot = this c.self.view_is in
    let is : record v { pending = c.push.new.self.items } ≡ record c.args.self.now { pending = c.args.self.now.pending ++ c.args.edit ∷ [] } =
    ap (λ (ps : List (NodeEdit g.row.Op.Denot)). let p : Parts g.row.Op.Denot = record v { pending = ps } in p) c.in_ok-push.ensures.items
    ∙ ap (λ (p : Parts g.row.Op.Denot). let q : Parts g.row.Op.Denot = record p { pending = p.pending ++ c.args.edit ∷ [] } in q) c.self.view_is in
    λ held over.
    subst (λ (p : Parts g.row.Op.Denot). IsOver g.Op.OpMeaning.same g.Op.OpMeaning.meanings p held) (sym is) (over-pending g.Op.OpMeaning.same g.Op.OpMeaning.meanings (laws g) g.Op.OpMeaning.boxed g.Op.OpMeaning.distinguished.apart c.args.self.now c.args.edit held over)
