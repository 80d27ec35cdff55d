use Rattle.std.proofs.Common.{sym, subst}
use Rattle.model_graphs.specs.Filter.{Filter}
use Rattle.model_graphs.specs.Laws.{IsBoxed, KeepsLaws}
use Rattle.model_graphs.specs.Meanings.{Meanings}
use Rattle.model_graphs.specs.Lawful.{filter_boxed, filter_distinguished, filter_dual, filter_local}
use Rattle.model_graphs.proofs.meanings.nodes_keep_laws.Goals as goal

pub returns-clause-laws : goal.returns-clause-laws
returns-clause-laws g c =
    let O = g.Op.OpMeaning in
    subst (λ (nodes : Meanings (Filter g.row.Op.Denot)). KeepsLaws nodes) (sym O.derived)
    (record { local = filter_local O.steady O.meanings O.local O.in_place; dual = filter_dual O.steady O.meanings O.dual })

pub returns-clause-boxed : goal.returns-clause-boxed
returns-clause-boxed g c =
    let O = g.Op.OpMeaning in
    subst (λ (nodes : Meanings (Filter g.row.Op.Denot)). IsBoxed nodes) (sym O.derived) (filter_boxed O.steady O.meanings O.boxed)

pub returns-clause-equality : goal.returns-clause-equality
returns-clause-equality g c = filter_distinguished g.Op.OpMeaning.same g.Op.OpMeaning.distinguished
