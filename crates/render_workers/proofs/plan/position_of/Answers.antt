use Rattle.std.proofs.Common.{◌≡◌, ℕ, Option, Some, length, unwrap_or, sym, ap, ◌∙◌, rules, tests}
use Rattle.std.specs.Prelude.{is_some}
use Rattle.std.specs.Str.{bytes_eq}
use Rattle.std.proofs.lemmas.Iterator.{YieldsList-from_slice}
use Rattle.std.proofs.lemmas.Iterator.Search.{position_from_yields_List}
use Rattle.model_graphs.specs.declared.node.NodeFact.{NodeFact}
use Rattle.roi_planner.proofs.Named.{index_of-facts}
use Rattle.render_workers.proofs.Shown.{there-is}
use Rattle.render_workers.proofs.plan.position_of.Goals as goal

pub returns-in_err-position-clause-there : goal.returns-in_err-position-clause-there
returns-in_err-position-clause-there g c =
    let facts = c.args.nodes.now in
    let found = position_from_yields_List (λ (fact : NodeFact g.row.Op.Denot). bytes_eq fact.spec.name c.args.name) _ _ c.position.result c.position.ensures.ran (YieldsList-from_slice facts cc) (λ x b q k. search (rules, tests)) in
    let none : is_some c.from_residual.result ≡ is_some c.position.result = search (rules, tests) in
    none ∙ there-is facts c.args.name c.position.result found

pub returns-clause-there : goal.returns-clause-there
returns-clause-there g c =
    let facts = c.args.nodes.now in
    let found = position_from_yields_List (λ (fact : NodeFact g.row.Op.Denot). bytes_eq fact.spec.name c.args.name) _ _ c.position.result c.position.ensures.ran (YieldsList-from_slice facts cc) (λ x b q k. search (rules, tests)) in
    ap is_some (sym c.in_ok-position.was) ∙ there-is facts c.args.name c.position.result found

pub returns-clause-position : goal.returns-clause-position
returns-clause-position g c =
    let facts = c.args.nodes.now in
    let found = position_from_yields_List (λ (fact : NodeFact g.row.Op.Denot). bytes_eq fact.spec.name c.args.name) _ _ c.position.result c.position.ensures.ran (YieldsList-from_slice facts cc) (λ x b q k. search (rules, tests)) in
    let its : c.position.result ≡ Some c.in_ok-position.position = c.in_ok-position.was in
    ap (λ (o : Option ℕ). unwrap_or o (length facts)) (sym its ∙ found) ∙ sym (index_of-facts facts c.args.name)
