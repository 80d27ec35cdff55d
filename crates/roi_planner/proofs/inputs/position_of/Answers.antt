use Rattle.std.proofs.Common.{ap, sym, ◌∙◌, length, unwrap_or, rules, tests}
use Rattle.std.specs.Str.{bytes_eq}
use Rattle.std.proofs.lemmas.Iterator.{YieldsList-from_slice}
use Rattle.std.proofs.lemmas.Iterator.Search.{position_from_yields_List}
use Rattle.model_graphs.specs.declared.node.NodeFact.{NodeFact}
use Rattle.roi_planner.proofs.Named.{index_of-facts}
use Rattle.roi_planner.proofs.inputs.position_of.Goals as goal

pub returns-clause-value : goal.returns-clause-value
returns-clause-value g c =
    let facts = c.args.nodes.now in
    let found = position_from_yields_List (λ (fact : NodeFact g.row.Op.Denot). bytes_eq fact.spec.name c.args.name) _ _ c.position.result c.position.ensures.ran (YieldsList-from_slice facts cc) (λ x b q k. search (rules, tests)) in
    c.unwrap_or.ensures ∙ ap (λ index. unwrap_or index (length facts)) found ∙ sym (index_of-facts facts c.args.name)
