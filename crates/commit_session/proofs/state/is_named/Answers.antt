use Rattle.std.proofs.Common.{◌≡◌, ◌∙◌, rules, tests}
use Rattle.std.specs.Prelude.{is_some}
use Rattle.std.specs.Str.{bytes_eq}
use Rattle.std.proofs.lemmas.Iterator.{YieldsList-from_slice}
use Rattle.std.proofs.lemmas.Iterator.Search.{position_from_yields_List}
use Rattle.model_graphs.specs.declared.node.NodeFact.{NodeFact}
use Rattle.render_workers.proofs.Shown.{there-is}
use Rattle.commit_session.proofs.state.is_named.Goals as goal

pub returns : goal.returns
returns g c =
    let nodes = c.args.nodes.now in
    let found = position_from_yields_List (λ (node : NodeFact g.row.Op.Denot). bytes_eq node.spec.name c.args.name) _ _ c.position.result c.position.ensures.ran (YieldsList-from_slice nodes cc) (λ x b q k. search (rules, tests)) in
    let some : c.is_some.result ≡ is_some c.position.result = search (rules, tests) in
    some ∙ there-is nodes c.args.name c.position.result found
