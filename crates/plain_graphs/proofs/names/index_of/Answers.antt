use Rattle.std.proofs.Common.{ap, ◌∙◌, length, unwrap_or, rules, tests}
use Rattle.std.specs.Str.{bytes_eq}
use Rattle.std.proofs.lemmas.Iterator.{YieldsList-from_slice}
use Rattle.std.proofs.lemmas.Iterator.Search.{position_from_yields_List}
use Rattle.model_graphs.specs.Node.{Node}
use Rattle.model_operations.specs.declared.operation.IntOp.{IntOp}
use Rattle.plain_graphs.proofs.names.index_of.Goals as goal

pub returns-clause-value : goal.returns-clause-value
returns-clause-value c =
    let nodes = c.args.nodes.now in
    let found = position_from_yields_List (λ (node : Node IntOp). bytes_eq node.name c.args.name) _ _ c.position.result c.position.ensures.ran (YieldsList-from_slice nodes cc) (λ x b q k. search (rules, tests)) in
    c.unwrap_or.ensures ∙ ap (λ index. unwrap_or index (length nodes)) found
