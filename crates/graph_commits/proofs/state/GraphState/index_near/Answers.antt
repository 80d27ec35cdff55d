use Rattle.std.proofs.Common.{◌≡◌, ◌<◌, ◌∙◌, List, ap, get_or, length, refl, sym}
use Rattle.std.specs.Prelude.{slice_get}
use Rattle.std.proofs.lemmas.Option.{slice_get_read}
use Rattle.model_graphs.specs.declared.node.NodeFact.{NodeFact}
use Rattle.graph_commits.proofs.InputLaws.{position_guessed}
use Rattle.graph_commits.proofs.state.GraphState.index_near.Goals as goal

pub returns-in-Some-clause-value : goal.returns-in-Some-clause-value
returns-in-Some-clause-value g c =
    let nodes = c.nodes.result.now in
    let guess = c.args.guess in
    let fact = c.in-Some.fact.now in
    let there = c.in-Some.is in
    let found : fact ≡ get_or nodes guess fact = rw there at c.get.ensures.lookup.1 in
    let inside : guess < length nodes = (rw there at c.get.ensures.lookup.3).0 in
    position_guessed g.Op.OpMeaning.meanings c.args.self.now guess fact c.args.name c.nodes.ensures.state
    (ap (λ (facts : List (NodeFact g.row.Op.Denot)). slice_get facts guess) (sym c.nodes.ensures.nodes) ∙ slice_get_read nodes (length nodes) guess fact refl inside found)
    (c.if-eq.ensures.same.0 refl)
