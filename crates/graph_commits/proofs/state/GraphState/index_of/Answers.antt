use Rattle.std.proofs.Common.{ap}
use Rattle.model_graphs.specs.Facts.{specs_of}
use Rattle.graph_edits.proofs.NameLaws.{position_is}
use Rattle.graph_commits.proofs.state.GraphState.index_of.Goals as goal

pub returns-clause-value : goal.returns-clause-value
returns-clause-value g c =
    position_is c.self.inside.names (specs_of c.self.inside.nodes.items) (specs_of c.args.self.now.nodes) c.args.name c.index_of.result
    c.self.invariant.0 (ap (λ side. specs_of side.nodes) c.self.view_is) c.index_of.ensures.value
