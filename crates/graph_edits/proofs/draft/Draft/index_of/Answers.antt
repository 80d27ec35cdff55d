use Rattle.graph_edits.proofs.NameLaws.{position_is}
use Rattle.graph_edits.proofs.draft.Draft.index_of.Goals as goal

pub returns-clause-value : goal.returns-clause-value
returns-clause-value g c =
    position_is c.self.inside.names c.self.inside.nodes.items c.args.self.now c.args.name c.index_of.result
    c.self.invariant c.self.view_is c.index_of.ensures.value
