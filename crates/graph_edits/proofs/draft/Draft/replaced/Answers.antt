use Rattle.std.proofs.Common.{◌<◌, length, slice_set, arith}
use Rattle.model_graphs.specs.Node.{index_of}
use Rattle.graph_edits.proofs.NameLaws.{beside_replaced, replaced_nodes}
use Rattle.graph_edits.proofs.draft.Draft.replaced.Goals as goal

pub invariant_of-result : goal.invariant_of-result
invariant_of-result g c =
    let there : index_of c.args.self c.args.node.name < length c.args.self = omega (arith, c.requires.at, c.requires.there) in
    beside_replaced c.self.inside.names c.self.inside.nodes.items c.args.self (slice_set c.self.inside.nodes.items c.args.index c.args.node) c.args.node
    c.self.invariant c.self.view_is there
    (replaced_nodes c.self.inside.nodes.items c.args.self c.args.node c.args.index c.self.view_is c.requires.at c.requires.there)

pub returns : goal.returns
returns g c =
    replaced_nodes c.self.inside.nodes.items c.args.self c.args.node c.args.index c.self.view_is c.requires.at c.requires.there
