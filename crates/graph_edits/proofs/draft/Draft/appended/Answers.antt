use Rattle.graph_edits.proofs.NameLaws.{appended_nodes, position_past}
use Rattle.graph_edits.proofs.draft.Draft.appended.Goals as goal

pub push-requires : goal.push-requires
push-requires g c =
    position_past c.self.inside.names c.self.inside.nodes.items c.args.self c.args.node.name c.self.invariant c.self.view_is c.requires

pub returns : goal.returns
returns g c =
    appended_nodes c.self.inside.nodes.items c.args.self c.push-2.new.self.items c.args.node c.self.view_is c.requires c.in_ok-push-2.ensures.items
