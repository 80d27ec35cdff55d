use Rattle.std.proofs.Common.{length, ap, arith}
use Rattle.graph_edits.proofs.NameLaws.{beside_removed, position_is, removed_nodes}
use Rattle.graph_edits.proofs.draft.Draft.without.Goals as goal

pub remove-requires : goal.remove-requires
remove-requires g c =
    let at = position_is c.self.inside.names c.self.inside.nodes.items c.args.self c.args.name c.index_of-index.result c.self.invariant c.self.view_is c.index_of-index.ensures.value in
    let count = ap length c.self.view_is in
    omega (arith, at, count, c.requires, c.self.inside.nodes.ok.0)

pub invariant_of-result : goal.invariant_of-result
invariant_of-result g c =
    beside_removed c.self.inside.names c.remove-2.new.self c.self.inside.nodes.items c.remove.new.self.items c.index_of-index.result
    c.self.invariant c.remove-2.ensures c.remove.ensures.items

pub returns : goal.returns
returns g c =
    removed_nodes c.self.inside.nodes.items c.args.self c.remove.new.self.items c.args.name c.index_of-index.result c.self.view_is
    (position_is c.self.inside.names c.self.inside.nodes.items c.args.self c.args.name c.index_of-index.result c.self.invariant c.self.view_is c.index_of-index.ensures.value)
    c.remove.ensures.items
