use Rattle.std.proofs.Common.{◌≡◌, ◌<◌, length, arith}
use Rattle.std.proofs.lemmas.List.{set_split}
use Rattle.model_graphs.specs.Node.{index_of}
use Rattle.plain_graphs.proofs.edits.set.Goals as goal

pub returns-then-index-len : goal.returns-then-index-len
returns-then-index-len c =
    let nodes = c.args.nodes.now.items in
    let inside : c.index_of-index.result < length nodes = omega (arith, c.deref.ensures.len) in
    let at : index_of nodes c.args.node.name ≡ c.index_of-index.result = cc in
    rw at (set_split nodes c.index_of-index.result c.args.node inside)
