use Rattle.std.proofs.Common.{rules, ◌≡◌, false}
use Rattle.model_graphs.specs.Filter.{Plain}
use Rattle.op_contracts.proofs.NodeOps.{plain-copied}
use Rattle.op_contracts.proofs.node_op.NodeOp.copied_input.Goals as goal

pub returns : goal.returns
returns g c =
    let meaning = g.Op.OpMeaning in
    let alone : c.self.inside.is_masked ≡ false = search rules in
    let plain : c.args.self.now ≡ Plain c.self.inside.op.now = search rules in
    plain-copied meaning.steady meaning.meanings meaning.nodes meaning.derived c.self.inside.op.now c.args.self.now plain c.args.boxes.now c.args.out c.copied_input.result c.copied_input.ensures
