use Rattle.std.proofs.Common.{subst}
use Rattle.model_graphs.specs.declared.node.Body.{Body}
use Rattle.model_graphs.specs.declared.node.NodeEdit.TheVariants.{Set}
use Rattle.model_operations.specs.declared.operation.IntOp.{IntOp}
use Rattle.run_lines.proofs.NodeLines.{pending_stopped}
use Rattle.run_lines.specs.Commands.{leaves_pending}
use Rattle.run_lines.specs.Stops.{CarriesInSession}
use Rattle.run_lines.proofs.nodes.set_node.Goals as goal

pub returns-in_err-body : goal.returns-in_err-body
returns-in_err-body c = pending_stopped _ c.from_residual.result c.args.session.now c.args.session.now c.from_residual.ensures.1 (λ held over. over)

pub returns : goal.returns
returns c =
    subst (λ (body : Body IntOp). CarriesInSession (λ line state. leaves_pending line state (Set (record { name = c.args.name; body = body }))) c.add_pending.result c.args.session.now c.add_pending.new.session)
    c.in_ok-body.ensures c.add_pending.ensures
