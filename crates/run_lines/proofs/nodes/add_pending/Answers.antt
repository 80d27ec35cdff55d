use Rattle.std.proofs.Common.{◌≡◌, ap, subst}
use Rattle.std.specs.Result.{IsErrAnd}
use Rattle.commit_session.specs.Parts.{Parts}
use Rattle.commit_session.specs.declared.refused.SessionRefused.{SessionRefused}
use Rattle.model_operations.specs.declared.operation.IntOp.{IntOp}
use Rattle.run_lines.proofs.NodeLines.{pending_carried, pending_stopped}
use Rattle.run_lines.specs.Stops.{stop_of}
use Rattle.run_lines.proofs.nodes.add_pending.Goals as goal

pub returns-in_err-add_pending : goal.returns-in_err-add_pending
returns-in_err-add_pending c =
    let ensures = c.in_err-add_pending.ensures in
    pending_stopped _ c.from_residual.result c.args.session.now c.add_pending.new.self
    (subst (λ (refused : SessionRefused). IsErrAnd c.from_residual.result (λ stop. stop ≡ stop_of refused)) ensures.cause c.from_residual.ensures.1) ensures.over

pub returns : goal.returns
returns c =
    let ensures = c.in_ok-add_pending.ensures in
    pending_carried c.args.edit c.args.session.now c.add_pending.new.self (ap (λ (parts : Parts IntOp). parts.capacity) ensures.added) ensures.session ensures.over
