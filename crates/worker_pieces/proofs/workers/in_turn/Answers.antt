use Rattle.std.proofs.Common.{Ok, subst}
use Rattle.worker_pieces.proofs.Zips.{AllZip-append}
use Rattle.worker_pieces.proofs.workers.in_turn.Goals as goal

pub loop-next-preserved : goal.loop-next-preserved
loop-next-preserved g c =
    let R = λ (x : g.row.T.Denot) (y : g.row.U.Denot). g.F.Fn.post c.args.job (x, tt) (Ok y) in
    let done = subst (g.F.Fn.post c.args.job (c.in-Some.next, tt)) c.in_ok-job.was c.job.ensures in
    rw c.in_ok-push.ensures.items (AllZip-append R _ _ _ _ c.loop-next.invariant (done, tt))
