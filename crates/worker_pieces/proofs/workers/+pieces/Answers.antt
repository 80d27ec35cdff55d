use Rattle.std.proofs.Common.{Ok}
use Rattle.std.proofs.lemmas.Result.{IfOk-at_ok}
use Rattle.std.specs.List.{AllZip}
use Rattle.worker_pieces.proofs.Zips.{AllZip-cut}
use Rattle.worker_pieces.proofs.workers.+pieces.Goals as goal

pub returns : goal.returns
returns g t c =
    let R = λ (x : g.row.T.Denot) (y : g.row.U.Denot). g.F.Fn.post c.args.job (x, tt) (Ok y) in
    let cut = c.in_ok-rest.ensures in
    let made = IfOk-at_ok (λ it. AllZip R c.split_off.new.self.items it.items) c.in_ok-all.was c.join-made.ensures.first in
    let more = IfOk-at_ok (λ it. AllZip R c.in_ok-rest.rest.items it.items) c.in_ok-more.was c.join-made.ensures.second in
    rw c.in_ok-append.ensures.items (AllZip-cut R _ c.args.jobs.items _ _ _ _ cut.items cut.tail made more)
