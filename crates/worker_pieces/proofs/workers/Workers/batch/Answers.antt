use Rattle.std.proofs.Common.{◌≡◌, Ok, Result, map, subst, sym}
use Rattle.std.specs.List.{AllZip}
use Rattle.alloc_basics.specs.declared.memory.NoMemory.{NoMemory}
use Rattle.worker_pieces.proofs.Zips.{AllZip-made, ok-more}
use Rattle.worker_pieces.proofs.workers.Workers.batch.Goals as goal

pub returns : goal.returns
returns g c =
    let R = λ (x : g.row.T.Denot) (y : Result g.row.U.Denot NoMemory). g.F.Fn.post c.args.job (x, tt) y in
    ok-more c.made_of.result (λ made. map Ok made.items ≡ c.in_ok-work_batch.field-0.items) _
    (λ made are. AllZip-made R c.args.jobs.items made.items (subst (AllZip R c.args.jobs.items) (sym are) c.in_ok-work_batch.ensures))
    c.made_of.ensures
