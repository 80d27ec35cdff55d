use Rattle.std.proofs.Common.{arith, ◌^◌}
use Rattle.chain_owners.specs.declared.run.Run.{Run}
use Rattle.swap_store.proofs.RunLists.{run_at}
use Rattle.swap_store.proofs.runs.ends_before.Goals as goal

pub overflow_add-result : goal.overflow_add-result
overflow_add-result c =
    let d : Run = record { first = 0; count = 0 } in
    omega (arith, (run_at 0 (2 ^ 20) c.args.runs.now c.in-Some.last d (omega (arith, c.in-Some.ensures)) c.requires.list).to)
