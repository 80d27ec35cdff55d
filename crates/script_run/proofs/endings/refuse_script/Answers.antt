use Rattle.std.proofs.Common.{None}
use Rattle.script_run.proofs.endings.refuse_script.Goals as goal

pub unreachable-requires : goal.unreachable-requires
unreachable-requires g c =
    let none = (c.in-Ok.ensures.leaves None).refused in
    cc
