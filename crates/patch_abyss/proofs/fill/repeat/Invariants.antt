use Rattle.std.proofs.Common.{length, ◌-◌}
use Rattle.patch_abyss.proofs.Repeated.{Repeats}
use Rattle.patch_abyss.proofs.fill.repeat.Given as goal

abbrev pub invariant-loop-done : goal.invariant-loop-done
invariant-loop-done l = Repeats l.period l.done l.fn.bytes l.bytes

abbrev pub decreases-loop-done : goal.decreases-loop-done
decreases-loop-done l = length l.initial.bytes - l.done
