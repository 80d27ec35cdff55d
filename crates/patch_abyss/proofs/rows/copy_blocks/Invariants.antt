use Rattle.std.proofs.Common.{◌≡◌, ◌-◌, take}
use Rattle.patch_abyss.proofs.rows.copy_blocks.Given as goal

abbrev pub invariant-loop-start : goal.invariant-loop-start
invariant-loop-start g l = take l.start l.to ≡ take l.start l.fn.from

abbrev pub decreases-loop-start : goal.decreases-loop-start
decreases-loop-start g l = l.last - l.start
