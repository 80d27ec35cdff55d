use Rattle.std.proofs.Common.{◌%◌}
use Rattle.patch_abyss.specs.Copied.{HasRows, bytes_of}
use Rattle.patch_abyss.proofs.fill.cycle_rows.Given as goal

abbrev pub invariant-loop-row : goal.invariant-loop-row
invariant-loop-row l = HasRows l.targets l.count l.row (λ j k. bytes_of l.sources l.fn.from j (k % l.period)) l.fn.to l.to
