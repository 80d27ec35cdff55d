use Rattle.std.proofs.Common.{◌%◌}
use Rattle.patch_abyss.specs.Copied.{HasRows, bytes_of}
use Rattle.patch_abyss.proofs.fill.repeat_in_rows.Given as goal

abbrev pub invariant-loop-row : goal.invariant-loop-row
invariant-loop-row l = HasRows l.rows l.count l.row (λ j k. bytes_of l.rows l.fn.to j (k % l.period)) l.fn.to l.to
