use Rattle.patch_abyss.specs.Copied.{HasRows, bytes_of}
use Rattle.patch_abyss.proofs.rows.copy_rows.Given as goal

abbrev pub invariant-loop-row : goal.invariant-loop-row
invariant-loop-row l = HasRows l.targets l.count l.row (bytes_of l.sources l.fn.from) l.fn.to l.to
