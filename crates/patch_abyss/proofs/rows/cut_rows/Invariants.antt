use Rattle.patch_abyss.specs.Copied.{AreRows}
use Rattle.patch_abyss.proofs.rows.cut_rows.Given as goal

abbrev pub invariant-loop-row : goal.invariant-loop-row
invariant-loop-row l = AreRows l.rows l.count l.row l.from l.bytes.items
