use Rattle.std.proofs.Common.{◌-◌}
use Rattle.model_images.specs.Level.{mean_at}
use Rattle.patch_abyss.specs.Fetched.{RowsFilled}
use Rattle.patch_abyss.proofs.halving.halve_rows.Given as goal

abbrev pub invariant-loop-row : goal.invariant-loop-row
invariant-loop-row l = RowsFilled l.rect l.image.format (mean_at l.image) (l.row - l.rect.first_row) l.bytes
