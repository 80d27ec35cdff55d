use Rattle.std.proofs.Common.{◌-◌}
use Rattle.plane_rect.specs.Rectangle.{end_row}
use Rattle.model_images.specs.Abyss.{abyss_at}
use Rattle.patch_abyss.proofs.FilledRows.{FilledAbove}
use Rattle.patch_abyss.proofs.reading.fetch_rows.Given as goal

abbrev pub invariant-loop-row : goal.invariant-loop-row
invariant-loop-row l = FilledAbove l.rect l.image.format (abyss_at l.image l.abyss) l.row l.bytes

abbrev pub decreases-loop-row : goal.decreases-loop-row
decreases-loop-row l = end_row l.rect - l.row
