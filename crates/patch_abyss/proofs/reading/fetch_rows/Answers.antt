use Rattle.std.proofs.Common.{arith}
use Rattle.model_images.specs.Abyss.{abyss_at}
use Rattle.patch_abyss.proofs.FilledRows.{RowsFilled-none}
use Rattle.patch_abyss.proofs.reading.fetch_rows.Goals as goal

pub loop-row-init : goal.loop-row-init
loop-row-init c = record {
  first_row = omega (arith, c.first_row-row.ensures.value);
  end_row = omega (arith, c.first_row-row.ensures.value);
  rows_filled = RowsFilled-none c.args.rect.now c.args.image.now.format (abyss_at c.args.image.now c.args.abyss) _ c.args.bytes.now (omega (arith, c.first_row-row.ensures.value));
}
