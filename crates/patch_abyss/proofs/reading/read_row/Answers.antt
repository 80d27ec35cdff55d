use Rattle.std.proofs.Common.{ℕ, ◌+◌, sym, ap, ◌∙◌, arith}
use Rattle.model_images.specs.Abyss.{abyss_at}
use Rattle.patch_abyss.proofs.FilledRows.{RowsFilled-pixels}
use Rattle.patch_abyss.proofs.reading.read_row.Goals as goal

pub returns-clause-pixels : goal.returns-clause-pixels
returns-clause-pixels c = λ k channel inside known.
    let image = c.args.image.now in
    let rect = c.args.rect.now in
    let u = rect.first_column + k in
    let f = λ (v : ℕ). abyss_at image c.args.abyss u v channel in
    RowsFilled-pixels rect image.format (abyss_at image c.args.abyss) c.in-Some.sources.start _ c.write_rows.new.to (omega arith) (c.write_rows.ensures.len ∙ c.requires) c.write_rows.ensures.generated k channel inside known
    ∙ ap f (omega arith)
    ∙ sym (c.in-Some.ensures.reads 0 (omega (arith, c.in-Some.ensures.some)) image u channel (sym c.rect.ensures.value))
    ∙ ap f (omega arith)
