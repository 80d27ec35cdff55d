use Rattle.std.proofs.Common.{◌≡◌, ℕ, ◌-◌, ◌*◌, sym, ap, ◌∙◌, subst, arith}
use Rattle.plane_rect.specs.Rectangle.{Rectangle, IsRectangle}
use Rattle.pixel_formats.specs.Format.{pixel_bytes}
use Rattle.pixel_formats.specs.declared.abyss.Abyss.{Abyss}
use Rattle.model_images.specs.Abyss.{abyss_at, wrapped}
use Rattle.patch_abyss.specs.Fetched.{RowsFilled}
use Rattle.patch_abyss.specs.Rows.{moved_to}
use Rattle.patch_abyss.proofs.CopiedRows.{some_columns}
use Rattle.patch_abyss.proofs.LoopedRows.{RowsFilled-looped}
use Rattle.patch_abyss.proofs.reading.write_rows.Goals as goal

pub returns-in-Loop-clause-generated : goal.returns-in-Loop-clause-generated
returns-in-Loop-clause-generated c =
    let image = c.args.image.now in
    let rect = c.args.rect.now in
    let s = c.args.sources.start in
    let e = c.args.sources.end in
    let p = c.pixel_bytes-pixel.result in
    let n = pixel_bytes image.format in
    let pixel : p ≡ n = c.pixel_bytes-pixel.ensures ∙ ap pixel_bytes c.format.ensures in
    let box : c.rect-bounds.result ≡ image.box = c.rect-bounds.ensures.value in
    let count : c.rect.inside.w * p ≡ rect.width * n = ap (λ (r : Rectangle). r.width * p) c.rect.view_is ∙ ap (λ (i : ℕ). rect.width * i) pixel in
    let period : c.bounds.inside.w * p ≡ image.box.width * n =
    ap (λ (r : Rectangle). r.width * p) (c.bounds.view_is ∙ box) ∙ ap (λ (i : ℕ). image.box.width * i) pixel in
    let first = c.wrapped_start.result in
    let at_first : first ≡ wrapped image.box.first_column image.box.width rect.first_column - image.box.first_column =
    c.wrapped_start.ensures ∙ ap (λ (r : Rectangle). wrapped r.first_column r.width rect.first_column - r.first_column) box in
    subst (λ (policy : Abyss). RowsFilled (moved_to s rect) image.format (abyss_at image policy) (e - s) c.wrap_rows.new.to) (sym c.in-Loop.is)
    (RowsFilled-looped image rect s e first c.rows.result.now c.wrap_rows.new.to c.requires.first_row c.requires.end_row
    (some_columns image.box s (subst IsRectangle box c.rect-bounds.ensures.rectangle) c.requires.first_row (omega (arith, c.requires.some, c.requires.end_row)))
    c.rows.ensures.samples at_first
    (rw (← count, ← period, ← pixel) c.wrap_rows.ensures.bytes))
