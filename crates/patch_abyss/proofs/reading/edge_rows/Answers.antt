use Rattle.std.proofs.Common.{◌≡◌, ℕ, ◌+◌, ◌-◌, ◌*◌, ◌<◌, sym, ap, ◌∙◌, subst, arith}
use Rattle.plane_rect.specs.Rectangle.{Rectangle, IsRectangle, Within}
use Rattle.pixel_formats.specs.Format.{pixel_bytes}
use Rattle.pixel_formats.specs.Row.{pixel_at}
use Rattle.pixel_formats.specs.declared.abyss.Abyss.{Abyss}
use Rattle.model_images.specs.Abyss.{abyss_at}
use Rattle.patch_abyss.specs.Copied.{bytes_of}
use Rattle.patch_abyss.specs.Fetched.{outside_sample}
use Rattle.patch_abyss.specs.Rows.{moved_to}
use Rattle.patch_abyss.proofs.CopiedRows.{some_columns}
use Rattle.patch_abyss.proofs.FilledRows.{RowsFilled-by_pixels}
use Rattle.patch_abyss.proofs.Edged.{AreColumns, AreColumns-of, targets_room, middle_room, edged-first_column, edged-inside, edged-end_column, first_room, last_room, first_bytes, last_bytes, once_bytes}
use Rattle.patch_abyss.proofs.ReadPixels.{clamped_pixel, still_pixel}
use Rattle.patch_abyss.proofs.reading.edge_rows.Goals.{After-shared_columns-before}
use Rattle.patch_abyss.proofs.reading.edge_rows.Goals as goal

-- the numbers that the code counts columns with are those of the rectangle and the box
columns : (c : After-shared_columns-before)
    → AreColumns c.args.rect.now c.args.image.now.box (pixel_bytes c.args.image.now.format)
    c.shared_columns-before.result.0 c.shared_columns-before.result.1.start c.shared_columns-before.result.1.end
    c.pixel_bytes-pixel.result c.rect.inside.w c.bounds.inside.w
columns c =
    let shared = c.shared_columns-before in
    AreColumns-of c.rect-bounds.ensures.value shared.ensures.before shared.ensures.start shared.ensures.end
    (c.pixel_bytes-pixel.ensures ∙ ap pixel_bytes c.format.ensures) (ap (λ (r : Rectangle). r.width) c.rect.view_is) (ap (λ (r : Rectangle). r.width) c.bounds.view_is)

-- a box with rows has columns
some : (c : After-shared_columns-before) → 0 < c.args.image.now.box.width
some c =
    some_columns c.args.image.now.box c.args.sources.start (subst IsRectangle c.rect-bounds.ensures.value c.rect-bounds.ensures.rectangle)
    c.requires.first_row (omega (arith, c.requires.end_row))

pub copy_rows-requires-clause-to : goal.copy_rows-requires-clause-to
copy_rows-requires-clause-to c =
    let at = (goal.at.copy_rows-requires-clause-to c).After-shared_columns-before in
    targets_room (columns at) c.new.ensures c.new-middle.ensures (c.args.sources.end - c.args.sources.start) c.args.to.now c.requires.count

pub copy_rows-requires-clause-from : goal.copy_rows-requires-clause-from
copy_rows-requires-clause-from c =
    let at = (goal.at.copy_rows-requires-clause-from c).After-shared_columns-before in
    middle_room (columns at) c.new.ensures c.new-middle.ensures (c.args.sources.end - c.args.sources.start) c.rows-from.result.now c.rows-from.ensures.len

pub fill_sides-requires-clause-leading : goal.fill_sides-requires-clause-leading
fill_sides-requires-clause-leading c =
    let at = (goal.at.fill_sides-requires-clause-leading c).After-shared_columns-before in
    first_room (columns at) c.new-first.ensures (c.args.sources.end - c.args.sources.start) c.rows-from.result.now (some at) c.rows-from.ensures.len

pub fill_sides-requires-clause-trailing : goal.fill_sides-requires-clause-trailing
fill_sides-requires-clause-trailing c =
    let at = (goal.at.fill_sides-requires-clause-trailing c).After-shared_columns-before in
    last_room (columns at) c.new-last.ensures (some at) (c.args.sources.end - c.args.sources.start) c.rows-from.result.now c.rows-from.ensures.len

pub returns-in-Clamp-clause-generated : goal.returns-in-Clamp-clause-generated
returns-in-Clamp-clause-generated c =
    let at = (goal.at.returns-in-Clamp-clause-generated c).After-shared_columns-before in
    let image = c.args.image.now in
    let box = c.args.image.now.box in
    let rect = c.args.rect.now in
    let first = c.args.sources.start in
    let from = c.rows-from.result.now in
    let new = c.fill_sides.new.to in
    let sides = c.fill_sides.ensures.sides in
    RowsFilled-by_pixels (moved_to first rect) image.format (abyss_at image c.args.abyss) (c.args.sources.end - first) new
    (λ j k channel below inside known.
    let here : Within box.first_row box.height (first + j) = (omega (arith, c.requires.first_row), omega (arith, c.requires.end_row)) in
    let down : first + j - first ≡ j = omega arith in
    clamped_pixel image (first + j) from (j * box.width) here
    (λ u channel there known.
    ap (λ (i : ℕ). pixel_at image.format from (i * box.width + (u - box.first_column)) channel) (sym down)
    ∙ c.rows-from.ensures.samples u (first + j) channel there (omega arith) (omega arith) known)
    new (j * rect.width + k) rect.first_column k channel known
    (edged-inside (columns at) c.new.ensures c.new-middle.ensures (c.args.sources.end - first) (bytes_of c.new-first.result from) (bytes_of c.new-last.result from)
    from c.args.to.now c.copy_rows.new.to new c.copy_rows.ensures.rows sides j k below inside)
    (some at)
    (edged-first_column (columns at) sides j k below inside from (j * box.width) (first_bytes (columns at) c.new-first.ensures from j))
    (edged-end_column (columns at) sides j k below inside from (j * box.width + (box.width - 1)) (last_bytes (columns at) c.new-last.ensures (some at) from j))
    ∙ ap (λ (policy : Abyss). abyss_at image policy (rect.first_column + k) (first + j) channel) (sym c.in-Clamp.is))

pub returns-in_default : goal.returns-in_default
returns-in_default c =
    let at = (goal.at.returns-in_default c).After-shared_columns-before in
    let image = c.args.image.now in
    let box = c.args.image.now.box in
    let rect = c.args.rect.now in
    let n = pixel_bytes c.args.image.now.format in
    let first = c.args.sources.start in
    let from = c.rows-from.result.now in
    let new = c.fill_sides-in_default.new.to in
    let sides = c.fill_sides-in_default.ensures.sides in
    let outside = c.outside_pixel-outside.result.now in
    let once = bytes_of c.new-once.result outside in
    record {
      len = c.fill_sides-in_default.ensures.len ∙ c.copy_rows.ensures.len;
      generated =
          RowsFilled-by_pixels (moved_to first rect) image.format (abyss_at image c.args.abyss) (c.args.sources.end - first) new
          (λ j k channel below inside known.
          let here : Within box.first_row box.height (first + j) = (omega (arith, c.requires.first_row), omega (arith, c.requires.end_row)) in
          let down : first + j - first ≡ j = omega arith in
          let sample : pixel_at image.format outside 0 channel ≡ outside_sample c.args.abyss image.format channel = rw c.format-in_default.ensures at c.outside_pixel-outside.ensures.samples channel known in
          still_pixel image (first + j) from (j * box.width) here
          (λ u channel there known.
          ap (λ (i : ℕ). pixel_at image.format from (i * box.width + (u - box.first_column)) channel) (sym down)
          ∙ c.rows-from.ensures.samples u (first + j) channel there (omega arith) (omega arith) known)
          new (j * rect.width + k) rect.first_column k channel known
          (edged-inside (columns at) c.new.ensures c.new-middle.ensures (c.args.sources.end - first) once once from c.args.to.now c.copy_rows.new.to new c.copy_rows.ensures.rows sides j k below inside)
          c.args.abyss outside c.in_default.not-Clamp c.requires.still sample
          (edged-first_column (columns at) sides j k below inside outside 0 (λ b. once_bytes outside n j b c.new-once.ensures))
          (edged-end_column (columns at) sides j k below inside outside 0 (λ b. once_bytes outside n j b c.new-once.ensures)));
    }
