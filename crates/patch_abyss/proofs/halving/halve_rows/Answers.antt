use Rattle.std.proofs.Common.{◌≡◌, ℕ, ◌+◌, ◌-◌, ◌*◌, ◌<◌, ◌≤◌, List, length, length-take, length-drop, take, drop, sym, ap, ◌∙◌, refl, subst, arith}
use Rattle.std.proofs.Math.Nat.{mul-le-mul_right}
use Rattle.plane_rect.specs.Rectangle.{Rectangle, IsRectangle, halved, origin, plane_side}
use Rattle.pixel_formats.specs.Format.{pixel_bytes}
use Rattle.pixel_formats.proofs.FormatLaws.{few_bytes}
use Rattle.model_images.specs.Level.{mean_at, doubled}
use Rattle.patch_abyss.specs.Fetched.{RowsFilled}
use Rattle.patch_abyss.proofs.FilledRows.{RowsFilled-none, RowsFilled-row}
use Rattle.patch_abyss.proofs.HalvedRows.{halved-trailing, halved-rows, whole_pixels, mean_doubled}
use borrow.Rule.Slice.PartMut.{put_mid}
use Rattle.patch_abyss.proofs.halving.halve_rows.Goals.{After-first_row}
use Rattle.patch_abyss.proofs.halving.halve_rows.Goals as goal

pub loop-row-init : goal.loop-row-init
loop-row-init c = RowsFilled-none c.args.rect.now c.args.image.now.format (mean_at c.args.image.now) _ c.args.bytes.now (omega arith)

-- ---- a row of the loop, whose bytes begin at `start` and are `count`

abbrev count : After-first_row → ℕ
count c = c.rect-2.inside.w * c.pixel_bytes.result

abbrev start : After-first_row → ℕ
start c = (c.loop-row.row - c.first_row.result) * count c

-- how many bytes are written, as the code counts them
abbrev written : After-first_row → ℕ
written c = start c + count c - start c

-- the bytes that are overwritten
abbrev old : After-first_row → List ℕ
old c = take (written c) (drop (start c) c.loop-row.bytes)

-- the index of the row among those of the rectangle
abbrev index : After-first_row → ℕ
index c = c.loop-row.row - c.args.rect.now.first_row

is_count : (c : After-first_row) → count c ≡ c.args.rect.now.width * pixel_bytes c.args.image.now.format
is_count c =
    let pixel : c.pixel_bytes.result ≡ pixel_bytes c.args.image.now.format = c.pixel_bytes.ensures ∙ ap pixel_bytes c.format.ensures in
    ap (λ (r : Rectangle). r.width * c.pixel_bytes.result) c.rect-2.view_is ∙ ap (λ (p : ℕ). c.args.rect.now.width * p) pixel

at_start : (c : After-first_row) → start c ≡ index c * count c
at_start c = ap (λ (t : ℕ). (c.loop-row.row - t) * count c) c.first_row.ensures.value

inside_rect : (c : After-first_row) →
    (c.args.rect.now.first_row ≤ c.loop-row.row) × (c.loop-row.row < c.args.rect.now.first_row + c.args.rect.now.height)
inside_rect c = (omega (arith, c.first_row-row.ensures.value), omega (arith, c.loop-row-test.true, c.end_row-row-end.ensures.value))

room : (c : After-first_row) → start c + count c ≤ length c.loop-row.bytes
room c =
    let inside = inside_rect c in
    let below : index c + 1 ≤ c.args.rect.now.height = omega (arith, inside.0, inside.1) in
    omega (arith, at_start c, mul-le-mul_right (count c) below, ap (λ (m : ℕ). c.args.rect.now.height * m) (is_count c), c.requires.count, c.loop-row.auto.bytes)

long : (c : After-first_row) → length (old c) ≡ count c
long c = omega (arith, length-take (written c) (drop (start c) c.loop-row.bytes), length-drop (start c) c.loop-row.bytes, room c)

-- the rows that are averaged are the plane's
inside_plane : (c : After-first_row) →
    (origin ≤ 2 * c.args.rect.now.first_row) × (2 * (c.args.rect.now.first_row + c.args.rect.now.height) ≤ plane_side + origin)
inside_plane c =
    subst (λ (r : Rectangle). (origin ≤ 2 * r.first_row) × (2 * (r.first_row + r.height) ≤ plane_side + origin)) (sym c.requires.rect)
    (halved-rows c.args.image.now.box (subst IsRectangle c.rect.ensures.value c.rect.ensures.rectangle))

-- ---- the goals

pub slice_bounds-to-end : goal.slice_bounds-to-end
slice_bounds-to-end c = room (goal.at.slice_bounds-to-end c).After-first_row

pub overflow_sub-row : goal.overflow_sub-row
overflow_sub-row c =
    let at = (goal.at.overflow_sub-row c).After-first_row in
    omega (arith, (inside_plane at).0, (inside_rect at).0)

pub halve_row-requires-clause-row : goal.halve_row-requires-clause-row
halve_row-requires-clause-row c =
    let at = (goal.at.halve_row-requires-clause-row c).After-first_row in
    omega (arith, (inside_plane at).1, (inside_rect at).1)

pub halve_row-requires-clause-whole : goal.halve_row-requires-clause-whole
halve_row-requires-clause-whole c =
    let at = (goal.at.halve_row-requires-clause-whole c).After-first_row in
    whole_pixels c.args.rect.now.width (pixel_bytes c.args.image.now.format) (length (old at)) (few_bytes c.args.image.now.format).0 (long at ∙ is_count at)

pub halve_row-requires-clause-count : goal.halve_row-requires-clause-count
halve_row-requires-clause-count c =
    let at = (goal.at.halve_row-requires-clause-count c).After-first_row in
    let twice : c.even_columns-columns.result.width ≡ 2 * c.args.rect.now.width =
    c.even_columns-columns.ensures.width ∙ ap (λ (r : Rectangle). 2 * (halved r).width) c.rect.ensures.value ∙ ap (λ (r : Rectangle). 2 * r.width) (sym c.requires.rect) in
    omega (arith, long at, is_count at, ap (λ (w : ℕ). w * pixel_bytes c.args.image.now.format) twice)

pub halve_row-requires-clause-up : goal.halve_row-requires-clause-up
halve_row-requires-clause-up c =
    let at = (goal.at.halve_row-requires-clause-up c).After-first_row in
    omega (arith, c.loop-row.auto.up, c.requires.up, long at, is_count at)

pub halve_row-requires-clause-down : goal.halve_row-requires-clause-down
halve_row-requires-clause-down c =
    let at = (goal.at.halve_row-requires-clause-down c).After-first_row in
    omega (arith, c.loop-row.auto.down, c.requires.down, long at, is_count at)

pub loop-row-preserved : goal.loop-row-preserved
loop-row-preserved c =
    let at = (goal.at.loop-row-preserved c).After-first_row in
    let image = c.args.image.now in
    let rect = c.args.rect.now in
    let row = c.loop-row.row in
    let box : IsRectangle image.box = subst IsRectangle c.rect.ensures.value c.rect.ensures.rectangle in
    let piece = c.halve_row.new.to in
    let at_written : written at ≡ count at = omega arith in
    let fits : length piece ≡ count at = c.halve_row.ensures.len ∙ long at in
    let columns = c.even_columns-columns.result.first_column in
    let trailing : origin ≤ 2 * rect.first_column = subst (λ (r : Rectangle). origin ≤ 2 * r.first_column) (sym c.requires.rect) (halved-trailing image.box box) in
    let at_columns : columns ≡ doubled rect.first_column =
    c.even_columns-columns.ensures.first_column ∙ ap (λ (r : Rectangle). doubled (halved r).first_column) c.rect.ensures.value ∙ ap (λ (r : Rectangle). doubled r.first_column) (sym c.requires.rect) in
    let first = (inside_rect at).0 in
    let is_row : row ≡ rect.first_row + index at = omega (arith, first) in
    let next : index at + 1 ≡ row + 1 - rect.first_row = omega (arith, first) in
    subst (λ (rows : ℕ). RowsFilled rect image.format (mean_at image) rows (put_mid (start at) (written at) c.loop-row.bytes piece)) next
    (RowsFilled-row rect image.format (mean_at image) (index at) c.loop-row.bytes (put_mid (start at) (written at) c.loop-row.bytes piece) c.loop-row.invariant (count at) (is_count at)
    (start at) (written at) piece (at_start at) at_written (room at) fits refl
    (λ k channel inside known.
    c.halve_row.ensures.pixels k channel inside known
    ∙ mean_doubled image rect.first_column row columns k channel trailing at_columns
    ∙ ap (λ (v : ℕ). mean_at image (rect.first_column + k) v channel) is_row))
