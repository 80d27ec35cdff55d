use Rattle.std.proofs.Common.{◌≡◌, ℕ, ◌+◌, ◌-◌, ◌*◌, ◌≤◌, length, drop, refl, sym, ap, ◌∙◌, subst, arith, length-take, length-drop}
use Rattle.std.proofs.Math.Nat.{mul-le-mul_right}
use Rattle.plane_rect.specs.Rectangle.{Rectangle, plane_side}
use Rattle.pixel_formats.specs.Format.{pixel_bytes}
use Rattle.pixel_formats.proofs.FormatLaws.{few_bytes}
use Rattle.model_images.specs.Abyss.{abyss_at}
use Rattle.patch_abyss.specs.Fetched.{RowsFilled}
use Rattle.patch_abyss.specs.Rows.{moved_to}
use Rattle.patch_abyss.proofs.Bands.{rows_fit}
use Rattle.patch_abyss.proofs.FilledRows.{RowsFilled-row, RowsFilled-written}
use Rattle.patch_abyss.proofs.reading.fetch_band.Goals.{After-first_row, After-first_row-2}
use Rattle.patch_abyss.proofs.reading.fetch_band.Goals as goal
use borrow.Rule.Slice.PartMut.{put_mid}

-- ---- the row from which on rows are written, whose bytes begin at `start` and are `count`

abbrev count : After-first_row → ℕ
count c = c.rect.inside.w * c.pixel_bytes.result

abbrev start : After-first_row → ℕ
start c = (c.args.row - c.first_row.result) * count c

-- the index of the row among those of the rectangle
abbrev index : After-first_row → ℕ
index c = c.args.row - c.args.rect.now.first_row

is_count : (c : After-first_row) → count c ≡ c.args.rect.now.width * pixel_bytes c.args.image.now.format
is_count c =
    let pixel : c.pixel_bytes.result ≡ pixel_bytes c.args.image.now.format = c.pixel_bytes.ensures ∙ ap pixel_bytes c.format-format.ensures in
    ap (λ (r : Rectangle). r.width * c.pixel_bytes.result) c.rect.view_is ∙ ap (λ (p : ℕ). c.args.rect.now.width * p) pixel

at_start : (c : After-first_row) → start c ≡ index c * count c
at_start c = ap (λ (t : ℕ). (c.args.row - t) * count c) c.first_row.ensures.value

-- rows up to an end within the rectangle have their bytes
fits : (c : After-first_row) (end : ℕ) → end ≤ c.args.rect.now.height → end * count c ≤ length c.args.bytes.now
fits c end below =
    rows_fit c.args.rect.now (pixel_bytes c.args.image.now.format) (count c) end (length c.args.bytes.now) (is_count c) below c.requires.count

room : (c : After-first_row) → start c + count c ≤ length c.args.bytes.now
room c = omega (arith, at_start c, fits c (index c + 1) (omega (arith, c.requires.row)))

-- ---- several rows, up to the index `end` among those of the rectangle

abbrev end : After-first_row-2 → ℕ
end c = c.args.row + c.min-rows.result - c.args.rect.now.first_row

at_end : (c : After-first_row-2) (count : ℕ) → (c.args.row + c.min-rows.result - c.first_row-2.result) * count ≡ end c * count
at_end c count = ap (λ (t : ℕ). (c.args.row + c.min-rows.result - t) * count) c.first_row-2.ensures.value

below : (c : After-first_row-2) → end c ≤ c.args.rect.now.height
below c = omega (arith, c.min-rows.ensures, c.end_row.ensures.value, c.requires.row)

-- ---- the goals

pub slice_bounds-write_outside-end : goal.slice_bounds-write_outside-end
slice_bounds-write_outside-end c = room (goal.at.slice_bounds-write_outside-end c).After-first_row

pub returns-in_default-clause-generated : goal.returns-in_default-clause-generated
returns-in_default-clause-generated c =
    let at = (goal.at.returns-in_default-clause-generated c).After-first_row in
    let image = c.args.image.now in
    let rect = c.args.rect.now in
    let row = c.args.row in
    let bytes = c.args.bytes.now in
    let f = abyss_at image c.args.abyss in
    let piece = c.write_outside.new.to in
    let len = start at + count at - start at in
    let long : length piece ≡ count at = c.write_outside.ensures.len ∙ omega (arith, length-take len (drop (start at) bytes), length-drop (start at) bytes, room at) in
    let here : rect.first_row + index at ≡ row = omega (arith, c.requires.row) in
    let next : index at + 1 ≡ row + 1 - rect.first_row = omega (arith, c.requires.row) in
    let pixels = rw c.format-format.ensures at c.write_outside.ensures.pixels in
    subst (λ (rows : ℕ). RowsFilled rect image.format f rows (put_mid (start at) len bytes piece)) next
    (RowsFilled-row rect image.format f (index at) bytes (put_mid (start at) len bytes piece) c.requires.above (count at) (is_count at)
    (start at) len piece (at_start at) (omega arith) (room at) long refl
    (λ k channel inside known.
    pixels k channel inside known
    ∙ sym (c.in_default.ensures.reads image (rect.first_column + k) channel (sym c.rect-2.ensures.value))
    ∙ ap (λ (v : ℕ). f (rect.first_column + k) v channel) (sym here)))

pub slice_bounds-to-end : goal.slice_bounds-to-end
slice_bounds-to-end c =
    let at = (goal.at.slice_bounds-to-end c).After-first_row in
    let band = (goal.at.slice_bounds-to-end c).After-first_row-2 in
    omega (arith, at_end band (count at), fits at (end band) (below band))

pub returns-clause-generated : goal.returns-clause-generated
returns-clause-generated c =
    let at = (goal.at.returns-clause-generated c).After-first_row in
    let band = (goal.at.returns-clause-generated c).After-first_row-2 in
    let image = c.args.image.now in
    let rect = c.args.rect.now in
    let row = c.args.row in
    let bytes = c.args.bytes.now in
    let f = abyss_at image c.args.abyss in
    let rows = c.min-rows.result in
    let source = c.in-Some.sources.start in
    let all : index at + rows ≡ end band = omega (arith, c.requires.row) in
    let whole : end band * count at ≡ (index at + rows) * count at = ap (λ (i : ℕ). i * count at) (sym all) in
    let len = (row + rows - c.first_row-2.result) * count at - start at in
    let at_len : len ≡ rows * count at = omega (arith, at_start at, at_end band (count at), whole) in
    let enough : start at + rows * count at ≤ length bytes = omega (arith, at_start at, fits at (end band) (below band), whole) in
    let piece = c.write_rows.new.to in
    let long : length piece ≡ rows * count at = c.write_rows.ensures.len ∙ omega (arith, length-take len (drop (start at) bytes), length-drop (start at) bytes, enough, at_len) in
    let here : rect.first_row + index at ≡ row = omega (arith, c.requires.row) in
    let many : source + rows - source ≡ rows = omega arith in
    let filled : RowsFilled (moved_to source rect) image.format f rows piece =
    subst (λ (i : ℕ). RowsFilled (moved_to source rect) image.format f i piece) many c.write_rows.ensures.generated in
    let few : rows ≤ c.in-Some.sources.end - source = omega (arith, c.min-rows.ensures) in
    subst (λ (i : ℕ). RowsFilled rect image.format f i (put_mid (start at) len bytes piece)) all
    (RowsFilled-written rect image.format f (index at) bytes (put_mid (start at) len bytes piece) c.requires.above (count at) (is_count at)
    (start at) len rows source piece (at_start at) at_len enough long refl filled
    (λ i u channel inside.
    sym (c.in-Some.ensures.reads i (omega (arith, inside, few)) image u channel (sym c.rect-2.ensures.value))
    ∙ ap (λ (v : ℕ). f u v channel) (omega (arith, here))))

pub overflow_mul-end : goal.overflow_mul-end
overflow_mul-end c =
    let at = (goal.at.overflow_mul-end c).After-first_row in
    let band = (goal.at.overflow_mul-end c).After-first_row-2 in
    let n = pixel_bytes c.args.image.now.format in
    let plane = c.first_row-2.ensures.rectangle in
    let high : end band * count at ≤ plane_side * count at = mul-le-mul_right (count at) (omega (arith, below band, plane.rows)) in
    let wide : c.args.rect.now.width * n ≤ plane_side * n = mul-le-mul_right n (omega (arith, plane.columns)) in
    omega (arith, at_end band (count at), high, wide, is_count at, few_bytes c.args.image.now.format)

pub write_rows-requires-clause-count : goal.write_rows-requires-clause-count
write_rows-requires-clause-count c =
    let at = (goal.at.write_rows-requires-clause-count c).After-first_row in
    let band = (goal.at.write_rows-requires-clause-count c).After-first_row-2 in
    let bytes = c.args.bytes.now in
    let rows = c.min-rows.result in
    let source = c.in-Some.sources.start in
    let whole : end band * count at ≡ (index at + rows) * count at = ap (λ (i : ℕ). i * count at) (omega (arith, c.requires.row)) in
    let len = (c.args.row + rows - c.first_row-2.result) * count at - start at in
    let at_len : len ≡ rows * count at = omega (arith, at_start at, at_end band (count at), whole) in
    let many : source + rows - source ≡ rows = omega arith in
    omega (arith, length-take len (drop (start at) bytes), length-drop (start at) bytes, at_len, at_start at, fits at (end band) (below band), whole)
    ∙ ap (λ (m : ℕ). rows * m) (is_count at)
    ∙ ap (λ (i : ℕ). i * (c.args.rect.now.width * pixel_bytes c.args.image.now.format)) (sym many)
