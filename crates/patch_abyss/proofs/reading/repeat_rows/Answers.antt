use Rattle.std.proofs.Common.{◌≡◌, ℕ, ◌+◌, ◌-◌, ◌*◌, ◌%◌, ◌<◌, ◌≤◌, length, take, drop, refl, sym, ap, ◌∙◌, subst, arith, length-take, length-drop}
use Rattle.std.proofs.lemmas.List.{get_or-take, get_or-drop}
use Rattle.std.proofs.lemmas.Nat.{mod_below}
use Rattle.plane_rect.specs.Rectangle.{Rectangle}
use Rattle.pixel_formats.specs.Format.{pixel_bytes}
use Rattle.model_images.specs.Abyss.{abyss_at}
use Rattle.patch_abyss.specs.Fetched.{RowsFilled}
use Rattle.patch_abyss.proofs.Bands.{some_bytes, rows_fit, rows_back}
use Rattle.patch_abyss.proofs.CopiedRows.{some_columns}
use Rattle.patch_abyss.proofs.FilledRows.{RowsFilled-repeated}
use Rattle.patch_abyss.proofs.reading.repeat_rows.Goals.{After-first_row, After-first_row-2}
use Rattle.patch_abyss.proofs.reading.repeat_rows.Goals as goal
use borrow.Rule.Slice.PartMut.{put_mid}

-- how many bytes a row has
abbrev count : After-first_row → ℕ
count c = c.rect.inside.w * c.pixel_bytes.result

is_count : (c : After-first_row) → count c ≡ c.args.rect.now.width * pixel_bytes c.args.image.now.format
is_count c =
    let pixel : c.pixel_bytes.result ≡ pixel_bytes c.args.image.now.format = c.pixel_bytes.ensures ∙ ap pixel_bytes c.format.ensures in
    ap (λ (r : Rectangle). r.width * c.pixel_bytes.result) c.rect.view_is ∙ ap (λ (p : ℕ). c.args.rect.now.width * p) pixel

-- the rows up to the end have their bytes
fits : (c : After-first_row) → (c.args.repetition.now.end - c.args.rect.now.first_row) * count c ≤ length c.args.bytes.now
fits c =
    let rect = c.args.rect.now in
    let end = c.args.repetition.now.end - rect.first_row in
    let rows : end ≤ rect.height = omega (arith, c.requires.repetition.within, c.requires.row) in
    rows_fit rect (pixel_bytes c.args.image.now.format) (count c) end (length c.args.bytes.now) (is_count c) rows c.requires.count

-- the rows that are repeated have bytes
some : (c : After-first_row) → 0 < c.args.repetition.now.period * count c
some c =
    let wide = some_columns c.args.rect.now c.args.row c.first_row.ensures.rectangle c.requires.row.0 c.requires.row.1 in
    some_bytes c.args.image.now.format c.args.rect.now.width (count c) c.args.repetition.now.period (is_count c) wide c.requires.repetition.some

at_end : (c : After-first_row-2) (count : ℕ)
    → (c.args.repetition.now.end - c.first_row-2.result) * count ≡ (c.args.repetition.now.end - c.args.rect.now.first_row) * count
at_end c count = ap (λ (t : ℕ). (c.args.repetition.now.end - t) * count) c.first_row-2.ensures.value

pub slice_bounds-repeat-end : goal.slice_bounds-repeat-end
slice_bounds-repeat-end c =
    let at = (goal.at.slice_bounds-repeat-end c).After-first_row in
    omega (arith, at_end (goal.at.slice_bounds-repeat-end c).After-first_row-2 (count at), fits at)

pub repeat-requires : goal.repeat-requires
repeat-requires c = some (goal.at.repeat-requires c).After-first_row

pub returns-clause-generated : goal.returns-clause-generated
returns-clause-generated c =
    let at = (goal.at.returns-clause-generated c).After-first_row in
    let image = c.args.image.now in
    let rect = c.args.rect.now in
    let row = c.args.row in
    let repetition = c.args.repetition.now in
    let bytes = c.args.bytes.now in
    let f = abyss_at image c.args.abyss in
    let j = row - rect.first_row in
    let more = repetition.end - row in
    let period = repetition.period in
    let here : rect.first_row + j ≡ row = omega (arith, c.requires.row) in
    let at_j : (row - c.first_row.result) * count at ≡ j * count at = ap (λ (t : ℕ). (row - t) * count at) c.first_row.ensures.value in
    let ends = at_end (goal.at.returns-clause-generated c).After-first_row-2 (count at) in
    let first = (row - c.first_row.result) * count at - period * count at in
    let len = (repetition.end - c.first_row-2.result) * count at - first in
    let above : period ≤ j = omega (arith, c.requires.repetition.above) in
    let all : j + more ≡ repetition.end - rect.first_row = omega (arith, here, c.requires.repetition.further) in
    let back = rows_back j period more (count at) above in
    let at_first : first ≡ (j - period) * count at = omega (arith, at_j, back.0) in
    let whole : (repetition.end - rect.first_row) * count at ≡ (j + more) * count at = ap (λ (i : ℕ). i * count at) (sym all) in
    let at_len : len ≡ (period + more) * count at = omega (arith, ends, whole, at_first, back.1) in
    let room : first + len ≤ length bytes = omega (arith, ends, fits at, at_len, at_first, whole, back.1) in
    let piece = c.repeat.new.bytes in
    let slice = take len (drop first bytes) in
    let sliced : length slice ≡ len = omega (arith, length-take len (drop first bytes), length-drop first bytes, room) in
    let few : period * count at ≤ len = omega (arith, at_len) in
    subst (λ (rows : ℕ). RowsFilled rect image.format f rows (put_mid first len bytes piece)) all
    (RowsFilled-repeated rect image.format f j bytes (put_mid first len bytes piece) c.requires.above (count at) (is_count at)
    first len period more piece c.requires.repetition.some above at_first at_len room (c.repeat.ensures.len ∙ sliced) refl
    (λ i below.
    c.repeat.ensures.bytes i (omega (arith, below, sliced))
    ∙ get_or-take len (drop first bytes) (i % (period * count at)) 0 (omega (arith, mod_below i (period * count at) (some at), few))
    ∙ get_or-drop first bytes (i % (period * count at)) 0)
    (λ i u channel below.
    ap (λ (v : ℕ). f u v channel) (omega (arith, here, above))
    ∙ c.requires.repetition.same i (omega (arith, below)) image u channel refl
    ∙ ap (λ (v : ℕ). f u v channel) (omega (arith, here))))
