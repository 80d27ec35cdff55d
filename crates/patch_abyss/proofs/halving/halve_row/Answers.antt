use Rattle.std.proofs.Common.{◌≡◌, ℕ, ◌+◌, ◌*◌, ◌/◌, ◌<◌, length, sym, ap, ◌∙◌, refl, subst, arith}
use Rattle.plane_rect.specs.Rectangle.{Rectangle}
use Rattle.pixel_formats.specs.Average.{mean_pixel}
use Rattle.pixel_formats.specs.Format.{pixel_bytes}
use Rattle.pixel_formats.proofs.FormatLaws.{few_bytes}
use Rattle.pixel_formats.specs.Row.{HasPixels, pixel_at}
use Rattle.sample_rows.proofs.RowLaws.{pixel_count_of}
use Rattle.patch_abyss.proofs.HalvedRows.{shows_own, shows_read, mean_row, pair_count}
use Rattle.patch_abyss.proofs.halving.halve_row.Goals as goal

pub returns-then-has_rows-clause-pixels : goal.returns-then-has_rows-clause-pixels
returns-then-has_rows-clause-pixels c = λ k channel inside known.
    let image = c.args.image.now in
    let columns = c.args.columns.now in
    let h = c.if-has_rows.ensures refl in
    let box = c.rect.ensures.value in
    let start : image.box.first_column ≡ columns.first_column = sym (ap (λ (r : Rectangle). r.first_column) box) ∙ h.first_column in
    let many : image.box.width ≡ columns.width = sym (ap (λ (r : Rectangle). r.width) box) ∙ h.width in
    let up = c.rows-above.result.now in
    let down = c.rows-below.result.now in
    let to = c.row_average4.new.dst in
    let pairs = pair_count (pixel_bytes image.format) (length c.args.to.now) columns.width (few_bytes image.format).0 c.requires.whole c.requires.count in
    let below : k < length c.args.to.now / pixel_bytes image.format = subst (λ (l : ℕ). k < l / pixel_bytes image.format) c.row_average4.auto.dst inside in
    let means : HasPixels image.format to (λ k. mean_pixel (pixel_at image.format up (2 * k)) (pixel_at image.format up (2 * k + 1)) (pixel_at image.format down (2 * k)) (pixel_at image.format down (2 * k + 1))) =
    rw c.format-format.ensures at c.row_average4.ensures in
    means k channel inside known
    ∙ mean_row image up down columns.width columns.first_column c.args.row
    (shows_own image up columns.width columns.first_column c.args.row (c.args.row + 1) start many (omega arith) c.rows-above.ensures.samples)
    (shows_own image down columns.width columns.first_column (c.args.row + 1) (c.args.row + 2) start many (omega arith) c.rows-below.ensures.samples)
    k channel (omega (arith, below, pairs)) known

pub returns-clause-pixels : goal.returns-clause-pixels
returns-clause-pixels c = λ k channel inside known.
    let image = c.args.image.now in
    let n = pixel_bytes image.format in
    let columns = c.args.columns.now in
    let up = c.read_row.new.to in
    let down = c.read_row-2.new.to in
    let to = c.row_average4-2.new.dst in
    let pairs = pair_count n (length c.args.to.now) columns.width (few_bytes image.format).0 c.requires.whole c.requires.count in
    let below : k < length c.args.to.now / n = subst (λ (l : ℕ). k < l / n) c.row_average4-2.auto.dst inside in
    let many_up = pixel_count_of image.format up columns.width (c.read_row.ensures.len ∙ c.requires.up ∙ c.requires.count) in
    let many_down = pixel_count_of image.format down columns.width (c.read_row-2.ensures.len ∙ c.requires.down ∙ c.requires.count) in
    let means : HasPixels image.format to (λ k. mean_pixel (pixel_at image.format up (2 * k)) (pixel_at image.format up (2 * k + 1)) (pixel_at image.format down (2 * k)) (pixel_at image.format down (2 * k + 1))) =
    rw c.format-format.ensures at c.row_average4-2.ensures in
    means k channel inside known
    ∙ mean_row image up down columns.width columns.first_column c.args.row
    (shows_read image up columns.width columns.first_column c.args.row many_up c.read_row.ensures.pixels)
    (shows_read image down columns.width columns.first_column (c.args.row + 1) many_down c.read_row-2.ensures.pixels)
    k channel (omega (arith, below, pairs)) known
