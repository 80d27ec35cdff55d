use Rattle.std.proofs.Common.{◌≡◌, ◌-◌, ◌*◌, ◌/◌, ◌%◌, ◌<◌, ◌++◌, length, drop, ◌∙◌, arith, length-append, length-drop, length-take}
use Rattle.pixel_formats.specs.Format.{pixel_bytes}
use Rattle.pixel_formats.specs.Row.{HasPixels}
use Rattle.sample_rows.proofs.RowLaws.{pixel_count_of}
use Rattle.level_tables.specs.Means.{left_of, mean_of_found, right_of}
use Rattle.level_tables.proofs.HalfRows.{halves-joined}
use borrow.Rule.Slice.PartMut.{same_len_mid}
use Rattle.level_tables.proofs.four_tiles.FourTiles.average_row.Goals as goal

pub returns-clause-pixels : goal.returns-clause-pixels
returns-clause-pixels c = λ k channel inside known.
    let format = c.args.format in
    let four = c.args.self.now in
    let row = c.args.row in
    let to = c.args.to.now in
    let half = length to / 2 in
    let left = c.average_half.new.to in
    let right = c.average_half-2.new.to in
    let rest = drop half to in
    let from : half ≡ 32 * pixel_bytes format = omega (arith, c.requires.count) in
    let left_long : length left ≡ 32 * pixel_bytes format = c.average_half.ensures.len ∙ length-take half to ∙ omega (arith, c.requires.count) in
    let whole : length (left ++ rest) ≡ 64 * pixel_bytes format = length-append left rest ∙ omega (arith, left_long, length-drop half to, from, c.requires.count) in
    let right_long : length right ≡ 32 * pixel_bytes format =
    c.average_half-2.ensures.len ∙ length-take _ (drop half (left ++ rest)) ∙ omega (arith, whole, length-drop half (left ++ rest), from) in
    let left_pixels : HasPixels format left (mean_of_found format (left_of four row) (2 * row % 64)) =
    rw c.side_by_side.ensures.left at c.average_half.ensures.pixels in
    let right_pixels : HasPixels format right (mean_of_found format (right_of four row) (2 * row % 64)) =
    rw c.side_by_side.ensures.right at c.average_half-2.ensures.pixels in
    let few : k < 64 =
    rw (pixel_count_of format _ 64 (same_len_mid half (length (left ++ rest) - half) (left ++ rest) right c.average_half-2.ensures.len ∙ whole)) at inside in
    halves-joined format four row left right rest half _ from (omega (arith, whole, from)) left_long right_long (omega (arith, whole, from)) left_pixels right_pixels k channel few known
