use Rattle.std.proofs.Common.{◌≡◌, ℕ, ◌+◌, ◌-◌, ◌*◌, ◌<◌, List, Option, Some, length, sym, ap, ◌∙◌, arith}
use Rattle.pixel_formats.specs.Format.{pixel_bytes}
use Rattle.sample_rows.proofs.RowLaws.{pixel_count_of}
use Rattle.level_tables.specs.Means.{mean_of_found}
use Rattle.level_tables.proofs.HalfRows.{half-mean}
use Rattle.level_tables.proofs.four_tiles.average_half.Goals as goal

one_row : (row m : ℕ) → (row + 1) * m - row * m ≡ m
one_row row m = omega arith

pub returns-clause-pixels : goal.returns-clause-pixels
returns-clause-pixels c = λ k channel inside known.
    let format = c.args.format in
    let row = c.args.row in
    let few : k < 32 = rw (pixel_count_of format c.row_average4.new.dst 32 (c.row_average4.auto.dst ∙ c.requires.count)) at inside in
    let count = 2 * length c.args.to.now in
    let wide : count ≡ 64 * pixel_bytes format = omega (arith, c.requires.count) in
    c.row_average4.ensures k channel inside known
    ∙ half-mean format c.bytes-bytes.result.now _ _ _ _ row k channel (ap (λ (m : ℕ). row * m) wide) (one_row row count ∙ wide)
    (ap (λ (m : ℕ). (row + 1) * m) wide) (omega (arith, wide)) few known
    ∙ ap (λ (t : Option (List ℕ)). mean_of_found format t row k channel) (ap Some c.bytes-bytes.ensures.value ∙ sym c.in-Some.is)
