use Rattle.std.proofs.Common.{◌≡◌, ℕ, ◌*◌, length, sym, ap, ◌∙◌, rules}
use Rattle.pixel_formats.specs.Format.{pixel_bytes}
use Rattle.sample_rows.proofs.ConvertLaws.{whole_pixels}
use Rattle.sample_rows.proofs.RowLaws.{pixel_count_of}
use Rattle.point_ops.specs.Changes.{changed_format}
use Rattle.point_ops.proofs.change.changed_bytes.Goals as goal

pub write-requires-clause-whole : goal.write-requires-clause-whole
write-requires-clause-whole c = whole_pixels c.args.from (length c.args.src.now) c.args.pixels c.requires.count

pub write-requires-clause-count : goal.write-requires-clause-count
write-requires-clause-count c =
    let long : length c.deref_mut.result.now ≡ c.args.pixels * pixel_bytes (changed_format c.args.change c.args.from) = search rules in
    long ∙ ap (λ (n : ℕ). n * pixel_bytes (changed_format c.args.change c.args.from)) (sym (pixel_count_of c.args.from c.args.src.now c.args.pixels c.requires.count))
