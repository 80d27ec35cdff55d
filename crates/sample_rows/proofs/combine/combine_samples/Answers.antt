use Rattle.std.proofs.Common.{◌≡◌, ℕ, ◌*◌, ◌/◌, ◌%◌, ◌<◌, length, sym, ap, ◌∙◌, subst}
use Rattle.pixel_formats.specs.Format.{depth, max_sample_of, pixel_bytes}
use Rattle.pixel_formats.specs.Row.{sample_at}
use Rattle.sample_rows.proofs.SampleLaws.{HasPixels-from_samples, sample_at-mapped_pairs}
use Rattle.sample_rows.proofs.combine.combine_samples.Goals as goal

pub returns : goal.returns
returns g c =
    let f = c.args.f in
    let d = g.L.Lanes.depth in
    let combined = g.K.Combine.combined c.args.combination in
    let a = c.args.a.now in
    let b = c.args.b.now in
    let dst = c.transform_vectors.new.dst in
    let whole : length dst % pixel_bytes f ≡ 0 = ap (λ l. l % pixel_bytes f) (c.transform_vectors.auto.dst ∙ c.requires.written_length) ∙ c.requires.whole in
    let P : ℕ → Type 0 = λ n. (j : ℕ) → j < length dst / (1 * n) → sample_at n dst j ≡ combined (max_sample_of n) (sample_at n a j) (sample_at n b j) in
    let samples = sample_at-mapped_pairs d (combined (max_sample_of d)) (length dst / (1 * d)) a b dst c.transform_vectors.ensures in
    HasPixels-from_samples f dst (λ j. combined (max_sample_of (depth f)) (sample_at (depth f) a j) (sample_at (depth f) b j)) whole (subst P (sym c.requires.depth) samples)
