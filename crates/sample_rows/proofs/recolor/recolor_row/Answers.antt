use Rattle.std.proofs.Common.{◌≡◌, ℕ, ◌*◌, ◌/◌, ◌%◌, ◌<◌, length, sym, ap, ◌∙◌, subst, arith}
use Rattle.pixel_formats.specs.Format.{max_sample_of, pixel_bytes}
use Rattle.pixel_formats.specs.Row.{sample_at}
use Rattle.sample_rows.proofs.RecolorLaws.{no_alpha, opaque_pixels}
use Rattle.sample_rows.proofs.SampleLaws.{sample_at-mapped}
use Rattle.sample_rows.proofs.recolor.recolor_row.Goals as goal

pub returns-in_default : goal.returns-in_default
returns-in_default g c =
    let f = c.args.f in
    let change = g.K.Recolor.change c.args.change in
    let src = c.args.src.now in
    let dst = c.recolor_pixels-in_default.new.dst in
    let whole : length dst % pixel_bytes f ≡ 0 = ap (λ l. l % pixel_bytes f) (c.recolor_pixels-in_default.auto.dst ∙ c.requires.same_length) ∙ c.requires.whole in
    let P : ℕ → Type 0 = λ d. (j : ℕ) → j < length dst / (1 * d) → sample_at d dst j ≡ change (max_sample_of d) (sample_at d src j) in
    let samples = sample_at-mapped g.L.Lanes.depth (change (max_sample_of g.L.Lanes.depth)) (length dst / (1 * g.L.Lanes.depth)) src dst c.recolor_pixels-in_default.ensures in
    opaque_pixels f change src dst (no_alpha f (λ e. omega arith) (λ e. omega arith)) whole (subst P (sym c.requires.depth) samples)
