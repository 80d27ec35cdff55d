use Rattle.std.proofs.Common.{ℕ, ◌+◌, ap, ◌∙◌, arith}
use Rattle.pixel_formats.specs.Row.{sample_at}
use Rattle.sample_rows.proofs.average.load_colors.Goals as goal

pub returns-clause-red : goal.returns-clause-red
returns-clause-red g c =
    let s = sample_at g.L.Lanes.depth c.args.src.now in
    let near = c.split_thirds-near.ensures.first (λ (j : ℕ). s (0 + j)) c.load_three-first.ensures in
    let far = c.split_thirds-far.ensures.first (λ (j : ℕ). s (48 + j)) c.load_three-fourth.ensures in
    (λ j lt. near j lt ∙ ap s (omega arith), λ j lt. far j lt ∙ ap s (omega arith))

pub returns-clause-green : goal.returns-clause-green
returns-clause-green g c =
    let s = sample_at g.L.Lanes.depth c.args.src.now in
    let near = c.split_thirds-near.ensures.second (λ (j : ℕ). s (0 + j)) c.load_three-first.ensures in
    let far = c.split_thirds-far.ensures.second (λ (j : ℕ). s (48 + j)) c.load_three-fourth.ensures in
    (λ j lt. near j lt ∙ ap s (omega arith), λ j lt. far j lt ∙ ap s (omega arith))

pub returns-clause-blue : goal.returns-clause-blue
returns-clause-blue g c =
    let s = sample_at g.L.Lanes.depth c.args.src.now in
    let near = c.split_thirds-near.ensures.third (λ (j : ℕ). s (0 + j)) c.load_three-first.ensures in
    let far = c.split_thirds-far.ensures.third (λ (j : ℕ). s (48 + j)) c.load_three-fourth.ensures in
    (λ j lt. near j lt ∙ ap s (omega arith), λ j lt. far j lt ∙ ap s (omega arith))
