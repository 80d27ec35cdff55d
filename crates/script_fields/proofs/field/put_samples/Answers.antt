use Rattle.std.proofs.Common.{ℕ, List, ◌∷◌, ◌++◌, ◌+◌, ◌<◌, decimal, drop, get_or, length, map, sym, ap, ◌∙◌, append_assoc}
use Rattle.std.proofs.lemmas.List.{drop_more}
use Rattle.script_words.specs.Words.{spaced}
use Rattle.script_fields.proofs.field.put_samples.Goals as goal

pub loop-sample-preserved : goal.loop-sample-preserved
loop-sample-preserved c =
    let text = c.loop-sample.text.items in
    let samples = c.args.samples.now in
    let i = c.loop-sample.sample-index in
    let below : i < length samples = c.loop-sample-test.true in
    rw c.in_ok-push_natural.ensures.ok
    (append_assoc text (32 ∷ decimal (get_or samples i 0)) (spaced (map decimal (drop (i + 1) samples)))
    ∙ ap (λ (rest : List ℕ). text ++ spaced (map decimal rest)) (sym (drop_more samples i 0 below))
    ∙ c.loop-sample.invariant)
