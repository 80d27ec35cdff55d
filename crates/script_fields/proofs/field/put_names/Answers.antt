use Rattle.std.proofs.Common.{◌≡◌, ℕ, List, ◌∷◌, ◌++◌, ◌+◌, ◌<◌, drop, length, sym, ap, ◌∙◌, append_assoc}
use Rattle.std.proofs.lemmas.List.{drop_more}
use Rattle.script_words.specs.Words.{spaced}
use Rattle.script_fields.proofs.field.put_names.Goals as goal

pub loop-name-preserved : goal.loop-name-preserved
loop-name-preserved c =
    let text = c.loop-name.text.items in
    let names = c.args.names.now in
    let i = c.loop-name.name-index in
    let name : List ℕ = c.name-item.result in
    let below : i < length names = c.loop-name-test.true in
    let remaining : drop i names ≡ name ∷ drop (i + 1) names = drop_more names i name below ∙ ap (λ (n : List ℕ). n ∷ drop (i + 1) names) (sym c.name-item.is) in
    let put : c.push_word.new.text.items ≡ text ++ 32 ∷ name = c.in_ok-push_word.ensures.ok ∙ ap (λ (word : List ℕ). text ++ 32 ∷ word) c.as_bytes.ensures.value in
    record {
      text = rw put (append_assoc text (32 ∷ name) (spaced (drop (i + 1) names)) ∙ ap (λ (rest : List (List ℕ)). text ++ spaced rest) (sym remaining) ∙ c.loop-name.invariant.text);
      valid = λ valid. c.loop-name.invariant.valid (rw remaining (rw c.as_bytes.ensures.value at c.as_bytes.ensures.name, valid));
    }
