use Rattle.std.proofs.Common.{◌≡◌, ℕ, List, ◌∷◌, ◌++◌, ◌+◌, ◌<◌, drop, length, sym, ap, ◌∙◌, append_assoc}
use Rattle.std.proofs.lemmas.List.{drop_more}
use Rattle.script_words.specs.Words.{spaced}
use Rattle.script_fields.proofs.PrintLaws.{spaced-append}
use Rattle.script_fields.specs.Spelling.{field_words, words_of_fields}
use Rattle.script_fields.specs.declared.field.Field.{Field}
use Rattle.script_fields.proofs.field.put_fields.Goals as goal

pub loop-field-preserved : goal.loop-field-preserved
loop-field-preserved c =
    let text = c.loop-field.text.items in
    let fields = c.args.fields.now in
    let i = c.loop-field.field-index in
    let field : Field = c.field-item.result in
    let below : i < length fields = c.loop-field-test.true in
    let rest = words_of_fields (drop (i + 1) fields) in
    let remaining : drop i fields ≡ field ∷ drop (i + 1) fields = drop_more fields i field below ∙ ap (λ (f : Field). f ∷ drop (i + 1) fields) (sym c.field-item.is) in
    let put : c.put.new.text.items ≡ text ++ spaced (field_words field) = c.in_ok-put.ensures.text in
    record {
      text =
          rw put
          (append_assoc text (spaced (field_words field)) (spaced rest)
          ∙ ap (λ (all : List ℕ). text ++ all) (sym (spaced-append (field_words field) rest))
          ∙ ap (λ (others : List Field). text ++ spaced (words_of_fields others)) (sym remaining)
          ∙ c.loop-field.invariant.text);
      valid = λ valid. c.loop-field.invariant.valid (rw remaining (c.in_ok-put.ensures.valid, valid));
    }
