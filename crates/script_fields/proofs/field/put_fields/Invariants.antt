use Rattle.std.proofs.Common.{◌≡◌, ◌++◌, drop}
use Rattle.script_words.specs.Words.{spaced}
use Rattle.script_fields.specs.Spelling.{AreValid, words_of_fields}
use Rattle.script_fields.proofs.field.put_fields.Given as goal

abbrev pub invariant-loop-field : goal.invariant-loop-field
invariant-loop-field l = record {
  text : l.text.items ++ spaced (words_of_fields (drop l.field-index l.fields)) ≡ l.initial.text.items ++ spaced (words_of_fields l.fields);
  valid : AreValid (drop l.field-index l.fields) → AreValid l.fields;
}
