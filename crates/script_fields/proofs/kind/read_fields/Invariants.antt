use Rattle.std.proofs.Common.{◌≡◌, drop}
use Rattle.script_fields.proofs.ListLaws.{after}
use Rattle.script_fields.specs.Fields.{fields_of_words, texts}
use Rattle.script_fields.proofs.kind.read_fields.Given as goal

abbrev pub invariant-loop-word : goal.invariant-loop-word
invariant-loop-word l =
    fields_of_words l.fn.kinds (texts l.words) ≡ after l.fields.items (fields_of_words l.kinds (texts (drop l.word-index l.words)))
