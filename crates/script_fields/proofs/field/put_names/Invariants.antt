use Rattle.std.proofs.Common.{◌≡◌, ◌++◌, drop}
use Rattle.script_words.specs.Words.{spaced}
use Rattle.script_fields.specs.Spelling.{AreNames}
use Rattle.script_fields.proofs.field.put_names.Given as goal

abbrev pub invariant-loop-name : goal.invariant-loop-name
invariant-loop-name l = record {
  text : l.text.items ++ spaced (drop l.name-index l.names) ≡ l.initial.text.items ++ spaced l.names;
  valid : AreNames (drop l.name-index l.names) → AreNames l.names;
}
