use Rattle.std.proofs.Common.{◌≡◌, ◌++◌, decimal, drop, map}
use Rattle.script_words.specs.Words.{spaced}
use Rattle.script_fields.proofs.field.put_samples.Given as goal

abbrev pub invariant-loop-sample : goal.invariant-loop-sample
invariant-loop-sample l = l.text.items ++ spaced (map decimal (drop l.sample-index l.samples)) ≡ l.initial.text.items ++ spaced (map decimal l.samples)
