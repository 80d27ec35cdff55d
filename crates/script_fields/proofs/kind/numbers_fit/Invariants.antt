use Rattle.std.proofs.Common.{◌≡◌, drop}
use Rattle.script_fields.specs.Fields.{numbers_fit, texts}
use Rattle.script_fields.proofs.kind.numbers_fit.Given as goal

abbrev pub invariant-loop-word : goal.invariant-loop-word
invariant-loop-word l = numbers_fit l.fn.kinds (texts l.words) ≡ numbers_fit l.kinds (texts (drop l.word-index l.words))
