use Rattle.std.proofs.Common.{◌≡◌, map, not, eqb, length}
use Rattle.std.specs.List.{filter}
use Rattle.script_words.proofs.words.split_words.Given as goal

abbrev pub invariant-loop-part : goal.invariant-loop-part
invariant-loop-part l =
    map (λ word. word.now) l.words.items ≡ filter (λ part. not (eqb (length part) 0)) (map (λ part. part.now) l.yielded)
