use Rattle.std.proofs.Common.{◌≡◌, List, [], drop, sym, ap, ◌∙◌}
use Rattle.script_fields.proofs.ListLaws.{no_items, numbers_of_none}
use Rattle.script_fields.specs.Fields.{numbers_fit, texts}
use Rattle.script_fields.specs.declared.kind.Kind.{Kind}
use Rattle.script_fields.proofs.kind.numbers_fit.Goals as goal

pub returns-in_default : goal.returns-in_default
returns-in_default c =
    let rest = texts (drop c.loop-word.word-index c.args.words.now) in
    let none : c.loop-word.kinds.now ≡ [] = no_items c.loop-word.kinds.now c.in_default.ensures.cases in
    sym (c.loop-word.invariant ∙ ap (λ (kinds : List Kind). numbers_fit kinds rest) none ∙ numbers_of_none rest)
