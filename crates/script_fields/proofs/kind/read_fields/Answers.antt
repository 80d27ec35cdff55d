use Rattle.std.proofs.Common.{◌≡◌, List, [], Ok, drop, ap, ◌∙◌}
use Rattle.std.proofs.lemmas.List.{append-nil}
use Rattle.script_fields.proofs.ListLaws.{after, fields_of_none, no_items}
use Rattle.script_fields.specs.Fields.{fields_of_words, texts}
use Rattle.script_fields.specs.declared.kind.Kind.{Kind}
use Rattle.script_fields.proofs.kind.read_fields.Goals as goal

pub returns-in_default : goal.returns-in_default
returns-in_default c =
    let items = c.loop-word.fields.items in
    let rest = texts (drop c.loop-word.word-index c.args.words.now) in
    let none : c.loop-word.kinds.now ≡ [] = no_items c.loop-word.kinds.now c.in_default.ensures.cases in
    c.loop-word.invariant
    ∙ ap (λ (kinds : List Kind). after items (fields_of_words kinds rest)) none
    ∙ ap (λ read. after items read) (fields_of_none rest)
    ∙ ap Ok (append-nil items)
