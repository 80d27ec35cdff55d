use Rattle.std.proofs.Common.{not, eqb, length, ap, ◌∙◌, rules, tests}
use Rattle.std.specs.List.{filter}
use Rattle.std.proofs.lemmas.Iterator.Consumers.{YieldsList-at, YieldsList-end}
use Rattle.std.proofs.lemmas.Iterator.Splits.{YieldsList-from_slice_split}
use Rattle.script_words.specs.Words.{is_blank, words_of}
use Rattle.script_words.proofs.words.split_words.Goals as goal

-- the loop has seen each part
pub returns : goal.returns
unfolding words_of
returns c =
    let parts = c.split-part-items.ensures in
    let seen = YieldsList-end
    (YieldsList-at c.into_iter-part-iterator.ensures.into_iter_gives
    (YieldsList-from_slice_split _ is_blank c.args.line.now parts.rest parts.done parts.closure (λ x r q k. search (rules, tests))))
    c.loop-part.yielded _ c.loop-part.yielded_by _ _ c.in-None.is c.next.ensures.steps in
    c.loop-part.invariant ∙ ap (filter (λ part. not (eqb (length part) 0))) seen.0
