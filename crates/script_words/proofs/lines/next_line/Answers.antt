use Rattle.std.proofs.Common.{◌≡◌, ◌∷◌, ◌∙◌, List, ℕ, Some, None, sym, ap}
use Rattle.std.specs.List.{position}
use Rattle.script_words.proofs.LineLaws.{is_feed, lines_of_feed, lines_of_one, lines_of_empty, after}
use Rattle.script_words.proofs.lines.next_line.Goals as goal

pub returns-in-Some-clause-lines : goal.returns-in-Some-clause-lines
returns-in-Some-clause-lines c =
    let text = c.args.text.now in
    let found : position is_feed text ≡ Some c.in-Some.feed = sym c.first_feed.ensures ∙ c.in-Some.is in
    rw (c.without_carriage_return.ensures, c.split_at.ensures.front, c.split_at.ensures.back, after text c.in-Some.feed)
    (lines_of_feed text c.in-Some.feed found)

pub returns-in-None-clause-lines : goal.returns-in-None-clause-lines
returns-in-None-clause-lines c =
    let none : position is_feed c.args.text.now ≡ None = sym c.first_feed.ensures ∙ c.in-None.is in
    lines_of_one c.args.text.now (sym c.is_empty.ensures ∙ c.if-is_empty.false) none
    ∙ ap (λ (none : List (List ℕ)). c.args.text.now ∷ none) (sym lines_of_empty)
