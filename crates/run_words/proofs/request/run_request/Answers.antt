use Rattle.std.proofs.Common.{◌≡◌, ◌+◌, ℕ, suc, List, drop, map, string_bytes, sym, ap, ◌∙◌, arith}
use Rattle.std.specs.Option.{option_map}
use Rattle.model_runs.specs.Words.{split_words}
use Rattle.run_words.specs.Meant.{asked}
use Rattle.run_words.specs.Parsing.{continued}
use Rattle.run_words.proofs.Continuing.{drop-last, next-word, run-is}
use Rattle.run_words.proofs.request.run_request.Goals as goal

pub returns-in_err-take-clause-request : goal.returns-in_err-take-clause-request
returns-in_err-take-clause-request c =
    let words = map string_bytes c.args.words.now in
    ap (option_map asked) c.from_residual.ensures
    ∙ sym (run-is words ∙ sym c.loop-word.invariant ∙ next-word string_bytes c.loop-word.parsing c.args.words.now c.loop-word.word-index c.word-item.result c.as_str.result.now c.loop-word-test.true c.word-item.is c.as_str.ensures.value ∙ c.in_err-take.ensures (split_words (drop (suc c.loop-word.word-index) words)))

pub loop-word-preserved : goal.loop-word-preserved
loop-word-preserved c =
    let words = map string_bytes c.args.words.now in
    let later : c.loop-word.word-index + 1 ≡ suc c.loop-word.word-index = omega arith in
    ap (λ (i : ℕ). continued c.take.new.self (split_words (drop i words))) later
    ∙ sym (c.in_ok-take.ensures (split_words (drop (suc c.loop-word.word-index) words)))
    ∙ sym (next-word string_bytes c.loop-word.parsing c.args.words.now c.loop-word.word-index c.word-item.result c.as_str.result.now c.loop-word-test.true c.word-item.is c.as_str.ensures.value) ∙ c.loop-word.invariant

pub returns-clause-request : goal.returns-clause-request
returns-clause-request c =
    let words = map string_bytes c.args.words.now in
    c.finish.ensures.asked
    ∙ sym (ap (λ (left : List (List ℕ)). continued c.loop-word.parsing (split_words left)) (drop-last string_bytes c.args.words.now c.loop-word.word-index c.loop-word-test.false))
    ∙ c.loop-word.invariant ∙ sym (run-is words)
