use Rattle.std.proofs.Common.{◌≡◌, map, string_bytes, drop}
use Rattle.model_runs.specs.Words.{split_words}
use Rattle.run_words.specs.Parsing.{continued, nothing_parsed}
use Rattle.run_words.proofs.request.run_request.Given as goal

abbrev pub invariant-loop-word : goal.invariant-loop-word
invariant-loop-word l =
    continued l.parsing (split_words (drop l.word-index (map string_bytes l.words)))
    ≡ continued nothing_parsed (split_words (map string_bytes l.words))
