-- What a sink answers, and what it was given then.
use Rattle.std.specs.Prelude.{◌≡◌, ℕ, Bool, true, false, List, ◌++◌, take, Option, Result, Ok, Err}
use Rattle.std.specs.Option.{option_map}
use Rattle.outside_io.specs.declared.sink.SinkAnswer.{SinkAnswer}
use Rattle.outside_io.specs.declared.sink.SinkAnswer.TheVariants as answers

-- whether the answer is that the device failed
abbrev pub has_failed : Result (Unit {0}) SinkAnswer → Bool
has_failed (Ok done) = false
has_failed (Err answers.Failed) = true
has_failed (Err answers.NoMemory) = false

-- At Ok the whole piece went out after what was written, and after a refusal a prefix of it.
abbrev pub Puts : Option (List ℕ) → List ℕ → Result (Unit {0}) SinkAnswer → Option (List ℕ) → Type 0
Puts old piece (Ok done) new = new ≡ option_map (λ written. written ++ piece) old
Puts old piece (Err answer) new = (n : ℕ) × (new ≡ option_map (λ written. written ++ take n piece) old)
