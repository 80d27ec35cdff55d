-- What clauses see of a sink in memory.
use Rattle.std.specs.Prelude.{ℕ, ◌/◌, List, [], length, take, Result, Ok, Err}
use Rattle.outside_io.specs.Calls.{Calls}
use Rattle.outside_io.specs.declared.sink.SinkAnswer.{SinkAnswer}
use Rattle.outside_io.specs.declared.sink.SinkAnswer.TheVariants as answers

-- all bytes that went out, and the pieces that it was handed
pub record SinkState : Type 0 where
  pub written : List ℕ
  pub puts : Calls

-- What of a piece went out: all at Ok, the first half, rounded down, after an I/O error, and nothing for
-- running out of memory.
abbrev pub sent : Result (Unit {0}) SinkAnswer → List ℕ → List ℕ
sent (Ok done) piece = piece
sent (Err answers.Failed) piece = take (length piece / 2) piece
sent (Err answers.NoMemory) piece = []
