-- A session over a chain, and the files of a shelf, as what a script has made so far.
use Rattle.std.specs.Prelude.{◌≡◌, ℕ, ◌≤◌, Bool, IsTrue, List, length, Option, Some, None, IsSomeAnd, is_some}
use Rattle.std.specs.Option.{option_map}
use Rattle.chain_owners.specs.Held.{Held}
use Rattle.commit_session.specs.Parts.{Parts}
use Rattle.commit_session.specs.Seen.{IsSessionOf}
use Rattle.model_operations.specs.Meanings.{int_meanings, same_operation}
use Rattle.model_operations.specs.declared.operation.IntOp.{IntOp}
use Rattle.model_runs.specs.State.{RunState}
use Rattle.model_sessions.specs.Sessions.{IsSession}
use Rattle.outside_io.specs.Files.{Files, file}

-- the same names, each of a file of the same length
abbrev pub HaveSameLengths : Files → Files → Type 0
HaveSameLengths a b = (name : List ℕ) → option_map length (file a name) ≡ option_map length (file b name)

-- The session is that of a state in which no watch is open, and the files of the shelf are these: what is known of both
-- without samples always, and all of it where the chain exposes its bytes. Each cached tile was evaluated once.
pub record Holds (exposed : Bool) (capacity : ℕ) (state : RunState) (files : Files) (parts : Parts IntOp) (held : Held) (shelf : Option Files) : Type 0 where
  pub session : IsSessionOf same_operation int_meanings parts held state.session
  pub valid : IsSession int_meanings capacity state.session
  pub applied : length state.session.cached.list ≤ state.session.cached.applied
  pub as_many : parts.capacity ≡ capacity
  pub unwatched : state.watching ≡ None
  pub content : is_some held.content ≡ exposed
  pub same_lengths : IsSomeAnd shelf (HaveSameLengths files)
  pub same : IsTrue exposed → shelf ≡ Some files
