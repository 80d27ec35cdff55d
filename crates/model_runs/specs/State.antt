-- What a script has made so far, and what a line of it does.
use Rattle.std.specs.Prelude.{ℕ, List, [], ◌∷◌, Option, Some, None}
use Rattle.plane_rect.specs.Rectangle.{Rectangle}
use Rattle.model_buffers.specs.Table.{Table}
use Rattle.model_operations.specs.declared.operation.IntOp.{IntOp}
use Rattle.model_states.specs.History.{number_of}
use Rattle.model_states.specs.State.{Scene}
use Rattle.model_states.specs.Workspace.{Workspace}
use Rattle.model_states.specs.Rectangles.{Rectangles}
use Rattle.model_sessions.specs.Sessions.{Session, last_scene, new_session}
use Rattle.model_sessions.specs.Steps.{with_workspace}
use Rattle.model_runs.specs.Events.{Event, Puts}
use Rattle.model_runs.specs.Texts.{refusal_text}
use Rattle.model_runs.specs.declared.cause.Cause.{Cause}

-- A watch that is open: its line, the node and the rectangle that viewers render, how many viewers there are and how
-- many frames each renders, what the names of their files begin with, and the number of the commit at its line.
pub record Watching : Type 0 where
  pub line : ℕ
  pub node : List ℕ
  pub rectangle : Rectangle
  pub viewers : ℕ
  pub frames : ℕ
  pub prefix : List ℕ
  pub opened : ℕ

-- A watch that was ended, and the number of the commit at its end.
pub record Watched : Type 0 where
  pub watching : Watching
  pub ended : ℕ

-- For each watch, viewer and frame the number of the commit that the frame shows. It is the one thing of a run that
-- depends on when its threads run.
abbrev pub Numbers : Type 0
Numbers = List (List (List ℕ))

-- The session that was made, with its counts; the watch that is open; and the numbers of the frames of all watches that
-- are not ended yet. What the next lines do depends on it, on the files and on nothing else.
pub record RunState : Type 0 where
  pub session : Session Table IntOp
  pub watching : Option Watching
  pub numbers : Numbers

-- before the first line
abbrev pub first_state : Numbers → RunState
first_state numbers = record { session = new_session; watching = None; numbers = numbers }

-- the buffers, the pending edits and what is retained
abbrev pub workspace_of : RunState → Workspace Table IntOp Rectangles
workspace_of state = state.session.history.workspace

-- the state with another workspace over the same committed states
abbrev pub in_workspace : RunState → Workspace Table IntOp Rectangles → RunState
in_workspace state workspace =
    record state { session = record state.session { history = with_workspace state.session.history workspace } }

-- the last committed state, as its nodes read it, and its number
abbrev pub scene_in : RunState → Scene IntOp
scene_in state = last_scene state.session

abbrev pub number_in : RunState → ℕ
number_in state = number_of state.session.history

-- What one line does: the state after it, its events, and why it is refused, where it is. Besides how many tiles of
-- buffers it may make, and the watch that it ends.
pub record Effect : Type 0 where
  pub line : ℕ
  pub next : RunState
  pub events : List Event
  pub refused : Option Cause
  pub tiles : ℕ
  pub watched : Option Watched

-- a line that leaves a state, and does nothing else
abbrev pub leaves : ℕ → RunState → Effect
leaves line next = record { line = line; next = next; events = []; refused = None; tiles = 0; watched = None }

-- a line that is refused, and reported; nothing after it is carried out
abbrev pub refuses : ℕ → RunState → Cause → Effect
refuses line state cause =
    record (leaves line state) { events = Puts (refusal_text line cause) ∷ []; refused = Some cause }
