-- Watches: what viewers render, and the numbers of the commits that their frames show.
use Rattle.std.specs.Prelude.{◌≡◌, ℕ, suc, ◌<◌, ◌≤◌, if◌then◌else◌, List, [], ◌∷◌, ◌++◌, codes, drop, flat_map, length, slice_index_or, Option, Some, None}
use Rattle.std.specs.List.{range_with_len}
use Rattle.std.specs.Fmt.{decimal}
use Rattle.model_images.specs.Raw.{raw}
use Rattle.model_operations.specs.declared.operation.IntOp.{IntOp}
use Rattle.model_buffers.specs.Table.{Table}
use Rattle.model_states.specs.Edits.{has_node}
use Rattle.model_states.specs.History.{History, committed_states, latest_of}
use Rattle.model_states.specs.State as states
use Rattle.model_states.specs.State.{State}
use Rattle.model_sessions.specs.Histories.{scene_of}
use Rattle.model_operations.specs.Meanings.{int_meanings}
use Rattle.model_runs.specs.Events.{Event, Puts, Writes}
use Rattle.model_runs.specs.Texts.{frame_text}
use Rattle.model_runs.specs.State.{Numbers, RunState, Effect, Watched, Watching, leaves, number_in}

-- the committed state of a number
abbrev pub state_of : History Table IntOp → ℕ → State Table IntOp
state_of history number = (slice_index_or (committed_states history) number (latest_of history)).state

-- the bytes of a frame: its rectangle of the node, and none where the state lacks the node
abbrev pub frame_bytes : Watching → State Table IntOp → List ℕ
frame_bytes watching state =
    if has_node state.nodes watching.node
    then raw (states.image_of int_meanings (scene_of state) watching.node) watching.rectangle
    else []

-- the number of the commit that a frame of a viewer shows
abbrev pub number_shown : List (List ℕ) → ℕ → ℕ → ℕ
number_shown numbers viewer frame = slice_index_or (slice_index_or numbers viewer []) frame 0

-- `PREFIX.V.I`
abbrev pub frame_file : List ℕ → ℕ → ℕ → List ℕ
frame_file prefix viewer frame = prefix ++ codes "." ++ decimal viewer ++ codes "." ++ decimal frame

-- the file of a frame, and its text
abbrev pub frame_events : Watching → History Table IntOp → ℕ → ℕ → ℕ → List Event
frame_events watching history viewer frame number =
    let bytes = frame_bytes watching (state_of history number) in
    Writes (frame_file watching.prefix viewer frame) bytes
    ∷ Puts (frame_text watching.line viewer frame number (length bytes)) ∷ []

-- the frames of a viewer, one more than were asked for
abbrev pub viewer_events : Watching → History Table IntOp → List (List ℕ) → ℕ → List Event
viewer_events watching history numbers viewer =
    flat_map (λ frame. frame_events watching history viewer frame (number_shown numbers viewer frame))
    (range_with_len 0 (suc watching.frames))

-- those of all viewers, viewer by viewer
abbrev pub watch_events : Watching → History Table IntOp → List (List ℕ) → List Event
watch_events watching history numbers =
    flat_map (viewer_events watching history numbers) (range_with_len 0 watching.viewers)

-- The watch that is open ends: its files are written. The grammar has no end without a watch.
abbrev pub ends : ℕ → RunState → Option Watching → Effect
ends line state None = leaves line state
ends line state (Some watching) =
    record (leaves line (record state { watching = None; numbers = drop 1 state.numbers })) {
      events = watch_events watching state.session.history (slice_index_or state.numbers 0 []);
      watched = Some (record { watching = watching; ended = number_in state });
    }

abbrev pub end_watch : ℕ → RunState → Effect
end_watch line state = ends line state state.watching

-- ---- which numbers there may be

-- The numbers of a viewer: one for each frame and one more, none less than the one before it, from the commit of the
-- watch's line to that of its end, which is the last.
pub record AreViewersNumbers (watched : Watched) (numbers : List ℕ) : Type 0 where
  pub count : length numbers ≡ suc watched.watching.frames
  pub rising : (i : ℕ) → suc i < length numbers → slice_index_or numbers i 0 ≤ slice_index_or numbers (suc i) 0
  pub opened : (i : ℕ) → i < length numbers → watched.watching.opened ≤ slice_index_or numbers i 0
  pub last : slice_index_or numbers watched.watching.frames 0 ≡ watched.ended

-- the numbers of a watch
pub record AreWatchNumbers (watched : Watched) (numbers : List (List ℕ)) : Type 0 where
  pub viewers : length numbers ≡ watched.watching.viewers
  pub each : (v : ℕ) → v < length numbers → AreViewersNumbers watched (slice_index_or numbers v [])

-- the numbers of all watches that were ended, in their order
abbrev pub AreNumbers : List Watched → Numbers → Type 0
AreNumbers [] numbers = numbers ≡ []
AreNumbers (watched ∷ rest) [] = ⊥
AreNumbers (watched ∷ rest) (first ∷ numbers) = AreWatchNumbers watched first × AreNumbers rest numbers
