-- What each line of a script does, and the order of its refusals.
use Rattle.std.specs.Prelude.{ℕ, is_none, if◌then◌else◌, List, [], ◌∷◌, length, Option, Some, None, Result, Ok, Err}
use Rattle.plane_rect.specs.Rectangle.{Rectangle, includes}
use Rattle.outside_io.specs.Files.{Files, file}
use Rattle.model_images.specs.Image.{Image}
use Rattle.model_images.specs.Raw.{raw}
use Rattle.model_images.specs.Abyss.{raw_with}
use Rattle.model_images.specs.Level.{level}
use Rattle.model_images.specs.TileCounts.{level_tiles}
use Rattle.pixel_formats.specs.declared.abyss.Abyss.{Abyss}
use Rattle.model_buffers.specs.Counts.{tiles_added}
use Rattle.model_buffers.specs.Edits.{Edited, edited_table}
use Rattle.model_buffers.specs.Layout.{View, find, root_shape}
use Rattle.model_buffers.specs.Table.{Table, image_of, layout_of}
use Rattle.model_buffers.specs.declared.edit.BufferEdit.{BufferEdit}
use Rattle.model_buffers.specs.declared.edit.BufferEdit.TheVariants.{Copy, Create, Duplicate, Fill, Put, Sub}
use Rattle.model_buffers.specs.declared.refused.EditRefused.{EditRefused}
use Rattle.model_buffers.specs.declared.refused.EditRefused.TheVariants as edit_refusals
use Rattle.model_graphs.specs.declared.node.NodeEdit.TheVariants.{Remove, Set}
use Rattle.model_operations.specs.Meanings.{int_meanings, same_operation}
use Rattle.model_operations.specs.declared.operation.IntOp.{IntOp}
use Rattle.model_states.specs.Edits.{has_node}
use Rattle.model_states.specs.History.{History, committed, redone, undone}
use Rattle.model_states.specs.Need.{wide}
use Rattle.model_states.specs.State as states
use Rattle.model_states.specs.Workspace.{with_pending}
use Rattle.model_states.specs.declared.refused.StateRefused.{StateRefused}
use Rattle.model_states.specs.declared.refused.StateRefused.TheVariants as state_refusals
use Rattle.model_sessions.specs.Sessions.{render_need, with_render, with_state}
use Rattle.model_sessions.specs.Steps.{with_edit}
use Rattle.model_sessions.specs.Tables.{table_shapes}
use Rattle.model_runs.specs.Events.{Event, Puts, Writes}
use Rattle.model_runs.specs.Texts.{grab_text, render_text}
use Rattle.model_runs.specs.declared.cause.Cause.{Cause}
use Rattle.model_runs.specs.declared.cause.Cause.TheVariants as causes
use Rattle.script_read.specs.declared.command.Command.{Command}
use Rattle.script_read.specs.declared.command.Command.TheVariants as commands
use Rattle.model_runs.specs.Commands.{node_of}
use Rattle.model_runs.specs.State.{RunState, Effect, in_workspace, leaves, number_in, refuses, scene_in, workspace_of}
use Rattle.model_runs.specs.Watching.{end_watch}

-- ---- causes

abbrev pub cause_of_edit : EditRefused → Cause
cause_of_edit edit_refusals.UnknownBuffer = causes.UnknownBuffer
cause_of_edit edit_refusals.NameTaken = causes.NameTaken
cause_of_edit edit_refusals.OutOfBounds = causes.OutOfBounds
cause_of_edit (edit_refusals.WrongSize found wanted) = causes.WrongSize
cause_of_edit edit_refusals.Formats = causes.Formats
cause_of_edit edit_refusals.TooManyBuffers = causes.TooManyBuffers

abbrev pub cause_of_state : StateRefused → Cause
cause_of_state state_refusals.UnknownInput = causes.UnknownInput
cause_of_state state_refusals.Arity = causes.Arity
cause_of_state state_refusals.Formats = causes.Formats
cause_of_state state_refusals.Bounds = causes.Bounds
cause_of_state state_refusals.InUse = causes.InUse
cause_of_state state_refusals.TooManyNodes = causes.TooManyNodes
cause_of_state state_refusals.NothingToUndo = causes.NothingToUndo
cause_of_state state_refusals.NothingToRedo = causes.NothingToRedo
cause_of_state state_refusals.TooManyCommits = causes.TooManyCommits

-- ---- edits of buffers

-- an edit that gives this, or is refused
abbrev pub edit_gives : ℕ → RunState → BufferEdit → Edited → Effect
edit_gives line state edit (Ok table) =
    record (leaves line (in_workspace state (with_edit (workspace_of state) edit (Ok table)))) { tiles = tiles_added edit }
edit_gives line state edit (Err refused) = refuses line state (cause_of_edit refused)

abbrev pub edits : ℕ → RunState → BufferEdit → Effect
edits line state edit = edit_gives line state edit (edited_table (workspace_of state).working edit)

-- A file is loaded, whose bytes these are, or that there is none. The buffer and its rectangle are looked at before.
abbrev pub load_into : ℕ → RunState → List ℕ → Rectangle → Option (List ℕ) → Option View → Effect
load_into line state name rectangle found None = refuses line state causes.UnknownBuffer
load_into line state name rectangle None (Some view) =
    refuses line state (if includes view.extent rectangle then causes.Absent else causes.OutOfBounds)
load_into line state name rectangle (Some bytes) (Some view) = edits line state (Put name rectangle bytes)

abbrev pub loads : ℕ → RunState → List ℕ → Rectangle → Option (List ℕ) → Effect
loads line state name rectangle found =
    load_into line state name rectangle found (find (workspace_of state).working.buffers name)

-- ---- states

-- A step to a next state voids the cached tiles that the change damages.
abbrev pub step_gives : ℕ → RunState → Result (History Table IntOp) StateRefused → Effect
step_gives line state (Ok next) =
    leaves line (record state { session = with_state same_operation int_meanings state.session next })
step_gives line state (Err refused) = refuses line state (cause_of_state refused)

-- ---- files

-- the image of a node of the last committed state
abbrev pub node_image : RunState → List ℕ → Image
node_image state name = states.image_of int_meanings (scene_in state) name

-- a file is written, and then its text is put
abbrev pub writes : List ℕ → List ℕ → List ℕ → List Event
writes name bytes text = Writes name bytes ∷ Puts text ∷ []

-- a render that isn't refused
abbrev pub renders : ℕ → ℕ → RunState → List ℕ → ℕ → Rectangle → List ℕ → Effect
renders capacity line state name z rectangle target =
    let bytes = raw (level (node_image state name) z) rectangle in
    record (leaves line (record state { session = with_render int_meanings capacity state.session name z rectangle })) {
      events = writes target bytes (render_text line (number_in state) (length bytes));
    }

-- a render of a node that is there, which is refused where a strip has more pairs than the cache may hold
abbrev pub renders_known : ℕ → ℕ → RunState → List ℕ → ℕ → Rectangle → List ℕ → Effect
renders_known capacity line state name z rectangle target =
    if is_none (wide capacity (render_need int_meanings (scene_in state) name z rectangle))
    then renders capacity line state name z rectangle target
    else refuses line state causes.Strip

abbrev pub renders_named : ℕ → ℕ → RunState → List ℕ → ℕ → Rectangle → List ℕ → Effect
renders_named capacity line state name z rectangle target =
    if has_node (scene_in state).nodes name then renders_known capacity line state name z rectangle target
    else refuses line state causes.UnknownNode

abbrev pub grabs_view : ℕ → RunState → List ℕ → ℕ → Abyss → Rectangle → List ℕ → Option View → Effect
grabs_view line state name z policy rectangle target None = refuses line state causes.UnknownBuffer
grabs_view line state name z policy rectangle target (Some view) =
    let table = (workspace_of state).working in
    let bytes = raw_with (level (image_of table name) z) policy rectangle in
    record (leaves line state) {
      events = writes target bytes (grab_text line (length bytes));
      tiles = level_tiles (root_shape (layout_of table) view.root).box z;
    }

abbrev pub grabs : ℕ → RunState → List ℕ → ℕ → Abyss → Rectangle → List ℕ → Effect
grabs line state name z policy rectangle target =
    grabs_view line state name z policy rectangle target (find (workspace_of state).working.buffers name)

-- ---- watches

-- a watch is open over the last committed state
abbrev pub opens : ℕ → RunState → List ℕ → Rectangle → ℕ → ℕ → List ℕ → RunState
opens line state name rectangle viewers frames prefix =
    record state {
      watching = Some (record {
        line = line;
        node = name;
        rectangle = rectangle;
        viewers = viewers;
        frames = frames;
        prefix = prefix;
        opened = number_in state;
      });
    }

abbrev pub watches : ℕ → RunState → List ℕ → Rectangle → ℕ → ℕ → List ℕ → Effect
watches line state name rectangle viewers frames prefix =
    if has_node (scene_in state).nodes name
    then leaves line (opens line state name rectangle viewers frames prefix)
    else refuses line state causes.UnknownNode

-- ---- a line

-- What a command does, where the cache holds so many tiles, the state and the files being these.
abbrev pub effect : ℕ → RunState → Files → ℕ → Command → Effect
effect capacity state files line (commands.Buffer name format rect) = edits line state (Create name format rect)
effect capacity state files line (commands.Sub name parent rect) = edits line state (Sub name parent rect)
effect capacity state files line (commands.Dup name from) = edits line state (Duplicate name from)
effect capacity state files line (commands.Load name rect source) = loads line state name rect (file files source)
effect capacity state files line (commands.Fill name rect samples) = edits line state (Fill name rect samples)
effect capacity state files line (commands.Copy from to rect dx dy) = edits line state (Copy from to rect dx dy)
effect capacity state files line (commands.Node name op inputs) =
    leaves line (in_workspace state (with_pending (workspace_of state) (Set (node_of name op inputs))))
effect capacity state files line (commands.Drop name) =
    leaves line (in_workspace state (with_pending (workspace_of state) (Remove name)))
effect capacity state files line commands.Commit =
    step_gives line state (committed int_meanings table_shapes state.session.history)
effect capacity state files line commands.Undo = step_gives line state (undone state.session.history)
effect capacity state files line commands.Redo = step_gives line state (redone state.session.history)
effect capacity state files line (commands.Render name z rect target) = renders_named capacity line state name z rect target
effect capacity state files line (commands.Grab name z policy rect target) = grabs line state name z policy rect target
effect capacity state files line (commands.Watch name rect viewers frames prefix) =
    watches line state name rect viewers frames prefix
effect capacity state files line commands.EndWatch = end_watch line state
