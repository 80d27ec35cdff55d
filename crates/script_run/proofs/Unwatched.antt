-- No line that is built ends a watch.
use Rattle.std.proofs.Common.{◌≡◌, ◌≢◌, ℕ, Bool, true, false, cond, List, [], ◌∷◌, Option, Some, None, Result, Ok, Err, is_none, refl, ap, ◌∙◌}
use Rattle.std.specs.Prelude.{⊤}
use Rattle.std.specs.List.{cons_option}
use Rattle.outside_io.specs.Files.{Files, file}
use Rattle.plane_rect.specs.Rectangle.{Rectangle}
use Rattle.model_buffers.specs.Edits.{Edited, edited_table}
use Rattle.model_buffers.specs.Layout.{View, find}
use Rattle.model_buffers.specs.Table.{Table}
use Rattle.model_buffers.specs.declared.edit.BufferEdit.{BufferEdit}
use Rattle.model_buffers.specs.declared.edit.BufferEdit.TheVariants.{Copy, Create, Duplicate, Fill, Put, Sub}
use Rattle.model_operations.specs.Meanings.{int_meanings}
use Rattle.model_operations.specs.declared.operation.IntOp.{IntOp}
use Rattle.model_states.specs.Edits.{has_node}
use Rattle.model_states.specs.History.{History, committed, redone, undone}
use Rattle.model_states.specs.Need.{wide}
use Rattle.model_states.specs.declared.refused.StateRefused.{StateRefused}
use Rattle.model_sessions.specs.Sessions.{render_need}
use Rattle.model_sessions.specs.Tables.{table_shapes}
use Rattle.model_runs.specs.Built.{first_unbuilt, is_of_watch, plan_of_read, unless_unbuilt}
use Rattle.model_runs.specs.Effects.{edit_gives, effect, grabs_view, load_into, opens, renders, renders_known, step_gives}
use Rattle.model_runs.specs.Run.{Ending, and_on, effects, files_after_all, plan_of_lines, watched_in}
use Rattle.model_runs.specs.Words.{Options}
use Rattle.model_runs.specs.State.{Effect, RunState, first_state, leaves, refuses, scene_in, workspace_of}
use Rattle.pixel_formats.specs.declared.abyss.Abyss.{Abyss}
use Rattle.model_runs.specs.Events.{Refusal}
use Rattle.model_runs.specs.declared.cause.Cause.TheVariants.{Strip, UnknownNode}
use Rattle.script_read.specs.declared.command.Command.{Command}
use Rattle.script_read.specs.declared.command.Command.TheVariants as commands
use Rattle.script_read.specs.declared.command.Line.{Line}

-- the effect ends no watch
abbrev IsQuiet : Effect → Type 0
IsQuiet effect = effect.watched ≡ None

either : (b : Bool) (x y : Effect) → IsQuiet x → IsQuiet y → IsQuiet (cond b x y)
either true x y one other = one
either false x y one other = other

edit_quiet : (line : ℕ) (state : RunState) (edit : BufferEdit) (given : Edited) → IsQuiet (edit_gives line state edit given)
edit_quiet line state edit (Ok table) = refl
edit_quiet line state edit (Err refused) = refl

load_quiet : (line : ℕ) (state : RunState) (name : List ℕ) (r : Rectangle) (found : Option (List ℕ)) (view : Option View) → IsQuiet (load_into line state name r found view)
load_quiet line state name r None None = refl
load_quiet line state name r (Some bytes) None = refl
load_quiet line state name r None (Some view) = refl
load_quiet line state name r (Some bytes) (Some view) = edit_quiet line state (Put name r bytes) (edited_table (workspace_of state).working (Put name r bytes))

step_quiet : (line : ℕ) (state : RunState) (next : Result (History Table IntOp) StateRefused) → IsQuiet (step_gives line state next)
step_quiet line state (Ok next) = refl
step_quiet line state (Err refused) = refl

grab_quiet : (line : ℕ) (state : RunState) (name : List ℕ) (z : ℕ) (policy : Abyss) (r : Rectangle) (target : List ℕ) (view : Option View) →
    IsQuiet (grabs_view line state name z policy r target view)
grab_quiet line state name z policy r target None = refl
grab_quiet line state name z policy r target (Some view) = refl

-- a command that ends no watch
quiet : (capacity : ℕ) (state : RunState) (files : Files) (line : ℕ) (command : Command) → command ≢ commands.EndWatch →
    IsQuiet (effect capacity state files line command)
quiet capacity state files line (commands.Buffer name format r) other =
    edit_quiet line state (Create name format r) (edited_table (workspace_of state).working (Create name format r))
quiet capacity state files line (commands.Load name r source) other =
    load_quiet line state name r (file files source) (find (workspace_of state).working.buffers name)
quiet capacity state files line (commands.Node name op inputs) other = refl
quiet capacity state files line commands.Commit other = step_quiet line state (committed int_meanings table_shapes state.session.history)
quiet capacity state files line (commands.Render name z r target) other =
    either (has_node (scene_in state).nodes name) (renders_known capacity line state name z r target) (refuses line state UnknownNode)
    (either (is_none (wide capacity (render_need int_meanings (scene_in state) name z r))) (renders capacity line state name z r target) (refuses line state Strip) refl refl)
    refl
quiet capacity state files line (commands.Sub name parent r) other =
    edit_quiet line state (Sub name parent r) (edited_table (workspace_of state).working (Sub name parent r))
quiet capacity state files line (commands.Dup name from) other =
    edit_quiet line state (Duplicate name from) (edited_table (workspace_of state).working (Duplicate name from))
quiet capacity state files line (commands.Fill name r samples) other =
    edit_quiet line state (Fill name r samples) (edited_table (workspace_of state).working (Fill name r samples))
quiet capacity state files line (commands.Copy from to r dx dy) other =
    edit_quiet line state (Copy from to r dx dy) (edited_table (workspace_of state).working (Copy from to r dx dy))
quiet capacity state files line (commands.Drop name) other = refl
quiet capacity state files line commands.Undo other = step_quiet line state (undone state.session.history)
quiet capacity state files line commands.Redo other = step_quiet line state (redone state.session.history)
quiet capacity state files line (commands.Grab name z policy r target) other =
    grab_quiet line state name z policy r target (find (workspace_of state).working.buffers name)
quiet capacity state files line (commands.Watch name r viewers frames prefix) other =
    either (has_node (scene_in state).nodes name) (leaves line (opens line state name r viewers frames prefix)) (refuses line state UnknownNode) refl refl
quiet capacity state files line commands.EndWatch other = absurd (other refl)

-- an effect before others
before : (files : Files) (rest : RunState → Files → List Effect) (effect : Effect) → IsQuiet effect → watched_in (rest effect.next (files_after_all effect.events files)) ≡ [] →
    watched_in (and_on files rest effect) ≡ []
before files rest effect quiet none = by (is_none effect.refused)
  where
    tail : List Effect
    tail = rest effect.next (files_after_all effect.events files)

    by : (b : Bool) → watched_in (cond b (effect ∷ tail) (effect ∷ [])) ≡ []
    by true = ap (λ w. cons_option w (watched_in tail)) quiet ∙ none
    by false = ap (λ w. cons_option w []) quiet

-- no line ends a watch
abbrev NoneEnds : List Line → Type 0
NoneEnds [] = ⊤
NoneEnds (line ∷ lines) = (line.command ≢ commands.EndWatch) × NoneEnds lines

unwatched : (capacity : ℕ) (state : RunState) (files : Files) (lines : List Line) → NoneEnds lines → watched_in (effects capacity state files lines) ≡ []
unwatched capacity state files [] none = refl
unwatched capacity state files (line ∷ lines) none =
    let done = effect capacity state files line.number line.command in
    before files (λ next later. effects capacity next later lines) done (quiet capacity state files line.number line.command none.0)
    (unwatched capacity done.next (files_after_all done.events files) lines none.1)

-- ---- lines that are built

built_end : (lines : List Line) → first_unbuilt lines ≡ None → NoneEnds lines
built_end [] none = tt
built_end (line ∷ lines) none = by (is_of_watch line.command) refl none (built_end lines)
  where
    by : (b : Bool) → is_of_watch line.command ≡ b → cond b (Some line.number) (first_unbuilt lines) ≡ None → (first_unbuilt lines ≡ None → NoneEnds lines) → NoneEnds (line ∷ lines)
    by true is none follow = absurd (cc)
    by false is none follow = ((λ end. let yes : is_of_watch line.command ≡ true = ap is_of_watch end in cc), follow none)

-- ---- plans

plan_of_built : (ending : Ending) (files : Files) (options : Options) (lines : List Line) (unbuilt : Option ℕ) → first_unbuilt lines ≡ unbuilt →
    watched_in (plan_of_lines ending options [] files (unless_unbuilt lines unbuilt)).effects ≡ []
plan_of_built ending files options lines None none = unwatched options.cache (first_state []) files lines (built_end lines none)
plan_of_built ending files options lines (Some line) some = refl

pub plan_unwatched : (ending : Ending) (files : Files) (options : Options) (read : Result (List Line) Refusal) → watched_in (plan_of_read ending [] files options read).effects ≡ []
plan_unwatched ending files options (Ok lines) = plan_of_built ending files options lines (first_unbuilt lines) refl
plan_unwatched ending files options (Err refused) = refl
