-- How many pairs renders applied never falls.
use Rattle.std.proofs.Common.{ℕ, zero, suc, ◌≤◌, Bool, true, false, cond, List, [], ◌∷◌, take, Option, Some, None, Result, Ok, Err, is_none, arith}
use Rattle.std.specs.Prelude.{⊤}
use Rattle.outside_io.specs.Files.{Files, file}
use Rattle.pixel_formats.specs.declared.abyss.Abyss.{Abyss}
use Rattle.plane_rect.specs.Rectangle.{Rectangle}
use Rattle.model_buffers.specs.BufferEdit.{written_by}
use Rattle.model_buffers.specs.Edits.{Edited, edited_table}
use Rattle.model_buffers.specs.Layout.{View, find}
use Rattle.model_buffers.specs.Table.{Table, layout_of}
use Rattle.model_buffers.specs.declared.edit.BufferEdit.{BufferEdit}
use Rattle.model_buffers.specs.declared.edit.BufferEdit.TheVariants.{Copy, Create, Duplicate, Fill, Put, Sub}
use Rattle.model_operations.specs.Meanings.{int_meanings}
use Rattle.model_operations.specs.declared.operation.IntOp.{IntOp}
use Rattle.model_states.specs.Cache.{Counted, Pair, all_looked_up, applied_more, by_pair, find_pair, looked_up, needed_pairs, with_bytes}
use Rattle.model_states.specs.Edits.{has_node}
use Rattle.model_states.specs.History.{History, committed, redone, undone}
use Rattle.model_states.specs.Need.{wide}
use Rattle.model_states.specs.declared.refused.StateRefused.{StateRefused}
use Rattle.model_sessions.specs.Sessions.{last_scene, render_need}
use Rattle.model_sessions.specs.Steps.{with_working}
use Rattle.model_sessions.specs.Tables.{table_shapes}
use Rattle.model_runs.specs.Effects.{edit_gives, edits, effect, grabs_view, load_into, opens, renders, renders_known, renders_named, step_gives, watches}
use Rattle.model_runs.specs.Run.{effects, files_after_all, state_after}
use Rattle.model_runs.specs.State.{Effect, RunState, Watching, in_workspace, leaves, refuses, scene_in, workspace_of}
use Rattle.model_runs.specs.Watching.{ends}
use Rattle.model_runs.specs.declared.cause.Cause.TheVariants as causes
use Rattle.script_read.specs.declared.command.Command.{Command}
use Rattle.script_read.specs.declared.command.Command.TheVariants as commands
use Rattle.script_read.specs.declared.command.Line.{Line}

-- ---- pairs that are looked up

module _ {X : Type 0} (key : X → Pair) (fresh : Pair → X) (capacity : Option ℕ) where
  look_rises : (counted : Counted X) (pair : Pair) → counted.applied ≤ (looked_up key fresh capacity counted pair).applied
  look_rises counted pair = by (find_pair key counted.list pair)
    where
      by : (o : Option X) → counted.applied ≤ applied_more counted.applied o
      by None = omega arith
      by (Some x) = omega arith

  pub looks_rise : (counted : Counted X) (pairs : List Pair) → counted.applied ≤ (all_looked_up key fresh capacity counted pairs).applied
  looks_rise counted [] = omega arith
  looks_rise counted (pair ∷ pairs) =
      let one = look_rises counted pair in
      let rest = looks_rise (looked_up key fresh capacity counted pair) pairs in
      omega (arith, one, rest)

-- ---- the effect of a line

-- at least as many pairs were applied
abbrev pub Rises : RunState → RunState → Type 0
Rises old new = old.session.cached.applied ≤ new.session.cached.applied

same_rises : (state : RunState) → Rises state state
same_rises state = omega arith

working_rises : (state : RunState) (table : Table) (written : Option (List ℕ × Rectangle)) → Rises state (in_workspace state (with_working (workspace_of state) table written))
working_rises state table None = omega arith
working_rises state table (Some entry) = omega arith

given_rises : (line : ℕ) (state : RunState) (edit : BufferEdit) (given : Edited) → Rises state (edit_gives line state edit given).next
given_rises line state edit (Ok table) = working_rises state table (written_by (layout_of (workspace_of state).working) edit)
given_rises line state edit (Err refused) = same_rises state

edits_rise : (line : ℕ) (state : RunState) (edit : BufferEdit) → Rises state (edits line state edit).next
edits_rise line state edit = given_rises line state edit (edited_table (workspace_of state).working edit)

loads_rise : (line : ℕ) (state : RunState) (name : List ℕ) (r : Rectangle) (found : Option (List ℕ)) (view : Option View) → Rises state (load_into line state name r found view).next
loads_rise line state name r None None = same_rises state
loads_rise line state name r (Some bytes) None = same_rises state
loads_rise line state name r None (Some view) = same_rises state
loads_rise line state name r (Some bytes) (Some view) = edits_rise line state (Put name r bytes)

step_rises : (line : ℕ) (state : RunState) (next : Result (History Table IntOp) StateRefused) → Rises state (step_gives line state next).next
step_rises line state (Ok next) = omega arith
step_rises line state (Err refused) = same_rises state

rendered_rises : (capacity line : ℕ) (state : RunState) (name : List ℕ) (z : ℕ) (r : Rectangle) (target : List ℕ) → Rises state (renders capacity line state name z r target).next
rendered_rises capacity line state name z r target =
    let scene = last_scene state.session in
    looks_rise by_pair (with_bytes int_meanings scene) (Some capacity) state.session.cached (needed_pairs scene.nodes (render_need int_meanings scene name z r))

-- one of two effects, by a test
either_rises : (state : RunState) (b : Bool) (x y : Effect) → Rises state x.next → Rises state y.next → Rises state (cond b x y).next
either_rises state true x y one other = one
either_rises state false x y one other = other

renders_rise : (capacity line : ℕ) (state : RunState) (name : List ℕ) (z : ℕ) (r : Rectangle) (target : List ℕ) → Rises state (renders_named capacity line state name z r target).next
renders_rise capacity line state name z r target =
    either_rises state (has_node (scene_in state).nodes name) (renders_known capacity line state name z r target) (refuses line state causes.UnknownNode)
    (either_rises state (is_none (wide capacity (render_need int_meanings (scene_in state) name z r)))
    (renders capacity line state name z r target) (refuses line state causes.Strip)
    (rendered_rises capacity line state name z r target) (same_rises state))
    (same_rises state)

view_rises : (line : ℕ) (state : RunState) (name : List ℕ) (z : ℕ) (policy : Abyss) (r : Rectangle) (target : List ℕ) (view : Option View) → Rises state (grabs_view line state name z policy r target view).next
view_rises line state name z policy r target None = same_rises state
view_rises line state name z policy r target (Some view) = same_rises state

watches_rise : (line : ℕ) (state : RunState) (name : List ℕ) (r : Rectangle) (viewers frames : ℕ) (prefix : List ℕ) → Rises state (watches line state name r viewers frames prefix).next
watches_rise line state name r viewers frames prefix =
    either_rises state (has_node (scene_in state).nodes name) (leaves line (opens line state name r viewers frames prefix)) (refuses line state causes.UnknownNode)
    (omega arith) (same_rises state)

ends_rise : (line : ℕ) (state : RunState) (watching : Option Watching) → Rises state (ends line state watching).next
ends_rise line state None = same_rises state
ends_rise line state (Some watching) = omega arith

pub effect_rises : (capacity : ℕ) (state : RunState) (files : Files) (line : ℕ) (command : Command) → Rises state (effect capacity state files line command).next
effect_rises capacity state files line (commands.Buffer name format rect) = edits_rise line state (Create name format rect)
effect_rises capacity state files line (commands.Sub name parent rect) = edits_rise line state (Sub name parent rect)
effect_rises capacity state files line (commands.Dup name from) = edits_rise line state (Duplicate name from)
effect_rises capacity state files line (commands.Load name rect source) = loads_rise line state name rect (file files source) (find (workspace_of state).working.buffers name)
effect_rises capacity state files line (commands.Fill name rect samples) = edits_rise line state (Fill name rect samples)
effect_rises capacity state files line (commands.Copy from to rect dx dy) = edits_rise line state (Copy from to rect dx dy)
effect_rises capacity state files line (commands.Node name op inputs) = omega arith
effect_rises capacity state files line (commands.Drop name) = omega arith
effect_rises capacity state files line commands.Commit = step_rises line state (committed int_meanings table_shapes state.session.history)
effect_rises capacity state files line commands.Undo = step_rises line state (undone state.session.history)
effect_rises capacity state files line commands.Redo = step_rises line state (redone state.session.history)
effect_rises capacity state files line (commands.Render name z rect target) = renders_rise capacity line state name z rect target
effect_rises capacity state files line (commands.Grab name z policy rect target) = view_rises line state name z policy rect target (find (workspace_of state).working.buffers name)
effect_rises capacity state files line (commands.Watch name rect viewers frames prefix) = watches_rise line state name rect viewers frames prefix
effect_rises capacity state files line commands.EndWatch = ends_rise line state state.watching

-- ---- effects one after another

-- each effect's state has applied at least as many pairs as the one before it
abbrev pub AreRising : RunState → List Effect → Type 0
AreRising state [] = ⊤
AreRising state (effect ∷ effects) = Rises state effect.next × AreRising effect.next effects

pub rising_prefix : (count : ℕ) (state : RunState) (list : List Effect) → AreRising state list → AreRising state (take count list)
rising_prefix zero state list rising = tt
rising_prefix (suc count) state [] rising = tt
rising_prefix (suc count) state (effect ∷ list) rising = (rising.0, rising_prefix count effect.next list rising.1)

pub rising_end : (state : RunState) (list : List Effect) → AreRising state list → Rises state (state_after state list)
rising_end state [] rising = same_rises state
rising_end state (effect ∷ list) rising =
    let first = rising.0 in
    let rest = rising_end effect.next list rising.1 in
    omega (arith, first, rest)

pub effects_rise : (capacity : ℕ) (state : RunState) (files : Files) (lines : List Line) → AreRising state (effects capacity state files lines)
effects_rise capacity state files [] = tt
effects_rise capacity state files (line ∷ lines) =
    by (is_none here.refused) (effects_rise capacity here.next (files_after_all here.events files) lines)
  where
    here : Effect
    here = effect capacity state files line.number line.command

    rest : List Effect
    rest = effects capacity here.next (files_after_all here.events files) lines

    by : (b : Bool) → AreRising here.next rest → AreRising state (cond b (here ∷ rest) (here ∷ []))
    by true others = (effect_rises capacity state files line.number line.command, others)
    by false others = (effect_rises capacity state files line.number line.command, tt)
