-- How many pairs the renders of a run look up at most.
use Rattle.std.proofs.Common.{◌≡◌, ℕ, suc, ◌+◌, ◌*◌, ◌^◌, ◌<◌, ◌≤◌, Bool, true, false, cond, List, [], ◌∷◌, map, length, min, refl, ap, ◌∙◌, arith, Option, Some, None, Result, Ok, Err, IfOk, is_none}
use Rattle.std.specs.Prelude.{unwrap_or}
use Rattle.std.specs.List.{AllByRecursion, flat_map}
use Rattle.std.proofs.lemmas.Bool.Decides.{nat_tests}
use Rattle.std.proofs.lemmas.List.{length-map}
use Rattle.plane_rect.specs.Rectangle.{InLimits, Rectangle, empty, enlarged, if_in_limits, in_limits}
use Rattle.plane_rect.specs.declared.rect.RectRefused.{RectRefused}
use Rattle.outside_io.specs.Files.{Files, file}
use Rattle.pixel_formats.specs.Limits.{max_lines}
use Rattle.pixel_formats.specs.declared.abyss.Abyss.{Abyss}
use Rattle.model_buffers.specs.BufferEdit.{written_by}
use Rattle.model_buffers.specs.Edits.{Edited, edited_table}
use Rattle.model_buffers.specs.Layout.{View, find}
use Rattle.model_buffers.specs.Table.{Table, layout_of, no_buffers}
use Rattle.model_buffers.specs.declared.edit.BufferEdit.{BufferEdit}
use Rattle.model_buffers.specs.declared.edit.BufferEdit.TheVariants.{Copy, Create, Duplicate, Fill, Put, Sub}
use Rattle.model_graphs.specs.Laws.{IsBoxed}
use Rattle.model_graphs.specs.Meanings.{Meanings}
use Rattle.model_graphs.specs.Node.{index_of}
use Rattle.model_graphs.specs.Shapes.{shapes_of_images}
use Rattle.model_operations.specs.Lawful.MeaningLaws.{is_boxed}
use Rattle.model_operations.specs.Meanings.{int_meanings}
use Rattle.model_operations.specs.declared.operation.IntOp.{IntOp}
use Rattle.model_states.specs.Cache.{by_pair, needed_pairs, pair_of, with_bytes}
use Rattle.model_states.specs.Edits.{has_node}
use Rattle.model_states.specs.History.{History, committed, redone, undone}
use Rattle.model_states.specs.Need.{Needed, wide}
use Rattle.model_states.specs.State.{IsValidScene, Scene, stated_nodes}
use Rattle.model_states.specs.declared.refused.StateRefused.{StateRefused}
use Rattle.model_states.specs.declared.strip.Strip.{Strip}
use Rattle.model_states.proofs.CacheLaws.{counts_add_up}
use Rattle.model_states.proofs.Stated.{stated_valid}
use Rattle.model_sessions.specs.Histories.{last_state}
use Rattle.model_sessions.specs.Sessions.{Counts, at_level_zero, last_scene, max_count, render_need}
use Rattle.model_sessions.specs.Steps.{with_working}
use Rattle.model_sessions.specs.Tables.{table_shapes}
use Rattle.model_runs.specs.declared.cause.Cause.TheVariants as causes
use Rattle.script_fields.specs.declared.cause.ScriptCause.{ScriptCause}
use Rattle.script_read.specs.IsScript.{IsScript, MayContinue, MayFollow}
use Rattle.script_read.specs.Script.{open_after}
use Rattle.script_read.specs.declared.command.Command.{Command}
use Rattle.script_read.specs.declared.command.Command.TheVariants as commands
use Rattle.script_read.specs.declared.command.Line.{Line}
use Rattle.model_runs.specs.Effects.{edit_gives, edits, effect, grabs_view, load_into, opens, renders, renders_known, renders_named, step_gives, watches}
use Rattle.model_runs.specs.Run.{effects, effects_of, files_after_all, state_after}
use Rattle.model_runs.specs.State.{Effect, Numbers, RunState, Watching, first_state, in_workspace, leaves, refuses, scene_in, workspace_of}
use Rattle.model_runs.specs.Watching.{ends}
use Rattle.model_runs.specs.Counts.{HasTrueCounts}
use Rattle.model_states.proofs.NeedCounts.{request_few}
use Rattle.model_runs.proofs.ValidNodes.{IsKept, commit_kept, none_valid, redo_kept, undo_kept, valid_over_images}

-- ---- what a render needs

limits-from : (r : Rectangle) → in_limits r ≡ true → InLimits r
limits-from r h = grind (arith, nat_tests)

limits-empty : InLimits empty
limits-empty = (omega arith, omega arith, omega arith)

limits-made : (made : Result Rectangle RectRefused) → InLimits (unwrap_or (if_in_limits made) empty)
limits-made (Err refused) = limits-empty
limits-made (Ok r) = by (in_limits r) refl
  where
    by : (b : Bool) → in_limits r ≡ b → InLimits (unwrap_or (cond b (Some r) None) empty)
    by true e = limits-from r e
    by false e = limits-empty

-- a rectangle of a level stands for one in limits, or for none
limits-level : (z : ℕ) (r : Rectangle) → InLimits (at_level_zero z r)
limits-level z r = limits-made (enlarged z r)

pub render_few : {Op : Type 0} (meanings : Meanings Op) (boxed : IsBoxed meanings) (scene : Scene Op) (name : List ℕ) (z : ℕ) (rectangle : Rectangle) → IsValidScene meanings scene →
    length (needed_pairs scene.nodes (render_need meanings scene name z rectangle)) < 2 ^ 32
render_few meanings boxed scene name z rectangle valid =
    let shapes = shapes_of_images scene.table in
    let strips = render_need meanings scene name z rectangle in
    let needed : List Needed = flat_map (λ (strip : Strip). strip.need) strips in
    let count : length (map (pair_of scene.nodes) needed) ≡ length needed = length-map needed (pair_of scene.nodes) in
    let few : length needed < 2 ^ 32 =
    request_few meanings boxed shapes (stated_nodes meanings scene) (index_of scene.nodes name) (at_level_zero z rectangle)
    (stated_valid meanings shapes scene.nodes valid) (limits-level z rectangle) in
    omega (arith, few, count)

-- ---- the effect of a line

-- how many pairs were looked up
abbrev total : RunState → ℕ
total state = state.session.cached.applied + state.session.cached.reused

-- a state whose nodes are valid, with few more pairs looked up than before
record Grows (old new : RunState) : Type 0 where
  kept : IsKept int_meanings new.session.history
  count : total new < total old + 2 ^ 32

unchanged : (state : RunState) → IsKept int_meanings state.session.history → Grows state state
unchanged state kept = record { kept = kept; count = omega arith }

working-grows : (state : RunState) (table : Table) (written : Option (List ℕ × Rectangle)) → IsKept int_meanings state.session.history →
    Grows state (in_workspace state (with_working (workspace_of state) table written))
working-grows state table None kept = record { kept = kept; count = omega arith }
working-grows state table (Some entry) kept = record { kept = kept; count = omega arith }

given-grows : (line : ℕ) (state : RunState) (edit : BufferEdit) (given : Edited) → IsKept int_meanings state.session.history → Grows state (edit_gives line state edit given).next
given-grows line state edit (Ok table) kept = working-grows state table (written_by (layout_of (workspace_of state).working) edit) kept
given-grows line state edit (Err refused) kept = unchanged state kept

edits-grow : (line : ℕ) (state : RunState) (edit : BufferEdit) → IsKept int_meanings state.session.history → Grows state (edits line state edit).next
edits-grow line state edit kept = given-grows line state edit (edited_table (workspace_of state).working edit) kept

loads-grow : (line : ℕ) (state : RunState) (name : List ℕ) (r : Rectangle) (found : Option (List ℕ)) (view : Option View) → IsKept int_meanings state.session.history →
    Grows state (load_into line state name r found view).next
loads-grow line state name r None None kept = unchanged state kept
loads-grow line state name r (Some bytes) None kept = unchanged state kept
loads-grow line state name r None (Some view) kept = unchanged state kept
loads-grow line state name r (Some bytes) (Some view) kept = edits-grow line state (Put name r bytes) kept

step-grows : (line : ℕ) (state : RunState) (next : Result (History Table IntOp) StateRefused) → IsKept int_meanings state.session.history →
    IfOk next (IsKept int_meanings) → Grows state (step_gives line state next).next
step-grows line state (Ok next) kept after = record { kept = after; count = omega arith }
step-grows line state (Err refused) kept after = unchanged state kept

rendered-grows : (capacity line : ℕ) (state : RunState) (name : List ℕ) (z : ℕ) (r : Rectangle) (target : List ℕ) → IsKept int_meanings state.session.history →
    Grows state (renders capacity line state name z r target).next
rendered-grows capacity line state name z r target kept =
    let scene = last_scene state.session in
    let pairs = needed_pairs scene.nodes (render_need int_meanings scene name z r) in
    let sum = counts_add_up by_pair (with_bytes int_meanings scene) (Some capacity) state.session.cached pairs in
    let few = render_few int_meanings is_boxed scene name z r (valid_over_images int_meanings (last_state state.session.history) kept.latest) in
    record { kept = kept; count = omega (arith, sum, few) }

-- one of two effects, by a test
either-grows : (state : RunState) (b : Bool) (x y : Effect) → Grows state x.next → Grows state y.next → Grows state (cond b x y).next
either-grows state true x y one other = one
either-grows state false x y one other = other

renders-grow : (capacity line : ℕ) (state : RunState) (name : List ℕ) (z : ℕ) (r : Rectangle) (target : List ℕ) → IsKept int_meanings state.session.history →
    Grows state (renders_named capacity line state name z r target).next
renders-grow capacity line state name z r target kept =
    either-grows state (has_node (scene_in state).nodes name) (renders_known capacity line state name z r target) (refuses line state causes.UnknownNode)
    (either-grows state (is_none (wide capacity (render_need int_meanings (scene_in state) name z r)))
    (renders capacity line state name z r target) (refuses line state causes.Strip)
    (rendered-grows capacity line state name z r target kept) (unchanged state kept))
    (unchanged state kept)

view-grows : (line : ℕ) (state : RunState) (name : List ℕ) (z : ℕ) (policy : Abyss) (r : Rectangle) (target : List ℕ) (view : Option View) → IsKept int_meanings state.session.history →
    Grows state (grabs_view line state name z policy r target view).next
view-grows line state name z policy r target None kept = unchanged state kept
view-grows line state name z policy r target (Some view) kept = unchanged state kept

watches-grow : (line : ℕ) (state : RunState) (name : List ℕ) (r : Rectangle) (viewers frames : ℕ) (prefix : List ℕ) → IsKept int_meanings state.session.history →
    Grows state (watches line state name r viewers frames prefix).next
watches-grow line state name r viewers frames prefix kept =
    either-grows state (has_node (scene_in state).nodes name) (leaves line (opens line state name r viewers frames prefix)) (refuses line state causes.UnknownNode)
    (record { kept = kept; count = omega arith }) (unchanged state kept)

ends-grow : (line : ℕ) (state : RunState) (watching : Option Watching) → IsKept int_meanings state.session.history → Grows state (ends line state watching).next
ends-grow line state None kept = unchanged state kept
ends-grow line state (Some watching) kept = record { kept = kept; count = omega arith }

effect-grows : (capacity : ℕ) (state : RunState) (files : Files) (line : ℕ) (command : Command) → IsKept int_meanings state.session.history →
    Grows state (effect capacity state files line command).next
effect-grows capacity state files line (commands.Buffer name format rect) kept = edits-grow line state (Create name format rect) kept
effect-grows capacity state files line (commands.Sub name parent rect) kept = edits-grow line state (Sub name parent rect) kept
effect-grows capacity state files line (commands.Dup name from) kept = edits-grow line state (Duplicate name from) kept
effect-grows capacity state files line (commands.Load name rect source) kept =
    loads-grow line state name rect (file files source) (find (workspace_of state).working.buffers name) kept
effect-grows capacity state files line (commands.Fill name rect samples) kept = edits-grow line state (Fill name rect samples) kept
effect-grows capacity state files line (commands.Copy from to rect dx dy) kept = edits-grow line state (Copy from to rect dx dy) kept
effect-grows capacity state files line (commands.Node name op inputs) kept =
    record { kept = kept; count = omega arith }
effect-grows capacity state files line (commands.Drop name) kept =
    record { kept = kept; count = omega arith }
effect-grows capacity state files line commands.Commit kept =
    step-grows line state (committed int_meanings table_shapes state.session.history) kept (commit_kept int_meanings state.session.history kept)
effect-grows capacity state files line commands.Undo kept =
    step-grows line state (undone state.session.history) kept (undo_kept int_meanings state.session.history kept)
effect-grows capacity state files line commands.Redo kept =
    step-grows line state (redone state.session.history) kept (redo_kept int_meanings state.session.history kept)
effect-grows capacity state files line (commands.Render name z rect target) kept = renders-grow capacity line state name z rect target kept
effect-grows capacity state files line (commands.Grab name z policy rect target) kept =
    view-grows line state name z policy rect target (find (workspace_of state).working.buffers name) kept
effect-grows capacity state files line (commands.Watch name rect viewers frames prefix) kept = watches-grow line state name rect viewers frames prefix kept
effect-grows capacity state files line commands.EndWatch kept = ends-grow line state state.watching kept

-- ---- the lines of a script

-- the numbers of lines rise, up to the largest
lines_few : (number : ℕ) (watching : Option ℕ) (lines : List Line) → number ≤ suc max_lines → MayFollow number watching lines → number + length lines ≤ suc max_lines
lines_few number watching [] low script = omega (arith, low)
lines_few number watching (line ∷ lines) low script =
    let early : line.number ≤ max_lines = script.1 in
    let later : number ≤ line.number = script.0 in
    let rest = of (open_after line.number watching line.command) (λ after rest. lines_few (line.number + 1) after lines (omega (arith, early)) rest) script.3 in
    omega (arith, later, rest)
  where
    of : (r : Result (Option ℕ) ScriptCause) → ((after : Option ℕ) → MayFollow (line.number + 1) after lines → line.number + 1 + length lines ≤ suc max_lines) →
        MayContinue r (λ after. MayFollow (line.number + 1) after lines) → line.number + 1 + length lines ≤ suc max_lines
    of (Ok after) follow rest = follow after rest
    of (Err cause) follow rest = absurd rest

pub script_few : (lines : List Line) → IsScript lines → length lines ≤ max_lines
script_few lines script = let few = lines_few 1 None lines (omega arith) script in omega (arith, few)

-- ---- all states of a run

-- few pairs were looked up for so many lines
abbrev IsBelow : ℕ → RunState → Type 0
IsBelow lines state = total state ≤ lines * 2 ^ 32

states_below : (capacity all done : ℕ) (state : RunState) (files : Files) (lines : List Line) → done + length lines ≤ all →
    IsKept int_meanings state.session.history → IsBelow done state →
    AllByRecursion (λ (effect : Effect). IsBelow all effect.next) (effects capacity state files lines)
states_below capacity all done state files [] few kept below = tt
states_below capacity all done state files (line ∷ lines) few kept below =
    by (is_none here.refused)
    (states_below capacity all (suc done) here.next (files_after_all here.events files) lines (omega (arith, few)) grown.kept next)
  where
    here : Effect
    here = effect capacity state files line.number line.command

    grown : Grows state here.next
    grown = effect-grows capacity state files line.number line.command kept

    next : IsBelow (suc done) here.next
    next = omega (arith, grown.count, below)

    rest : List Effect
    rest = effects capacity here.next (files_after_all here.events files) lines

    first : IsBelow all here.next
    first = omega (arith, next, few)

    by : (b : Bool) → AllByRecursion (λ (effect : Effect). IsBelow all effect.next) rest → AllByRecursion (λ (effect : Effect). IsBelow all effect.next) (cond b (here ∷ rest) (here ∷ []))
    by true others = (first, others)
    by false others = (first, tt)

-- what holds of the first state and of each state after an effect holds of the last one
last_of : (P : RunState → Type 0) (state : RunState) (list : List Effect) → P state → AllByRecursion (λ (effect : Effect). P effect.next) list → P (state_after state list)
last_of P state [] here all = here
last_of P state (effect ∷ list) here all = last_of P effect.next list all.0 all.1

each_of : (P Q : RunState → Type 0) (list : List Effect) → ((state : RunState) → P state → Q state) →
    AllByRecursion (λ (effect : Effect). P effect.next) list → AllByRecursion (λ (effect : Effect). Q effect.next) list
each_of P Q [] step all = tt
each_of P Q (effect ∷ list) step all = (step effect.next all.0, each_of P Q list step all.1)

true_below : (state : RunState) → IsBelow max_lines state → HasTrueCounts state
true_below state below =
    let a = state.session.cached.applied in
    let r = state.session.cached.reused in
    let applied : min max_count a ≡ a = omega (arith, below) in
    let reused : min max_count r ≡ r = omega (arith, below) in
    let of : ℕ → ℕ → Counts = λ (a : ℕ) (r : ℕ). record { applied = a; reused = r } in
    record {
      applied = omega (arith, below);
      reused = omega (arith, below);
      reported = ap (λ n. of n (min max_count r)) applied ∙ ap (of a) reused;
    }

first_kept : (numbers : Numbers) → IsKept int_meanings (first_state numbers).session.history
first_kept numbers = record { latest = none_valid int_meanings no_buffers; undoable = tt; redoable = tt }

module _ (capacity : ℕ) (numbers : Numbers) (files : Files) (lines : List Line) (few : length lines ≤ max_lines) where
  all_below : AllByRecursion (λ (effect : Effect). IsBelow max_lines effect.next) (effects_of capacity numbers files lines)
  all_below = states_below capacity max_lines 0 (first_state numbers) files lines (omega (arith, few)) (first_kept numbers) (omega arith)

  pub each_true : AllByRecursion (λ (effect : Effect). HasTrueCounts effect.next) (effects_of capacity numbers files lines)
  each_true = each_of (IsBelow max_lines) HasTrueCounts (effects_of capacity numbers files lines) true_below all_below

  pub last_true : HasTrueCounts (state_after (first_state numbers) (effects_of capacity numbers files lines))
  last_true =
      true_below (state_after (first_state numbers) (effects_of capacity numbers files lines))
      (last_of (IsBelow max_lines) (first_state numbers) (effects_of capacity numbers files lines) (omega arith) all_below)
