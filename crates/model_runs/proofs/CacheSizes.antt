-- How many tiles the cache holds changes no event of a line that is not refused for it.
use Rattle.std.proofs.Common.{◌≡◌, ap, ◌∙◌, refl, ℕ, Bool, true, false, if◌then◌else◌, List, [], ◌∷◌, ◌++◌, Option, Some, None, Result, Ok, Err, is_none}
use Rattle.plane_rect.specs.Rectangle.{Rectangle}
use Rattle.outside_io.specs.Files.{Files, file}
use Rattle.model_operations.specs.declared.operation.IntOp.{IntOp}
use Rattle.pixel_formats.specs.declared.abyss.Abyss.{Abyss}
use Rattle.model_buffers.specs.Layout.{View, find}
use Rattle.model_buffers.specs.Table.{Table}
use Rattle.model_buffers.specs.Edits.{Edited, edited_table}
use Rattle.model_graphs.specs.declared.node.NodeEdit.TheVariants.{Remove, Set}
use Rattle.model_states.specs.Cache.{Cached, Counted}
use Rattle.model_states.specs.declared.refused.StateRefused.{StateRefused}
use Rattle.model_states.specs.Edits.{has_node}
use Rattle.model_states.specs.Need.{wide}
use Rattle.model_states.specs.Workspace.{with_pending}
use Rattle.model_states.specs.History.{History, committed, redone, undone}
use Rattle.model_operations.specs.Meanings.{int_meanings, same_operation}
use Rattle.model_sessions.specs.Sessions.{render_need, with_render, with_state}
use Rattle.model_buffers.specs.declared.edit.BufferEdit.{BufferEdit}
use Rattle.model_buffers.specs.declared.edit.BufferEdit.TheVariants.{Copy, Create, Duplicate, Fill, Put, Sub}
use Rattle.model_sessions.specs.Tables.{table_shapes}
use Rattle.model_runs.specs.Events.{Event}
use Rattle.model_runs.specs.declared.cause.Cause.TheVariants.{Strip, UnknownNode}
use Rattle.script_read.specs.declared.command.Command.{Command}
use Rattle.script_read.specs.declared.command.Command.TheVariants as commands
use Rattle.script_read.specs.declared.command.Line.{Line}
use Rattle.model_runs.specs.Commands.{node_of}
use Rattle.model_runs.specs.Laws.{AllFit, Fits}
use Rattle.model_runs.specs.Run.{events_in, files_after_all, effects}
use Rattle.model_runs.specs.State.{RunState, Effect, Watching, in_workspace, leaves, refuses, scene_in, workspace_of}
use Rattle.model_runs.specs.Effects.{edit_gives, edits, effect, grabs_view, load_into, opens, renders, renders_known, step_gives}
use Rattle.model_runs.specs.Watching.{ends}

-- a state with other cached tiles and counts
abbrev with_cached : RunState → Counted Cached → RunState
with_cached base cached = record base { session = record base.session { cached = cached } }

-- two effects with the same events, which leave states that differ in their cached tiles and counts alone
record Equal (a b : Effect) : Type 0 where
  events : a.events ≡ b.events
  refused : a.refused ≡ b.refused
  base : RunState
  first : Counted Cached
  second : Counted Cached
  one : a.next ≡ with_cached base first
  other : b.next ≡ with_cached base second

-- ---- the parts of lines

refuses-equal : (line : ℕ) (base : RunState) (c d : Counted Cached) (cause : _) →
    Equal (refuses line (with_cached base c) cause) (refuses line (with_cached base d) cause)
refuses-equal line base c d cause =
    record { events = refl; refused = refl; base = base; first = c; second = d; one = refl; other = refl }

gives-equal : (line : ℕ) (base : RunState) (c d : Counted Cached) (edit : BufferEdit) (given : Edited) →
    Equal (edit_gives line (with_cached base c) edit given) (edit_gives line (with_cached base d) edit given)
gives-equal line base c d edit (Ok table) =
    record { events = refl; refused = refl; base = (edit_gives line base edit (Ok table)).next; first = c; second = d; one = refl; other = refl }
gives-equal line base c d edit (Err refused) = refuses-equal line base c d _

edits-equal : (line : ℕ) (base : RunState) (c d : Counted Cached) (edit : BufferEdit) →
    Equal (edits line (with_cached base c) edit) (edits line (with_cached base d) edit)
edits-equal line base c d edit = gives-equal line base c d edit (edited_table (workspace_of base).working edit)

into-equal : (line : ℕ) (base : RunState) (c d : Counted Cached) (name : List ℕ) (r : Rectangle) (found : Option (List ℕ)) (view : Option View) →
    Equal (load_into line (with_cached base c) name r found view) (load_into line (with_cached base d) name r found view)
into-equal line base c d name r None None = refuses-equal line base c d _
into-equal line base c d name r (Some bytes) None = refuses-equal line base c d _
into-equal line base c d name r None (Some view) = refuses-equal line base c d _
into-equal line base c d name r (Some bytes) (Some view) = edits-equal line base c d (Put name r bytes)

step-equal : (line : ℕ) (base : RunState) (c d : Counted Cached) (next : Result (History Table IntOp) StateRefused) →
    Equal (step_gives line (with_cached base c) next) (step_gives line (with_cached base d) next)
step-equal line base c d (Ok next) =
    record {
      events = refl;
      refused = refl;
      base = record base { session = record base.session { history = next } };
      first = (with_state same_operation int_meanings (with_cached base c).session next).cached;
      second = (with_state same_operation int_meanings (with_cached base d).session next).cached;
      one = refl;
      other = refl;
    }
step-equal line base c d (Err refused) = refuses-equal line base c d _

pending-equal : (line : ℕ) (base : RunState) (c d : Counted Cached) → Equal (leaves line (with_cached base c)) (leaves line (with_cached base d))
pending-equal line base c d =
    record { events = refl; refused = refl; base = base; first = c; second = d; one = refl; other = refl }

view-equal : (line : ℕ) (base : RunState) (c d : Counted Cached) (name : List ℕ) (z : ℕ) (policy : Abyss) (r : Rectangle) (target : List ℕ) (view : Option View) →
    Equal (grabs_view line (with_cached base c) name z policy r target view) (grabs_view line (with_cached base d) name z policy r target view)
view-equal line base c d name z policy r target None = refuses-equal line base c d _
view-equal line base c d name z policy r target (Some view) =
    record { events = refl; refused = refl; base = base; first = c; second = d; one = refl; other = refl }

ends-equal : (line : ℕ) (base : RunState) (c d : Counted Cached) (watching : Option Watching) →
    Equal (ends line (with_cached base c) watching) (ends line (with_cached base d) watching)
ends-equal line base c d None = pending-equal line base c d
ends-equal line base c d (Some watching) =
    record { events = refl; refused = refl; base = (ends line base (Some watching)).next; first = c; second = d; one = refl; other = refl }

-- ---- renders

-- one of two effects, where the second of each is refused for the cache
fitted-equal : (x y : Bool) (a b r s : Effect) → Equal a b → r.refused ≡ Some Strip → s.refused ≡ Some Strip →
    Fits (if x then a else r) → Fits (if y then b else s) → Equal (if x then a else r) (if y then b else s)
fitted-equal true true a b r s equal wide other fits fits_too = equal
fitted-equal false y a b r s equal wide other fits fits_too = absurd (fits wide)
fitted-equal true false a b r s equal wide other fits fits_too = absurd (fits_too other)

rendered-equal : (p q line : ℕ) (base : RunState) (c d : Counted Cached) (name : List ℕ) (z : ℕ) (r : Rectangle) (target : List ℕ) →
    Equal (renders p line (with_cached base c) name z r target) (renders q line (with_cached base d) name z r target)
rendered-equal p q line base c d name z r target =
    record {
      events = refl;
      refused = refl;
      base = base;
      first = (with_render int_meanings p (with_cached base c).session name z r).cached;
      second = (with_render int_meanings q (with_cached base d).session name z r).cached;
      one = refl;
      other = refl;
    }

renders-equal : (p q line : ℕ) (base : RunState) (c d : Counted Cached) (name : List ℕ) (z : ℕ) (r : Rectangle) (target : List ℕ) →
    Fits (renders_known p line (with_cached base c) name z r target) → Fits (renders_known q line (with_cached base d) name z r target) →
    Equal (renders_known p line (with_cached base c) name z r target) (renders_known q line (with_cached base d) name z r target)
renders-equal p q line base c d name z r target fits fits_too =
    let strips = render_need int_meanings (scene_in base) name z r in
    fitted-equal (is_none (wide p strips)) (is_none (wide q strips)) _ _ _ _
    (rendered-equal p q line base c d name z r target) refl refl fits fits_too

-- one of two effects, by one test
known-equal : (known : Bool) (a b r s : Effect) → (Fits a → Fits b → Equal a b) → Equal r s →
    Fits (if known then a else r) → Fits (if known then b else s) → Equal (if known then a else r) (if known then b else s)
known-equal true a b r s equal others fits fits_too = equal fits fits_too
known-equal false a b r s equal others fits fits_too = others

-- ---- a line

effect-equal : (p q : ℕ) (base : RunState) (c d : Counted Cached) (files : Files) (line : ℕ) (command : Command) →
    Fits (effect p (with_cached base c) files line command) → Fits (effect q (with_cached base d) files line command) →
    Equal (effect p (with_cached base c) files line command) (effect q (with_cached base d) files line command)
effect-equal p q base c d files line (commands.Buffer name format rect) fits fits_too = edits-equal line base c d (Create name format rect)
effect-equal p q base c d files line (commands.Sub name parent rect) fits fits_too = edits-equal line base c d (Sub name parent rect)
effect-equal p q base c d files line (commands.Dup name from) fits fits_too = edits-equal line base c d (Duplicate name from)
effect-equal p q base c d files line (commands.Load name rect source) fits fits_too =
    into-equal line base c d name rect (file files source) (find (workspace_of base).working.buffers name)
effect-equal p q base c d files line (commands.Fill name rect samples) fits fits_too = edits-equal line base c d (Fill name rect samples)
effect-equal p q base c d files line (commands.Copy from to rect dx dy) fits fits_too = edits-equal line base c d (Copy from to rect dx dy)
effect-equal p q base c d files line (commands.Node name op inputs) fits fits_too =
    pending-equal line (in_workspace base (with_pending (workspace_of base) (Set (node_of name op inputs)))) c d
effect-equal p q base c d files line (commands.Drop name) fits fits_too = pending-equal line (in_workspace base (with_pending (workspace_of base) (Remove name))) c d
effect-equal p q base c d files line commands.Commit fits fits_too =
    step-equal line base c d (committed int_meanings table_shapes base.session.history)
effect-equal p q base c d files line commands.Undo fits fits_too = step-equal line base c d (undone base.session.history)
effect-equal p q base c d files line commands.Redo fits fits_too = step-equal line base c d (redone base.session.history)
effect-equal p q base c d files line (commands.Render name z rect target) fits fits_too =
    known-equal (has_node (scene_in base).nodes name) _ _ _ _ (renders-equal p q line base c d name z rect target)
    (refuses-equal line base c d UnknownNode) fits fits_too
effect-equal p q base c d files line (commands.Grab name z policy rect target) fits fits_too =
    view-equal line base c d name z policy rect target (find (workspace_of base).working.buffers name)
effect-equal p q base c d files line (commands.Watch name rect viewers frames prefix) fits fits_too =
    known-equal (has_node (scene_in base).nodes name) _ _ _ _
    (λ _ _. pending-equal line (opens line base name rect viewers frames prefix) c d)
    (refuses-equal line base c d UnknownNode) fits fits_too
effect-equal p q base c d files line commands.EndWatch fits fits_too = ends-equal line base c d base.watching

-- ---- all lines

-- the first of the effects of a line and those after it
head-fits : (on : Bool) (a : Effect) (after : List Effect) → AllFit (if on then a ∷ after else a ∷ []) → Fits a
head-fits true a after fit = fit.0
head-fits false a after fit = fit.0

joined-equal : (on other : Bool) (a b : Effect) (A B : List Effect) → on ≡ other → a.events ≡ b.events →
    (AllFit A → AllFit B → events_in A ≡ events_in B) →
    AllFit (if on then a ∷ A else a ∷ []) → AllFit (if other then b ∷ B else b ∷ []) →
    events_in (if on then a ∷ A else a ∷ []) ≡ events_in (if other then b ∷ B else b ∷ [])
joined-equal true true a b A B same events after fit fit_too =
    ap (λ (e : List Event). e ++ events_in A) events ∙ ap (λ (e : List Event). b.events ++ e) (after fit.1 fit_too.1)
joined-equal false false a b A B same events after fit fit_too = ap (λ (e : List Event). e ++ []) events
joined-equal true false a b A B same events after fit fit_too = absurd (cc)
joined-equal false true a b A B same events after fit fit_too = absurd (cc)

-- the effects after a line, from the states that it leaves
after-equal : (p q : ℕ) (lines : List Line) (a b : Effect) (files : Files) → Equal a b →
    ((base : RunState) (c d : Counted Cached) (later : Files) →
    AllFit (effects p (with_cached base c) later lines) → AllFit (effects q (with_cached base d) later lines) →
    events_in (effects p (with_cached base c) later lines) ≡ events_in (effects q (with_cached base d) later lines)) →
    AllFit (effects p a.next (files_after_all a.events files) lines) → AllFit (effects q b.next (files_after_all b.events files) lines) →
    events_in (effects p a.next (files_after_all a.events files) lines) ≡ events_in (effects q b.next (files_after_all b.events files) lines)
after-equal p q lines a b files equal after =
    rw (equal.one, equal.other, equal.events) (after equal.base equal.first equal.second (files_after_all b.events files))

pub effects-equal : (p q : ℕ) (lines : List Line) (base : RunState) (c d : Counted Cached) (files : Files) →
    AllFit (effects p (with_cached base c) files lines) → AllFit (effects q (with_cached base d) files lines) →
    events_in (effects p (with_cached base c) files lines) ≡ events_in (effects q (with_cached base d) files lines)
effects-equal p q [] base c d files fit fit_too = refl
effects-equal p q (line ∷ lines) base c d files fit fit_too =
    let a = effect p (with_cached base c) files line.number line.command in
    let b = effect q (with_cached base d) files line.number line.command in
    let equal : Equal a b = effect-equal p q base c d files line.number line.command (head-fits (is_none a.refused) a _ fit) (head-fits (is_none b.refused) b _ fit_too) in
    joined-equal (is_none a.refused) (is_none b.refused) a b
    (effects p a.next (files_after_all a.events files) lines) (effects q b.next (files_after_all b.events files) lines)
    (ap is_none equal.refused) equal.events
    (after-equal p q lines a b files equal (λ base c d later. effects-equal p q lines base c d later))
    fit fit_too
