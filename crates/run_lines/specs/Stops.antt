-- What a command did, by what it answers.
use Rattle.std.specs.Borrow.{GName}
use Rattle.std.specs.Prelude.{◌≡◌, ◌≢◌, ℕ, Bool, List, Option, Result, Ok, Err, IfOk}
use Rattle.buffer_view.specs.declared.refused.BufferRefused.{BufferRefused}
use Rattle.buffer_view.specs.declared.refused.BufferRefused.TheVariants as buffer_refusals
use Rattle.chain_owners.specs.Held.{Held}
use Rattle.commit_session.specs.Parts.{Parts}
use Rattle.commit_session.specs.Seen.{IsOver}
use Rattle.commit_session.specs.declared.refused.SessionRefused.{SessionRefused}
use Rattle.commit_session.specs.declared.refused.SessionRefused.TheVariants as session_refusals
use Rattle.graph_edits.specs.declared.refused.GraphRefused.{GraphRefused}
use Rattle.graph_edits.specs.declared.refused.GraphRefused.TheVariants as graph_refusals
use Rattle.model_operations.specs.Meanings.{int_meanings, same_operation}
use Rattle.model_operations.specs.declared.operation.IntOp.{IntOp}
use Rattle.model_runs.specs.Effects.{cause_of_edit, cause_of_state, effect as effect_of}
use Rattle.model_runs.specs.Run.{files_after_all}
use Rattle.model_runs.specs.State.{Effect, RunState, refuses}
use Rattle.model_runs.specs.declared.ending.End.{End}
use Rattle.model_runs.specs.declared.ending.End.TheVariants as ends
use Rattle.outside_io.specs.Files.{Files}
use Rattle.render_workers.specs.declared.refused.RenderRefused.{RenderRefused}
use Rattle.render_workers.specs.declared.refused.RenderRefused.TheVariants as render_refusals
use Rattle.root_tiles.specs.Chains.{ChainState}
use Rattle.run_lines.specs.States.{Holds}
use Rattle.run_lines.specs.Carried.{CarriesOut, HasNames, most_of_line, outcome_of_line}
use Rattle.run_lines.specs.Moments.{HasFaults, Moment}
use Rattle.run_lines.specs.declared.stop.Stop.{Stop}
use Rattle.run_lines.specs.declared.stop.Stop.TheVariants as stops
use Rattle.model_runs.specs.declared.cause.Cause.{Cause}
use Rattle.model_runs.specs.declared.cause.Cause.TheVariants as causes
use Rattle.script_fields.specs.declared.cause.ScriptCause.TheVariants as script_causes
use Rattle.script_read.specs.declared.command.Line.{Line}
use Rattle.chain_owners.specs.declared.swap_refused.SwapRefused.{SwapRefused}
use Rattle.chain_owners.specs.declared.swap_refused.SwapRefused.TheVariants as swap_refusals

abbrev pub end_of_swap : SwapRefused → End
end_of_swap swap_refusals.SwapFault = ends.SwapFault
end_of_swap (swap_refusals.SwapFull needed longest) = ends.SwapFull
end_of_swap swap_refusals.NoMemory = ends.NoMemory

abbrev pub stop_of_buffers : BufferRefused → Stop
stop_of_buffers (buffer_refusals.Edit refused) = stops.Refused (cause_of_edit refused)
stop_of_buffers (buffer_refusals.Swap refused) = stops.Ended (end_of_swap refused)
stop_of_buffers buffer_refusals.NoMemory = stops.Ended ends.NoMemory

abbrev pub stop_of_graph : GraphRefused → Stop
stop_of_graph (graph_refusals.State refused) = stops.Refused (cause_of_state refused)
stop_of_graph graph_refusals.NoMemory = stops.Ended ends.NoMemory

-- A script's rectangles are in limits, so that none is refused for its size when it is rendered.
abbrev pub stop_of_render : RenderRefused → Stop
stop_of_render render_refusals.UnknownNode = stops.Refused causes.UnknownNode
stop_of_render render_refusals.Rect = stops.Refused (causes.Grammar script_causes.Rect)
stop_of_render (render_refusals.Strip needed capacity) = stops.Refused causes.Strip
stop_of_render render_refusals.SwapFault = stops.Ended ends.SwapFault
stop_of_render (render_refusals.SwapFull needed longest) = stops.Ended ends.SwapFull
stop_of_render render_refusals.NoMemory = stops.Ended ends.NoMemory

abbrev pub stop_of : SessionRefused → Stop
stop_of (session_refusals.Buffer refused) = stop_of_buffers refused
stop_of (session_refusals.Graph refused) = stop_of_graph refused
stop_of (session_refusals.Render refused) = stop_of_render refused
stop_of session_refusals.NoMemory = stops.Ended ends.NoMemory

-- how a run ends that stops there, once the text of a refusal is put
abbrev pub end_of : {A : Type 0} → Result A Stop → Result (Unit {0}) End
end_of (Ok value) = Ok tt
end_of (Err (stops.Refused cause)) = Err ends.Refused
end_of (Err (stops.Ended end)) = Err end

-- all is done that the effect says, and the session is that of the state after it
pub record IsDone (exposed : Bool) (capacity : ℕ) (state : RunState) (files : Files) (effect : Effect) (old new : Moment) (parts : Parts IntOp) (held : Held) : Type 0 where
  pub carried : CarriesOut exposed (outcome_of_line effect) (most_of_line capacity state old.chain.names effect) (Ok tt) old new
  pub next : Holds exposed capacity effect.next (files_after_all effect.events files) parts held new.files
  pub names : HasNames effect.tiles state effect.next old.chain new.chain

-- the line is refused for this cause, and nothing came out of it yet
pub record IsRefused (line : ℕ) (state : RunState) (done : Effect) (cause : Cause) (old new : Moment) : Type 0 where
  pub effect : done ≡ refuses line state cause
  pub files : new.files ≡ old.files
  pub text : new.text ≡ old.text

-- the run ends at the line, which isn't refused
pub record IsEnded (exposed : Bool) (capacity : ℕ) (state : RunState) (effect : Effect) (end : End) (old new : Moment) : Type 0 where
  pub other : end ≢ ends.Refused
  pub carried : CarriesOut exposed (outcome_of_line effect) (most_of_line capacity state old.chain.names effect) (Err end) old new

-- What a command of a line did that is to have this effect on a state and files.
abbrev pub Did : Bool → ℕ → ℕ → RunState → Files → Effect → Result (Unit {0}) Stop → Moment → Moment → Parts IntOp → Held → Type 0
Did exposed capacity line state files effect (Ok done) old new parts held = IsDone exposed capacity state files effect old new parts held
Did exposed capacity line state files effect (Err (stops.Refused cause)) old new parts held = IsRefused line state effect cause old new
Did exposed capacity line state files effect (Err (stops.Ended end)) old new parts held = IsEnded exposed capacity state effect end old new

-- What a line did, its text put where it is refused.
pub record Does (exposed : Bool) (capacity : ℕ) (state : RunState) (files : Files) (effect : Effect) (result : Result (Unit {0}) End) (old new : Moment) (parts : Parts IntOp) (held : Held) : Type 0 where
  pub carried : CarriesOut exposed (outcome_of_line effect) (most_of_line capacity state old.chain.names effect) result old new
  pub next : IfOk result (λ _. Holds exposed capacity effect.next (files_after_all effect.events files) parts held new.files)
  pub names : IfOk result (λ _. HasNames effect.tiles state effect.next old.chain new.chain)

-- ---- what is left

-- A point of a run: what its session holds and what its chain does, the chain's loans and whether it is valid, and what is
-- seen of the devices.
pub record RunPoint : Type 1 where
  pub parts : Parts IntOp
  pub held : Held
  pub loans : List GName
  pub valid : Type 0
  pub moment : Moment

-- What is left between two points where this was done of each state and files that the first one is: I/O errors only where
-- their counts rose, and a session that is over its chain, whose loans and validity are as before.
pub record Carries (done : Bool → ℕ → RunState → Files → Type 0) (result : Result (Unit {0}) End) (old new : RunPoint) : Type 0 where
  pub did : (exposed : Bool) (capacity : ℕ) (state : RunState) (files : Files) → Holds exposed capacity state files old.parts old.held old.moment.files → done exposed capacity state files
  pub faults : HasFaults result old.moment new.moment
  pub over : IsOver same_operation int_meanings new.parts new.held
  pub loans : new.loans ≡ old.loans
  pub valid : old.valid → new.valid

-- what is left of a command that is to have an effect, which a capacity, a state and files determine
abbrev pub CarriesCommand : ℕ → (ℕ → RunState → Files → Effect) → Result (Unit {0}) Stop → RunPoint → RunPoint → Type 0
CarriesCommand line effect result old new =
    Carries (λ exposed capacity state files. Did exposed capacity line state files (effect capacity state files) result old.moment new.moment new.parts new.held) (end_of result) old new

-- a point of a run at which the chain and the devices are in these states
abbrev pub point_over : Option Files → Option (List ℕ) → ℕ → ℕ → ℕ → Parts IntOp → ChainState → RunPoint
point_over shelf text reads writes puts parts chain = record {
  parts = parts;
  held = chain.held;
  loans = chain.loans;
  valid = chain.valid;
  moment = record { files = shelf; text = text; reads = reads; writes = writes; puts = puts; chain = chain.counts };
}

-- what is left of a command that touches the session and its chain alone, whichever its line is, and whatever the devices are
abbrev pub CarriesOverChain : (ℕ → RunState → Effect) → Result (Unit {0}) Stop → Parts IntOp → Parts IntOp → ChainState → ChainState → Type 0
CarriesOverChain effect result old new before after =
    (line : ℕ) (shelf : Option Files) (text : Option (List ℕ)) (reads writes puts : ℕ) →
    CarriesCommand line (λ capacity state files. effect line state) result
    (point_over shelf text reads writes puts old before) (point_over shelf text reads writes puts new after)

-- what is left of a command that touches the session alone, whichever its line is, and whatever the chain and the devices are
pub record CarriesInSession (effect : ℕ → RunState → Effect) (result : Result (Unit {0}) Stop) (old new : Parts IntOp) : Type 0 where
  pub did : (line : ℕ) (now : Moment) (held : Held) (exposed : Bool) (capacity : ℕ) (state : RunState) (files : Files) →
      Holds exposed capacity state files old held now.files → Did exposed capacity line state files (effect line state) result now now new held
  pub faults : (now : Moment) → HasFaults (end_of result) now now
  pub over : (held : Held) → IsOver same_operation int_meanings old held → IsOver same_operation int_meanings new held

-- what is left of the command of a line
abbrev pub CarriesOutCommand : Line → Result (Unit {0}) Stop → RunPoint → RunPoint → Type 0
CarriesOutCommand line result old new =
    CarriesCommand line.number (λ capacity state files. effect_of capacity state files line.number line.command) result old new

-- what is left of a line, its text put where it is refused
abbrev pub CarriesOutLine : Line → Result (Unit {0}) End → RunPoint → RunPoint → Type 0
CarriesOutLine line result old new =
    Carries (λ exposed capacity state files. Does exposed capacity state files (effect_of capacity state files line.number line.command) result old.moment new.moment new.parts new.held) result old new
