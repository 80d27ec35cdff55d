-- What a whole run is to do.
use Rattle.std.specs.Prelude.{ℕ, nat_lt, if◌then◌else◌, List, [], ◌∷◌, flat_map, fold, length, is_none, Option, Some, None, Result, Ok, Err}
use Rattle.std.specs.List.{filter_map}
use Rattle.outside_io.specs.Files.{Files, file}
use Rattle.model_runs.specs.Events.{Event, Outcome, Puts, Refusal, events_alone, files_after, refusal, then_do}
use Rattle.model_runs.specs.Texts.{report_text}
use Rattle.model_runs.specs.declared.cause.Cause.{Cause}
use Rattle.model_runs.specs.declared.cause.Cause.TheVariants as causes
use Rattle.script_read.specs.declared.command.Line.{Line}
use Rattle.script_read.specs.Script as grammar
use Rattle.pixel_formats.specs.Limits.{max_script_bytes}
use Rattle.model_runs.specs.Effects.{effect}
use Rattle.model_runs.specs.State.{Numbers, RunState, Effect, Watched, first_state}
use Rattle.model_runs.specs.Words.{Options}

-- the files, after events
abbrev pub files_after_all : List Event → Files → Files
files_after_all events files = fold (λ files event. files_after event files) files events

-- an effect, and those after it unless its line is refused
abbrev pub and_on : Files → (RunState → Files → List Effect) → Effect → List Effect
and_on files rest effect =
    if is_none effect.refused then effect ∷ rest effect.next (files_after_all effect.events files) else effect ∷ []

-- The effects of the lines in order, up to the first that is refused. Each line meets the files as they are there.
abbrev pub effects : ℕ → RunState → Files → List Line → List Effect
effects capacity state files [] = []
effects capacity state files (line ∷ lines) =
    and_on files (λ next later. effects capacity next later lines)
    (effect capacity state files line.number line.command)

-- the effects of a script's lines from the first on, whose frames show these commits
abbrev pub effects_of : ℕ → Numbers → Files → List Line → List Effect
effects_of capacity numbers files lines = effects capacity (first_state numbers) files lines

-- ---- what effects come to

abbrev pub events_in : List Effect → List Event
events_in effects = flat_map (λ (effect : Effect). effect.events) effects

-- the watches that were ended
abbrev pub watched_in : List Effect → List Watched
watched_in effects = filter_map (λ (effect : Effect). effect.watched) effects

-- the state after effects from a state on
abbrev pub state_after : RunState → List Effect → RunState
state_after state effects = fold (λ state (effect : Effect). effect.next) state effects

-- how many tiles of nodes were evaluated
abbrev pub applied_in : List Effect → ℕ
applied_in effects = (state_after (first_state []) effects).session.cached.applied

-- ---- the outcome

-- what is done at the end of a script whose lines are all carried out, by the state and the files there
abbrev pub Ending : Type 0
Ending = RunState → Files → List Event

-- nothing more
abbrev pub no_ending : Ending
no_ending state files = []

-- the report of the counts
abbrev pub report : Ending
report state files = Puts (report_text state.session.cached.applied state.session.cached.reused) ∷ []

-- the events of a line, which is refused for a cause or not, and what is to be done after it
abbrev pub after_line : ℕ → List Event → Option Cause → Outcome → Outcome
after_line line events None rest = then_do events rest
after_line line events (Some cause) rest =
    record { events = events; refused = Some (record { line = line; cause = cause }) }

-- what effects are to do from a state and files on
abbrev pub outcome_of_effects : Ending → RunState → Files → List Effect → Outcome
outcome_of_effects ending state files [] = events_alone (ending state files)
outcome_of_effects ending state files (effect ∷ effects) =
    after_line effect.line effect.events effect.refused
    (outcome_of_effects ending effect.next (files_after_all effect.events files) effects)

-- What lines are to do from a state and files on: it depends on nothing that was done before.
abbrev pub outcome_from : Ending → ℕ → RunState → Files → List Line → Outcome
outcome_from ending capacity state files lines =
    outcome_of_effects ending state files (effects capacity state files lines)

-- ---- a script

-- What a text is as a script: its lines, or the first line that the grammar refuses.
abbrev pub by_grammar : Result (List Line) grammar.Refusal → Result (List Line) Refusal
by_grammar (Ok lines) = Ok lines
by_grammar (Err refused) = Err (record { line = refused.0; cause = causes.Grammar refused.1 })

-- A script that is not among the files, or has too many bytes, is refused as line 0.
abbrev pub lines_of_file : Option (List ℕ) → Result (List Line) Refusal
lines_of_file None = Err (record { line = 0; cause = causes.Absent })
lines_of_file (Some text) =
    if nat_lt max_script_bytes (length text) then Err (record { line = 0; cause = causes.TooLong }) else by_grammar (grammar.script_of text)

-- What a run is to do, by the options of its words: the effects of the lines that it reaches, and its outcome.
pub record Plan : Type 0 where
  pub options : Options
  pub effects : List Effect
  pub outcome : Outcome

-- of a script that is refused before any line is carried out
abbrev pub refused_plan : Options → Refusal → Plan
refused_plan options refused =
    record { options = options; effects = []; outcome = refusal refused.line refused.cause }

-- of lines, or of a refused script
abbrev pub plan_of_lines : Ending → Options → Numbers → Files → Result (List Line) Refusal → Plan
plan_of_lines ending options numbers files (Ok lines) =
    let all = effects_of options.cache numbers files lines in
    record { options = options; effects = all; outcome = outcome_of_effects ending (first_state numbers) files all }
plan_of_lines ending options numbers files (Err refused) = refused_plan options refused

-- What a run of a script is to do.
abbrev pub plan_of_script : Ending → Options → Numbers → Files → List ℕ → Plan
plan_of_script ending options numbers files script =
    plan_of_lines ending options numbers files (lines_of_file (file files script))
