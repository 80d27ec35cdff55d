-- What is built today of runs: all but watches. Later work shortens this until it is gone.
use Rattle.std.specs.Prelude.{ℕ, Bool, true, false, is_some, if◌then◌else◌, List, [], ◌∷◌, Option, Some, None, Result, Ok, Err}
use Rattle.outside_io.specs.Files.{Files, file}
use Rattle.model_runs.specs.Events.{Refusal}
use Rattle.model_runs.specs.declared.cause.Cause.TheVariants.{Grammar}
use Rattle.script_fields.specs.declared.cause.ScriptCause.TheVariants.{UnknownCommand}
use Rattle.script_read.specs.declared.command.Command.{Command}
use Rattle.script_read.specs.declared.command.Command.TheVariants as commands
use Rattle.script_read.specs.declared.command.Line.{Line}
use Rattle.model_runs.specs.MadeJob.{job_name, made_ending, made_files}
use Rattle.model_runs.specs.Run.{Ending, Plan, lines_of_file, plan_of_lines, report}
use Rattle.model_runs.specs.State.{Numbers}
use Rattle.model_runs.specs.Words.{Options, ScriptRun, default_options}

-- ---- lines

-- Watches aren't built.
abbrev pub is_of_watch : Command → Bool
is_of_watch (commands.Watch name rect viewers frames prefix) = true
is_of_watch commands.EndWatch = true
is_of_watch command = false

-- the number of the first line that isn't built
abbrev pub first_unbuilt : List Line → Option ℕ
first_unbuilt [] = None
first_unbuilt (line ∷ lines) = if is_of_watch line.command then Some line.number else first_unbuilt lines

-- lines, or the first of them that isn't built
abbrev pub unless_unbuilt : List Line → Option ℕ → Result (List Line) Refusal
unless_unbuilt lines None = Ok lines
unless_unbuilt lines (Some unbuilt) = Err (record { line = unbuilt; cause = Grammar UnknownCommand })

-- A script of which a line isn't built is refused at the first such line before any line is carried out.
abbrev pub built_lines : Result (List Line) Refusal → Result (List Line) Refusal
built_lines (Ok lines) = unless_unbuilt lines (first_unbuilt lines)
built_lines (Err refused) = Err refused

-- No line is carried out of such a script: it is refused first.
abbrev pub needs_no_swap : Result (List Line) Refusal → Bool
needs_no_swap (Ok lines) = is_some (first_unbuilt lines)
needs_no_swap (Err refused) = true

-- ---- runs

-- What a run is to do today of what was read of a script, with its ending.
abbrev pub plan_of_read : Ending → Numbers → Files → Options → Result (List Line) Refusal → Plan
plan_of_read ending numbers files options read = plan_of_lines ending options numbers files (built_lines read)

-- What a run of a script is to do today.
abbrev pub built_plan : Numbers → Files → ScriptRun → Plan
built_plan numbers files run = plan_of_read report numbers files run.options (lines_of_file (file files run.script))

-- What a run of a made job is to do today, over a shelf of its own.
abbrev pub built_job : ℕ → Plan
built_job number =
    plan_of_read made_ending [] (made_files number) default_options (lines_of_file (file (made_files number) job_name))
