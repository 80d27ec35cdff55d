-- What a run of a script that was read leaves.
use Rattle.std.specs.Prelude.{◌≢◌, Bool, true, ◌||◌, List, [], min, ℕ, Option, Result, Err}
use Rattle.tile_chain.specs.OwnedTiles.{counts_over}
use Rattle.outside_io.specs.Files.{Files}
use Rattle.model_runs.specs.Built.{built_job, needs_no_swap, plan_of_read}
use Rattle.model_runs.specs.Ran.{bytes_put, tiles_of_run}
use Rattle.model_runs.specs.Run.{Ending, no_ending, state_after}
use Rattle.model_runs.specs.State.{RunState, first_state}
use Rattle.model_runs.specs.Words.{Options, default_options}
use Rattle.model_runs.specs.declared.ending.End.{End}
use Rattle.model_runs.specs.declared.ending.End.TheVariants as ends
use Rattle.run_lines.specs.Carried.{CarriesOut}
use Rattle.run_lines.specs.Moments.{Moment}
use Rattle.model_runs.specs.Events.{Refusal}
use Rattle.script_read.specs.declared.command.Line.{Line}

-- What was read of a script is carried out, with what is done at its end, over a swap that exposes its blocks or
-- doesn't. The chain has no more names than the run may bring tiles into the swap.
abbrev pub CarriesOutRead : Ending → Bool → Files → Options → Result (List Line) Refusal → Result (Unit {0}) End → Moment → Moment → Type 0
CarriesOutRead ending exposed files options read result old new =
    let plan = plan_of_read ending [] files options read in
    CarriesOut (exposed || needs_no_swap read) plan.outcome (tiles_of_run plan (bytes_put old.text new.text)) result old new

-- the state to which the lines lead that were read
abbrev pub last_state : Files → Options → Result (List Line) Refusal → RunState
last_state files options read = state_after (first_state []) (plan_of_read no_ending [] files options read).effects

-- A run that doesn't use the swap: the swap is no reason of its end.
pub record EndsWithoutSwap (result : Result (Unit {0}) End) : Type 0 where
  pub fault : result ≢ Err ends.SwapFault
  pub room : result ≢ Err ends.SwapFull

-- ---- made jobs

-- how many blocks the swap of a made job has
abbrev pub job_blocks : ℕ
job_blocks = 16384

-- what a run of a made job sees of its own shelf and swap, which never fail, and of the sink
abbrev pub job_moment : Option Files → Option (List ℕ) → ℕ → Moment
job_moment files text puts = record {
  files = files;
  text = text;
  reads = 0;
  writes = 0;
  puts = puts;
  chain = counts_over 0 (min default_options.swap_blocks job_blocks) default_options.resident;
}

-- what a run of the job of a number leaves
abbrev pub CarriesOutJob : ℕ → Result (Unit {0}) End → Moment → Moment → Type 0
CarriesOutJob number result old new =
    let plan = built_job number in
    CarriesOut true plan.outcome (tiles_of_run plan (bytes_put old.text new.text)) result old new
