-- What a part of a run leaves that carries lines out.
use Rattle.std.specs.Prelude.{◌≡◌, ℕ, ◌+◌, ◌-◌, ◌*◌, ◌<◌, ◌≤◌, min, Bool, IsTrue, List, ◌++◌, length, take, map, sum, Option, Result, Err, IsSomeAnd}
use Rattle.std.specs.Option.{option_map}
use Rattle.chain_owners.specs.Counts.{Continues, Counts}
use Rattle.outside_io.specs.Files.{Files}
use Rattle.model_runs.specs.Events.{Outcome}
use Rattle.model_runs.specs.World.{LeavesSome, after_all}
use Rattle.model_runs.specs.declared.cause.Cause.{Cause}
use Rattle.script_read.specs.declared.command.Line.{Line}
use Rattle.model_runs.specs.Ending.{IsWhole, MayTear, SaysRefused}
use Rattle.model_runs.specs.Ran.{bytes_put, texts_in}
use Rattle.model_runs.specs.Run.{effects, no_ending, outcome_of_effects, state_after}
use Rattle.model_runs.specs.State.{Effect, RunState}
use Rattle.model_runs.specs.Swap.{effects_to_stop}
use Rattle.model_runs.specs.declared.ending.End.{End}
use Rattle.model_runs.specs.declared.ending.End.TheVariants as ends
use Rattle.run_lines.specs.Moments.{Moment, world_at}

-- So many names are more than a chain's cache holds, and more than its store has room for whatever their sizes.
abbrev pub Exceeds : Counts → ℕ → Type 0
Exceeds counts names = IsSomeAnd counts.used (λ used. (counts.capacity < names) × (used < 32 * (names + 1)))

-- What a part of a run leaves that is to have this outcome, and in which the chain has so many names at most. Files and
-- texts are those of the outcome where the chain exposes its bytes, and the texts in any case.
pub record CarriesOut (exposed : Bool) (outcome : Outcome) (most : ℕ) (result : Result (Unit {0}) End) (old new : Moment) : Type 0 where
  pub refused : SaysRefused result outcome.refused
  pub whole : IsTrue exposed → IsWhole result → world_at new ≡ after_all outcome.events (world_at old)
  pub texts : IsWhole result → new.text ≡ option_map (λ text. text ++ texts_in outcome.events) old.text
  pub prefix : IsTrue exposed → LeavesSome (MayTear result) outcome.events (world_at old) (world_at new)
  pub texts_prefix : (n : ℕ) × (new.text ≡ option_map (λ text. text ++ take n (texts_in outcome.events)) old.text)
  -- a full swap comes only where the names exceed what there is for them
  pub full : result ≡ Err ends.SwapFull → Exceeds old.chain most

-- ---- a line

-- what a line is to do, and nothing after it
abbrev pub outcome_of_line : Effect → Outcome
outcome_of_line effect = record {
  events = effect.events;
  refused = option_map (λ (cause : Cause). record { line = effect.line; cause = cause }) effect.refused;
}

-- ---- names of the chain

-- how many names of a chain aren't of cached tiles, at a state
abbrev pub other_names : RunState → ℕ → ℕ
other_names state names = names - length state.session.cached.list

-- how many names a chain has at most while a line has its effect, where the cache holds so many tiles of nodes
abbrev pub most_of_line : ℕ → RunState → ℕ → Effect → ℕ
most_of_line capacity state names effect =
    other_names state names + effect.tiles + min capacity effect.next.session.cached.applied + 1

-- the same while effects come up to the stop of a run, from a state on
abbrev pub most_to_stop : ℕ → RunState → ℕ → Option (List ℕ) → List Effect → ℕ
most_to_stop capacity state names put effects =
    let reached = effects_to_stop put effects in
    other_names state names + sum (map (λ (effect : Effect). effect.tiles) reached)
    + min capacity (state_after state reached).session.cached.applied + 1

-- After an effect that may bring so many tiles of buffers into a chain it has so many names more at most, those of cached
-- tiles apart.
pub record HasNames (tiles : ℕ) (state next : RunState) (old new : Counts) : Type 0 where
  pub continues : Continues old new
  pub others : other_names next new.names ≤ other_names state old.names + tiles

-- ---- lines

-- what lines leave, and nothing after them, from a state and files on
abbrev pub CarriesOutLines : Bool → ℕ → RunState → Files → List Line → Result (Unit {0}) End → Moment → Moment → Type 0
CarriesOutLines exposed capacity state files lines result old new =
    let all = effects capacity state files lines in
    CarriesOut exposed (outcome_of_effects no_ending state files all)
    (most_to_stop capacity state old.chain.names (bytes_put old.text new.text) all) result old new

-- So many tiles of nodes were evaluated up to a state, and so many found in the cache.
pub record IsCounted (state : RunState) (evaluated found : ℕ) : Type 0 where
  pub applied : evaluated ≡ state.session.cached.applied
  pub reused : found ≡ state.session.cached.reused
