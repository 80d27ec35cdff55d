-- How many pairs the renders of a run have looked up, and when a report shows their counts as they are.
use Rattle.std.specs.Prelude.{◌≡◌, ◌^◌, ◌<◌}
use Rattle.model_runs.specs.State.{RunState}
use Rattle.model_sessions.specs.Sessions.{Counts, counts_of}

-- how many pairs were applied and reused, without a limit
abbrev pub true_counts : RunState → Counts
true_counts state = record { applied = state.session.cached.applied; reused = state.session.cached.reused }

-- Both counts are below 2^64, and those that are reported, which stop at 2^64 - 1, are the true ones.
pub record HasTrueCounts (state : RunState) : Type 0 where
  pub applied : state.session.cached.applied < 2 ^ 64
  pub reused : state.session.cached.reused < 2 ^ 64
  pub reported : counts_of state.session ≡ true_counts state
