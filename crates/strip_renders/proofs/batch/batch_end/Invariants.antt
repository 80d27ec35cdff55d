use Rattle.std.proofs.Common.{◌≡◌, ℕ, ◌<◌, ◌≤◌, Some}
use Rattle.std.specs.Prelude.{slice_get}
use Rattle.model_states.specs.Need.{Needed}
use Rattle.strip_renders.proofs.batch.batch_end.Given as goal

abbrev pub invariant-loop-end : goal.invariant-loop-end
invariant-loop-end l = record {
  after : l.index ≤ l.end;
  each : (k : ℕ) (needed : Needed) → l.index ≤ k → k < l.end → slice_get l.need k ≡ Some needed → needed.0 ≡ l.node;
}
