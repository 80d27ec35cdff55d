use Rattle.std.proofs.Common.{ℕ, ◌+◌, ◌-◌, Option, length, ap}
use Rattle.model_states.specs.Cache.{all_looked_up, itself, uncounted}
use Rattle.strip_renders.specs.Strips.{most_cached}
use Rattle.render_workers.proofs.laws.names_are_those_after_a_render.Goals as goal

pub returns : goal.returns
returns c = λ old pairs capacity is.
    ap (λ (o : Option ℕ). old.counts.names - length old.cache_names
    + most_cached o (length old.pairs + (all_looked_up itself itself old.capacity (uncounted old.pairs) pairs).applied) + 1) is
