use Rattle.std.proofs.Common.{◌≡◌, ◌∷◌, ◌++◌, drop}
use Rattle.model_states.specs.Cache.{itself, without_pair}
use Rattle.plain_graphs.proofs.cache.with_first.Given as goal

abbrev pub invariant-loop-other : goal.invariant-loop-other
invariant-loop-other l =
    l.recent.items ++ without_pair itself (drop l.other-index l.pairs) l.pair
    ≡ l.fn.first ∷ without_pair itself l.pairs l.pair
