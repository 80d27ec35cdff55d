use Rattle.test_sessions.specs.Lengths.{HaveLength}
use Rattle.test_sessions.proofs.caches.steps.make.Given as goal

abbrev pub invariant-loop-step : goal.invariant-loop-step
invariant-loop-step g l =
    record {
      over : g.C.PairStore.is_over l.cache (g.H.ChainMeaning.held l.chain);
      lengths : HaveLength 4 (g.C.PairStore.sizes l.cache (g.H.ChainMeaning.held l.chain));
    }
