use Rattle.test_renders.specs.Ready.{AreBuffersAndCacheOver, IsReadyOverBuffers}
use Rattle.test_sessions.proofs.renders.steps.make.Given as goal

abbrev pub invariant-loop-step : goal.invariant-loop-step
invariant-loop-step g l =
    record {
      over : AreBuffersAndCacheOver g.C.ChainMeaning g.P.PairStore l.canvas l.chain;
      ready : IsReadyOverBuffers g.C.ChainMeaning g.P.PairStore l.canvas l.chain;
    }
