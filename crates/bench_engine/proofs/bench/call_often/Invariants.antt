use Rattle.bench_engine.proofs.bench.call_often.Given as goal

abbrev pub invariant-loop-call : goal.invariant-loop-call
invariant-loop-call g l = g.W.Work.is_ready l.work
