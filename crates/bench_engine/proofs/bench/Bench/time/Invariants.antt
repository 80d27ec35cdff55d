use Rattle.bench_engine.proofs.bench.Bench.time.Given as goal

abbrev pub invariant-loop-round : goal.invariant-loop-round
invariant-loop-round g l = g.W.Work.is_ready l.work
