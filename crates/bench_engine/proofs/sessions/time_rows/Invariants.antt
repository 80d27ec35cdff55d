use Rattle.model_operations.specs.Meanings.{int_meanings, same_operation}
use Rattle.commit_session.specs.Seen.{IsOver}
use Rattle.bench_engine.proofs.sessions.time_rows.Given as goal

abbrev pub invariant-loop-row : goal.invariant-loop-row
invariant-loop-row g l = IsOver same_operation int_meanings l.work.session.state (g.C.ChainMeaning.held l.work.session.chain)
