use Rattle.model_operations.specs.Meanings.{int_meanings, same_operation}
use Rattle.commit_session.specs.Seen.{IsOver}
use Rattle.bench_engine.proofs.sessions.SessionWork.carry_out_all.Given as goal

abbrev pub invariant-loop-line : goal.invariant-loop-line
invariant-loop-line g l = IsOver same_operation int_meanings l.self.session.state (g.C.ChainMeaning.held l.self.session.chain)
