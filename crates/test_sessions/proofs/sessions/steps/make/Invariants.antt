use Rattle.model_operations.specs.Meanings.{int_meanings, same_operation}
use Rattle.commit_session.specs.Seen.{IsOver}
use Rattle.test_sessions.proofs.sessions.steps.make.Given as goal

abbrev pub invariant-loop-step : goal.invariant-loop-step
invariant-loop-step g l = IsOver same_operation int_meanings l.session.state (g.C.ChainMeaning.held l.session.chain)
