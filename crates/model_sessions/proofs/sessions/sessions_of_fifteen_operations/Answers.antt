use Rattle.model_operations.specs.Lawful.MeaningLaws.{is_boxed, is_dual, is_local}
use Rattle.model_operations.specs.Lawful.SameLaws.{is_equality}
use Rattle.model_operations.specs.Meanings.{int_meanings, same_operation}
use Rattle.model_sessions.proofs.Actions.{session_keeps}
use Rattle.model_sessions.proofs.sessions.sessions_of_fifteen_operations.Goals as goal

pub returns : goal.returns
returns c = session_keeps same_operation int_meanings (record { local = is_local; dual = is_dual }) is_boxed is_equality.apart
