use Rattle.model_sessions.proofs.RightPairs.{leave_right}
use Rattle.model_sessions.proofs.Steps.{step_keeps}
use Rattle.model_sessions.specs.Steps.{after_step}
use Rattle.model_sessions.proofs.histories.steps_leave_right_pairs.Goals as goal

pub returns : goal.returns
returns g c = λ same meanings history step list laws distinguishes is proper appends right.
    leave_right same meanings history (after_step meanings history step) laws distinguishes is (step_keeps meanings history step is proper) appends list right
