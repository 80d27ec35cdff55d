use Rattle.commit_session.specs.Steps.{history_step, step_action}
use Rattle.root_tiles.specs.Chains.{chain_state}
use Rattle.run_lines.proofs.StepLines.{direction-step, step-carried, step-refused}
use Rattle.run_lines.proofs.steps.step.Goals as goal

pub returns : goal.returns
returns g c = λ line shelf text reads writes puts.
    let made = c.in_ok-step.ensures in
    step-carried line (history_step c.args.direction) c.args.session.now c.step.new.self (chain_state g.C.ChainMeaning c.args.chain.now) (chain_state g.C.ChainMeaning c.step.new.chain)
    made.over made.left shelf text reads writes puts (step_action c.args.direction) (direction-step c.args.direction) made.session made.made.settled.capacity made.other_names

pub returns-in_err-step : goal.returns-in_err-step
returns-in_err-step g c = λ line shelf text reads writes puts.
    let refused = c.in_err-step.ensures in
    step-refused line (history_step c.args.direction) c.args.session.now c.step.new.self (chain_state g.C.ChainMeaning c.args.chain.now) (chain_state g.C.ChainMeaning c.step.new.chain)
    refused.over refused.left shelf text reads writes puts c.in_err-step.field-0.0 _ refused.refused refused.refused_session _ c.from_residual.ensures.1
