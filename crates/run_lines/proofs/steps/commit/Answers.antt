use Rattle.model_operations.specs.Meanings.{int_meanings}
use Rattle.model_sessions.specs.Steps.{Commit}
use Rattle.model_sessions.specs.Tables.{table_shapes}
use Rattle.model_states.specs.History.{committed}
use Rattle.root_tiles.specs.Chains.{chain_state}
use Rattle.run_lines.proofs.StepLines.{commit-step, step-carried, step-refused}
use Rattle.run_lines.proofs.steps.commit.Goals as goal

pub returns : goal.returns
returns g c = λ line shelf text reads writes puts.
    let made = c.in_ok-commit.ensures in
    step-carried line (committed int_meanings table_shapes) c.args.session.now c.commit.new.self (chain_state g.C.ChainMeaning c.args.chain.now) (chain_state g.C.ChainMeaning c.commit.new.chain)
    made.over made.left shelf text reads writes puts Commit commit-step made.session made.made.settled.capacity made.other_names

pub returns-in_err-commit : goal.returns-in_err-commit
returns-in_err-commit g c = λ line shelf text reads writes puts.
    let refused = c.in_err-commit.ensures in
    step-refused line (committed int_meanings table_shapes) c.args.session.now c.commit.new.self (chain_state g.C.ChainMeaning c.args.chain.now) (chain_state g.C.ChainMeaning c.commit.new.chain)
    refused.over refused.left shelf text reads writes puts c.in_err-commit.field-0.0 _ refused.refused refused.refused_session _ c.from_residual.ensures.1
