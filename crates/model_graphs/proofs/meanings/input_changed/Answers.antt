use Rattle.model_graphs.proofs.ChangeLaws as laws
use Rattle.model_graphs.proofs.meanings.input_changed.Goals as goal

pub returns-clause-only : goal.returns-clause-only
returns-clause-only c = laws.one-changed

pub returns-clause-first : goal.returns-clause-first
returns-clause-first c = laws.first-changed

pub returns-clause-second : goal.returns-clause-second
returns-clause-second c = laws.second-changed
