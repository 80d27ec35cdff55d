use Rattle.model_states.proofs.Stated as laws
use Rattle.model_states.proofs.stated_nodes_are_theirs.Goals as goal

pub returns-clause-nodes : goal.returns-clause-nodes
returns-clause-nodes g c = laws.stated-nodes

pub returns-clause-shapes : goal.returns-clause-shapes
returns-clause-shapes g c = laws.stated-shapes

pub returns-clause-valid : goal.returns-clause-valid
returns-clause-valid g c = laws.stated_valid

pub returns-clause-only : goal.returns-clause-only
returns-clause-only g c = laws.stated_only
