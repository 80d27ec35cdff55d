use Rattle.model_buffers.proofs.FactLaws as laws
use Rattle.model_buffers.proofs.layouts.facts_of_buffers.Goals as goal

pub returns-clause-found : goal.returns-clause-found
returns-clause-found c = laws.fact-found

pub returns-clause-shapes : goal.returns-clause-shapes
returns-clause-shapes c = laws.shape-found

pub returns-clause-distinct : goal.returns-clause-distinct
returns-clause-distinct c = laws.facts-distinct
