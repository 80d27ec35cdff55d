use Rattle.model_sessions.proofs.Sources as laws
use Rattle.model_sessions.proofs.tables.tables_are_sources.Goals as goal

pub returns-clause-distinct : goal.returns-clause-distinct
returns-clause-distinct c = laws.names_distinct

pub returns-clause-found : goal.returns-clause-found
returns-clause-found c = laws.fact-found

pub returns-clause-shapes : goal.returns-clause-shapes
returns-clause-shapes c = laws.images_known

pub returns-clause-images : goal.returns-clause-images
returns-clause-images c = laws.image-read
