use Rattle.model_buffers.proofs.HeldLaws as laws
use Rattle.model_buffers.proofs.held.added_buffers_by_tiles.Goals as goal

pub returns-clause-created : goal.returns-clause-created
returns-clause-created c = λ layout held later name format extent new same. laws.created-tiles layout held later name new same format extent

pub returns-clause-part : goal.returns-clause-part
returns-clause-part c = laws.part-tiles

pub returns-clause-duplicated : goal.returns-clause-duplicated
returns-clause-duplicated c = λ layout held later name from view new e same. laws.duplicated-tiles layout held later name new same from view e
