use Rattle.model_buffers.proofs.HeldLaws as laws
use Rattle.model_buffers.proofs.held.written_tiles.Goals as goal

pub returns : goal.returns
returns c = laws.written-tiles
