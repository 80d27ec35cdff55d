use Rattle.model_buffers.proofs.CountLaws as laws
use Rattle.model_buffers.proofs.counts.tiles_of_written_rectangles.Goals as goal

pub returns : goal.returns
returns c = laws.tiles-written
