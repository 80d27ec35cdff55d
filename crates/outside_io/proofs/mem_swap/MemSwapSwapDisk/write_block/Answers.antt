use Rattle.outside_io.specs.StoredBlocks.{spoiled_block}
use Rattle.outside_io.proofs.BlockLemmas.{length-spoiled_block}
use Rattle.outside_io.proofs.mem_swap.MemSwapSwapDisk.write_block.Goals as goal

pub returns-then-fails-clause-leaves : goal.returns-then-fails-clause-leaves
returns-then-fails-clause-leaves c = (spoiled_block, length-spoiled_block, rw (c.spoil.ensures, ← c.self.view_is))
