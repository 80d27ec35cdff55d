use Rattle.std.proofs.Common.{arith}
use Rattle.std.proofs.lemmas.List.{length-take-le}
use Rattle.outside_io.proofs.BlockRanges.{unchanged-written}
use Rattle.swap_store.proofs.Exposed.{begins-answered}
use Rattle.swap_store.proofs.extents.write_padded.Goals as goal

pub returns-clause-others : goal.returns-clause-others
returns-clause-others g c = unchanged-written _ _ c.args.n _ c.write_block.result c.write_block.ensures.leaves

pub returns-clause-written : goal.returns-clause-written
returns-clause-written g c =
    begins-answered _ _ c.args.n (g.D.SwapDisk.block_count c.args.disk.now) c.args.bytes.now _ c.write_block.result c.map_err.result
    c.map_err.ensures.variant c.write_block.ensures.leaves (g.met.D.SwapDisk.exposes_all c.args.disk.now) c.requires.known
    c.pad.ensures

pub write_block-requires-clause-whole : goal.write_block-requires-clause-whole
write_block-requires-clause-whole g c = omega (arith, c.pad.auto.block, length-take-le 4096 c.args.spare.now c.requires.spare)
