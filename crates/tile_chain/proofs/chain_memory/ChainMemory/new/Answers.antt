use Rattle.tile_chain.proofs.Fresh.{len-none}
use Rattle.tile_chain.proofs.chain_memory.ChainMemory.new.Goals as goal

pub invariant_of-result-clause-no_names : goal.invariant_of-result-clause-no_names
invariant_of-result-clause-no_names c = len-none c.in_ok-store.store.extents c.in_ok-store.ensures.empty
