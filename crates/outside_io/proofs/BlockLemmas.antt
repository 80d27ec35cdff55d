-- Blocks have 4,096 bytes.
use Rattle.std.proofs.Common.{◌≡◌, ℕ, length}
use Rattle.std.proofs.lemmas.List.{length-replicate}
use Rattle.outside_io.specs.StoredBlocks.{spoiled_block}

pub length-spoiled_block : length spoiled_block ≡ 4096
unfolding spoiled_block
length-spoiled_block = length-replicate {A = ℕ} 4096 0xEE
