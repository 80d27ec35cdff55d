-- Blocks in memory.
use Rattle.std.specs.Prelude.{ℕ, List, replicate}
use Rattle.outside_io.specs.Swap.{Blocks}

-- 4,096 zeros
unfoldable pub zero_block : List ℕ
zero_block = replicate 4096 0

-- 4,096 times EE, which a write that fails leaves
unfoldable pub spoiled_block : List ℕ
spoiled_block = replicate 4096 0xEE

-- this many blocks of zeros
abbrev pub zero_blocks : ℕ → Blocks
zero_blocks count = replicate count zero_block
