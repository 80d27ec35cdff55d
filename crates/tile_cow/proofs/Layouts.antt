-- How many bytes a block takes, and how it is aligned.
use mathlib.Core.Path.{◌≡◌, refl, ap, ◌∙◌}
use Prim.Native.Nat.{ℕ, ◌+◌, ◌*◌, ◌/◌, ◌≤◌}
use native.Mathlib.Omega.{arith}
use prog.Memory.{size, align, capped}
use prog.Capped.{capped_is}
use Rattle.tile_cow.specs.Block.{block_type}

block_bytes : (n : ℕ) → size (block_type n) ≡ (n + 23) / 8 * 8
block_bytes n = omega arith

pub block_size : (n : ℕ) → n ≤ 65536 → capped (size (block_type n)) ≡ (n + 23) / 8 * 8
block_size n few = ap capped (block_bytes n) ∙ capped_is ((n + 23) / 8 * 8) (omega arith)

pub block_align : (n : ℕ) → capped (align (block_type n)) ≡ 8
block_align n = refl
