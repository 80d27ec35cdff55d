-- How many whole blocks two rows of equally many groups have, and what is left after them. The blocks are counted in
-- the first row, of l bytes and groups of u; the other has m bytes and groups of v. A block has `count` groups.
use Rattle.std.proofs.Common.{◌≡◌, ℕ, ◌+◌, ◌*◌, ◌/◌, ◌%◌, ◌<◌, ◌≤◌, ap, ◌∙◌, arith}
use Rattle.std.proofs.Math.Nat.{mul-le-mul_left, mul-lt-mul_of_pos_left, mul-div_cancel, mul-div-mul_right, le-div_iff_mul-le, lt-div-mul-add}
use Rattle.std.proofs.lemmas.Nat.{div-add-mod'}

pub record HaveBlocks (l m u v count block other : ℕ) : Type 0 where
  pub whole : l % u ≡ 0
  pub whole_other : m % v ≡ 0
  pub same : m / v ≡ l / u
  pub some_u : 0 < u
  pub some_v : 0 < v
  pub some : 0 < count
  pub at_block : block ≡ count * u
  pub at_other : other ≡ count * v

module _ {l m u v count block other : ℕ} (have : HaveBlocks l m u v count block other) where
  abbrev n : ℕ
  n = l / u

  bytes_of_groups : l ≡ n * u
  bytes_of_groups = omega (arith, div-add-mod' l u)

  other_of_groups : m ≡ n * v
  other_of_groups = omega (arith, div-add-mod' m v, ap (λ k. k * v) have.same)

  blocks_of_groups : l / block ≡ n / count
  blocks_of_groups = ap (λ k. k / block) bytes_of_groups ∙ ap (λ k. n * u / k) have.at_block ∙ mul-div-mul_right n count have.some_u

  blocks_within : (b : ℕ) → b ≤ l / block → b * count ≤ n
  blocks_within b le = (le-div_iff_mul-le have.some).0 (omega (arith, blocks_of_groups))

  -- the other row has as many whole blocks
  pub begun : (b : ℕ) → b ≤ l / block → b * other ≤ m
  begun b le = omega (arith, mul-le-mul_left v (blocks_within b le), ap (λ k. b * k) have.at_other, other_of_groups)

  short_groups : n < (l / block + 1) * count
  short_groups = omega (arith, lt-div-mul-add {a = n} have.some, ap (λ k. k * count) blocks_of_groups)

  -- and less than a block after them
  pub short : m < (l / block + 1) * other
  short = omega (arith, mul-lt-mul_of_pos_left short_groups have.some_v, ap (λ k. (l / block + 1) * k) have.at_other, other_of_groups)

  -- the row of whole blocks alone
  pub whole_blocks : l % block ≡ 0 → n ≡ l / block * count
  whole_blocks none =
      let bytes : l ≡ l / block * count * u = omega (arith, div-add-mod' l block, ap (λ k. l / block * k) have.at_block) in
      ap (λ k. k / u) bytes ∙ mul-div_cancel (l / block * count) have.some_u
