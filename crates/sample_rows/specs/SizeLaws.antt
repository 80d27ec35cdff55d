-- The bytes of groups and of blocks. A vector has sixteen samples.
use Rattle.std.proofs.Common.{◌≡◌, ℕ, zero, suc, ◌+◌, ◌*◌, ◌<◌, ◌≤◌, ap, arith}
use Rattle.std.proofs.Math.Nat.{mul-le-mul, mul-le-mul_left}
use Rattle.sample_rows.specs.Groups.{Blocks, groups}
use Rattle.simd_pixels.specs.Planes.{PlaneSizes}
use Rattle.simd_pixels.specs.SizeLaws.{planes_bytes}

-- a group of samples has bytes
some_bytes : (size depth : ℕ) → 0 < size → 0 < depth → 0 < size * depth
some_bytes size depth some_size some_depth = omega (arith, mul-le-mul_left depth some_size)

-- twice as many samples
pub twice_some : (n : ℕ) → 0 < n → 0 < 2 * n
twice_some n some = omega arith

-- how many groups a vector has, and how many samples a group
pub some_count : (count size : ℕ) → count * size ≡ 16 → 0 < count
some_count zero size sixteen = absurd (omega arith)
some_count (suc count) size sixteen = omega arith

some_size : (count size : ℕ) → count * size ≡ 16 → 0 < size
some_size count zero sixteen = absurd (omega arith)
some_size count (suc size) sixteen = omega arith

-- the lanes of a group
pub lane_index : (count size : ℕ) → count * size ≡ 16 → (k i : ℕ) → k < count → i < size → k * size + i < 16
lane_index count size sixteen k i lt within = omega (arith, mul-le-mul_left size lt)

module _ (bytes depth : ℕ) (whole : bytes ≡ 16 * depth) (few : bytes ≤ 64) (some_depth : 0 < depth) where
  -- blocks of one vector in groups
  pub vector_blocks : (count size : ℕ) → count * size ≡ 16 → Blocks bytes count (groups size depth)
  vector_blocks count size sixteen = record {
    some_group = some_bytes size depth (some_size count size sixteen) some_depth;
    whole = omega (arith, ap (λ n. n * depth) sixteen);
    few = omega arith;
  }

  -- of two vectors, in groups of twice the size
  pub pair_blocks : (count size : ℕ) → count * size ≡ 16 → Blocks (2 * bytes) count (groups (2 * size) depth)
  pair_blocks count size sixteen = record {
    some_group = some_bytes (2 * size) depth (twice_some size (some_size count size sixteen)) some_depth;
    whole = omega (arith, ap (λ n. n * depth) sixteen);
    few = omega arith;
  }

  -- of two vectors, in twice as many groups
  pub two_vectors_blocks : (count size : ℕ) → count * size ≡ 16 → Blocks (2 * bytes) (2 * count) (groups size depth)
  two_vectors_blocks count size sixteen = record {
    some_group = some_bytes size depth (some_size count size sixteen) some_depth;
    whole = omega (arith, ap (λ n. n * depth) sixteen);
    few = omega arith;
  }

  -- of n vectors, which sixteen groups of n samples fill
  pub vectors_blocks : (n all : ℕ) → all ≡ n * bytes → 0 < n → n ≤ 6 → Blocks all 16 (groups n depth)
  vectors_blocks n all is some n_few = record {
    some_group = some_bytes n depth some some_depth;
    whole = planes_bytes n all bytes depth is whole;
    few = omega (arith, is, mul-le-mul {n₁ = n} {m₁ = bytes} {n₂ = 6} {m₂ = 64} n_few few);
  }

  pub planes_blocks : (n all : ℕ) → PlaneSizes n bytes all → Blocks all 16 (groups n depth)
  planes_blocks n all sizes = vectors_blocks n all sizes.whole sizes.some_channels (omega (arith, sizes.few_channels))
