-- The bytes of planes.
use Rattle.std.proofs.Common.{◌≡◌, ℕ, ◌*◌, ◌≤◌, ap, arith}
use Rattle.std.proofs.Math.Nat.{mul-le-mul}

-- planes of sixteen samples each
pub planes_bytes : (n bytes of_one depth : ℕ) → bytes ≡ n * of_one → of_one ≡ 16 * depth → bytes ≡ 16 * (n * depth)
planes_bytes n bytes of_one depth all whole = omega (arith, ap (λ k. n * k) whole)

pub few_bytes : (n bytes of_one : ℕ) → bytes ≡ n * of_one → of_one ≤ 64 → n ≤ 4 → bytes ≤ 256
few_bytes n bytes of_one all few planes = omega (arith, mul-le-mul planes few)
