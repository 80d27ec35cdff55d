-- What the max and the min have in common.
use Rattle.std.specs.Prelude.{max, min}
use Rattle.std.proofs.Common.{arith}
use Rattle.area_kernels.specs.Sequences.{Picks}

pub max-Picks : Picks max
max-Picks = record { associative = λ a b c. omega arith; commutative = λ a b. omega arith; idempotent = λ a. omega arith }

pub min-Picks : Picks min
min-Picks = record { associative = λ a b c. omega arith; commutative = λ a b. omega arith; idempotent = λ a. omega arith }
