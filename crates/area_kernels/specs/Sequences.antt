-- What is made of the first numbers of a sequence.
use Rattle.std.specs.Prelude.{◌≡◌, ℕ, zero, suc, ◌+◌, ◌/◌}

-- the sum of the first n numbers of a sequence
abbrev pub sum_of : ℕ → (ℕ → ℕ) → ℕ
sum_of zero f = 0
sum_of (suc n) f = sum_of n f + f n

-- the mean of so many numbers of which the sum is given, rounded to the nearest
abbrev pub mean_sum : ℕ → ℕ → ℕ
mean_sum count sum = (sum + count / 2) / count

-- what is picked of the first n numbers of a sequence, and of its first number where n is 0
abbrev pub best : (ℕ → ℕ → ℕ) → ℕ → (ℕ → ℕ) → ℕ
best pick zero f = f 0
best pick (suc n) f = pick (best pick n f) (f n)

-- one of two numbers is picked, and neither their order nor how often a number is there matters, as with the max and
-- the min
pub record Picks (pick : ℕ → ℕ → ℕ) : Type 0 where
  pub associative : (a b c : ℕ) → pick (pick a b) c ≡ pick a (pick b c)
  pub commutative : (a b : ℕ) → pick a b ≡ pick b a
  pub idempotent : (a : ℕ) → pick a a ≡ a
