-- The tiles of the tests.
use Rattle.std.specs.Prelude.{◌≡◌, ℕ, Some}
use Rattle.chain_owners.specs.Held.{Held, length_of}

-- each of these tiles has 4,096 bytes
abbrev pub ArePages : Held → Type 0
ArePages held = (name len : ℕ) → length_of held name ≡ Some len → len ≡ 4096

-- Pages of a chain that a program can reach.
pub record HasPages (held : Held) (valid : Type 0) : Type 0 where
  pub pages : ArePages held
  pub reachable : valid
