-- What follows where tests pass.
use Rattle.std.proofs.Common.{◌≡◌, Bool, true, ◌&&◌}
use Rattle.std.specs.Cmp.{first_so, second_so}

pub both : (a b : Bool) → (a && b) ≡ true → (a ≡ true) × (b ≡ true)
both a b h = (first_so a b h, second_so a b h)
