-- Parts of a result to which one of two inputs alone contributes.
use Rattle.std.specs.Prelude.{ℕ, zero, suc}
use Rattle.plane_rect.specs.Rectangle.{AreDisjoint, Includes, Rectangle}

-- The one of two boxes of this number contains a part of which the other has no position.
abbrev pub IsLone : Rectangle → Rectangle → Rectangle → ℕ → Type 0
IsLone first second part zero = Includes first part × AreDisjoint second part
IsLone first second part (suc zero) = Includes second part × AreDisjoint first part
IsLone first second part (suc (suc n)) = ⊥
