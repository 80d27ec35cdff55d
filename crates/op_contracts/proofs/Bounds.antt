-- The boxes of results, where they are in limits.
use Rattle.std.proofs.Common.{◌≡◌, Bool, true, false, cond, List, Option, Some, None, refl, ap, arith, subst}
use Rattle.std.specs.Prelude.{IsSomeAnd, unwrap_or}
use Rattle.std.specs.Option.{option_and_then}
use Rattle.std.proofs.lemmas.Bool.Decides.{nat_tests}
use Rattle.plane_rect.specs.Rectangle.{InLimits, Rectangle, empty, in_limits}
use Rattle.model_graphs.specs.Meanings.{Meanings, result_box}
use Rattle.op_contracts.specs.Applying.{bounds_of}

limits-from : (r : Rectangle) → in_limits r ≡ true → InLimits r
limits-from r h = grind (arith, nat_tests)

limits-true : (r : Rectangle) → InLimits r → in_limits r ≡ true
limits-true r h = grind (arith, nat_tests)

-- a box that is given is in limits, and the only one
abbrev limited : Option Rectangle → Option Rectangle
limited found = option_and_then (λ box. cond (in_limits box) (Some box) None) found

given-if : (b : Bool) (q box : Rectangle) → in_limits q ≡ b → cond b (Some q) None ≡ Some box → (q ≡ box) × InLimits box
given-if true q box known e = let is : q ≡ box = cc in (is, subst InLimits is (limits-from q known))
given-if false q box known e = absurd (cc e)

given : (found : Option Rectangle) (box : Rectangle) → limited found ≡ Some box → (unwrap_or found empty ≡ box) × InLimits box
given None box e = absurd (cc e)
given (Some q) box e = given-if (in_limits q) q box refl e

limited-all : (found : Option Rectangle) → IsSomeAnd found InLimits → limited found ≡ found
limited-all None none = absurd none
limited-all (Some q) limits = ap (λ b. cond b (Some q) None) (limits-true q limits)

module _ {Op : Type 0} (meanings : Meanings Op) (operation : Op) (boxes : List Rectangle) where
  pub bounds-box : (box : Rectangle) → bounds_of meanings operation boxes ≡ Some box → result_box meanings operation boxes ≡ box
  bounds-box box e = (given (meanings.box operation boxes) box e).0

  pub bounds-limits : (box : Rectangle) → bounds_of meanings operation boxes ≡ Some box → InLimits box
  bounds-limits box e = (given (meanings.box operation boxes) box e).1

  pub bounds-valid : IsSomeAnd (meanings.box operation boxes) InLimits → bounds_of meanings operation boxes ≡ meanings.box operation boxes
  bounds-valid limits = limited-all (meanings.box operation boxes) limits
