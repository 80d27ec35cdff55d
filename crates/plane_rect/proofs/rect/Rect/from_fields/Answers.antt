use Rattle.std.proofs.Common.{◌≡◌, ℤ, ap, arith, to_z, of_z, w32, w64}
use Rattle.std.proofs.lemmas.Int.{ints, to_z-of_z}
use Rattle.plane_rect.specs.Rectangle.{IsCoordinate}
use Rattle.plane_rect.proofs.Rectangles.{fields, rectangle-placed}
use Rattle.plane_rect.proofs.rect.Rect.from_fields.Goals as goal

narrowed : (z : ℤ) → IsCoordinate z → to_z w32 (of_z w32 (to_z w64 (of_z w64 z))) ≡ z
narrowed z p = omega (arith, ints)

pub invariant_of-result-2 : goal.invariant_of-result-2
invariant_of-result-2 c =
    rw (narrowed c.args.x c.requires.begins.0, narrowed c.args.y c.requires.begins.1, to_z-of_z w64 c.args.w c.ranges.w, to_z-of_z w64 c.args.h c.ranges.h)
    (fields c.args.x c.args.y c.args.w c.args.h c.requires.begins c.requires.ends
    (λ e. c.if-w-eq0.false (ap (of_z w64) e)) (λ e. c.if-h-eq0.false (ap (of_z w64) e)))

pub returns : goal.returns
returns c =
    rw (narrowed c.args.x c.requires.begins.0, narrowed c.args.y c.requires.begins.1, to_z-of_z w64 c.args.w c.ranges.w, to_z-of_z w64 c.args.h c.ranges.h)
    (rectangle-placed c.args.x c.args.y c.args.w c.args.h
    (λ e. c.if-w-eq0.false (ap (of_z w64) e)) (λ e. c.if-h-eq0.false (ap (of_z w64) e)))
