use Rattle.std.proofs.Common.{◌≡◌, ◌*ℤ◌, ◌*◌, ◌%◌, ◌^◌, pos, arith, to_z, of_z, w64, ap, ◌∙◌}
use Rattle.std.proofs.lemmas.Int.{to_z-of_z, to_z_pos}
use Rattle.plane_rect.proofs.Moved.{factor, times-fits}
use Rattle.plane_rect.proofs.moves.times.Goals as goal

pub overflow_mul-result : goal.overflow_mul-result
overflow_mul-result c =
    let small = factor c.args.level c.requires.level in
    let f : to_z w64 ((1 * 2 ^ c.args.level) % 2 ^ 64) ≡ pos (2 ^ c.args.level) = ap (to_z w64) small.0 ∙ to_z_pos w64 (2 ^ c.args.level) (omega (arith, small.1)) in
    let n : to_z w64 (of_z w64 c.args.n) ≡ c.args.n = to_z-of_z w64 c.args.n c.ranges.n in
    rw (n, f) (times-fits c.args.n c.args.level c.requires.level c.requires.size)

pub returns : goal.returns
returns c =
    let small = factor c.args.level c.requires.level in
    let f : to_z w64 ((1 * 2 ^ c.args.level) % 2 ^ 64) ≡ pos (2 ^ c.args.level) = ap (to_z w64) small.0 ∙ to_z_pos w64 (2 ^ c.args.level) (omega (arith, small.1)) in
    let n : to_z w64 (of_z w64 c.args.n) ≡ c.args.n = to_z-of_z w64 c.args.n c.ranges.n in
    rw (n, f) (to_z-of_z w64 (c.args.n *ℤ pos (2 ^ c.args.level)) (times-fits c.args.n c.args.level c.requires.level c.requires.size))
