use Rattle.std.proofs.Common.{◌≡◌}
use Rattle.pixel_formats.specs.declared.format.Format.TheVariants.{Y8}
use Rattle.test_sessions.proofs.strips.levels.check_level.Given as goal

abbrev pub invariant-loop-strip : goal.invariant-loop-strip
invariant-loop-strip g l = l.made.patch.format ≡ Y8
