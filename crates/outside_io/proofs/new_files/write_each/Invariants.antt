use Rattle.std.specs.Prelude.{⊤}
use Rattle.outside_io.proofs.new_files.write_each.Given as goal

abbrev pub invariant-loop-file : goal.invariant-loop-file
invariant-loop-file g l = ⊤

abbrev pub decreases-loop-file : goal.decreases-loop-file
decreases-loop-file g l = g.B.Bands.left l.bands
