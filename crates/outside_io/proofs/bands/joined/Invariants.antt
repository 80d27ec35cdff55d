use Rattle.std.proofs.Common.{ℕ, ◌++◌, List}
use Rattle.outside_io.proofs.bands.joined.Given as goal

abbrev pub invariant-loop-bytes : goal.invariant-loop-bytes
invariant-loop-bytes g l = (rest : List ℕ) → g.B.Bands.may_give l.bands rest → g.B.Bands.may_give l.initial.bands (l.bytes.items ++ rest)

abbrev pub decreases-loop-bytes : goal.decreases-loop-bytes
decreases-loop-bytes g l = g.B.Bands.left l.bands
