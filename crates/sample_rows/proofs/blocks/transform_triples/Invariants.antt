use Rattle.std.proofs.Common.{◌*◌}
use Rattle.sample_rows.specs.Groups.{MapsTriples}
use Rattle.sample_rows.proofs.blocks.transform_triples.Given as goal

abbrev pub invariant-loop-block : goal.invariant-loop-block
invariant-loop-block g l =
    let K = g.K.TripleKernel in
    MapsTriples K.first K.second K.third K.to (l.block * K.count) (K.value l.kernel) l.a l.b l.c l.dst
