use Rattle.std.proofs.Common.{◌/◌, arith}
use Rattle.area_kernels.proofs.CopiedSamples.{AreCopied-bytes}
use Rattle.area_kernels.proofs.rows.copy_samples.Goals as goal

pub returns-clause-here : goal.returns-clause-here
returns-clause-here g c =
    (AreCopied-bytes g.L.Lanes.depth (c.BYTES-bytes.result / 16) c.args.first c.args.at c.args.count c.args.from.now c.args.to.now c.copy_from_slice.new.self
    (omega (arith, c.BYTES-bytes.ensures, g.met.L.Lanes.sixteen)) c.requires.read c.requires.written c.copy_from_slice.ensures.after).0

pub returns-clause-before : goal.returns-clause-before
returns-clause-before g c =
    (AreCopied-bytes g.L.Lanes.depth (c.BYTES-bytes.result / 16) c.args.first c.args.at c.args.count c.args.from.now c.args.to.now c.copy_from_slice.new.self
    (omega (arith, c.BYTES-bytes.ensures, g.met.L.Lanes.sixteen)) c.requires.read c.requires.written c.copy_from_slice.ensures.after).1
