use Rattle.std.proofs.Common.{Err, ap}
use Rattle.outside_io.proofs.BandLemmas.{unmade_fails, unmade_leaves}
use Rattle.outside_io.proofs.shelf.Shelf.write_bands.Goals as goal

pub returns-in_err-bytes-clause-leaves : goal.returns-in_err-bytes-clause-leaves
returns-in_err-bytes-clause-leaves g c =
    unmade_leaves (g.B.Bands.may_give c.args.bands.now) (g.Self.Shelf.files c.args.self.now) c.args.name.now c.in_err-bytes.field-0.0
    c.from_residual.result c.from_residual.ensures.1 (λ is. c.in_err-bytes.ensures.no_device (ap Err is))

pub returns-in_err-bytes-clause-failed : goal.returns-in_err-bytes-clause-failed
returns-in_err-bytes-clause-failed g c =
    unmade_fails _ c.in_err-bytes.field-0.0 c.from_residual.result c.from_residual.ensures.1 (λ is. c.in_err-bytes.ensures.no_device (ap Err is))
