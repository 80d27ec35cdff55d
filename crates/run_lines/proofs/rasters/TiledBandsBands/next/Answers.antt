use Rattle.std.proofs.Common.{arith}
use Rattle.run_lines.proofs.BandWrites.{band-before, none-below}
use Rattle.run_lines.proofs.rasters.TiledBandsBands.next.Goals as goal

pub returns-then-self-bands-clause-gives : goal.returns-then-self-bands-clause-gives
returns-then-self-bands-clause-gives c = none-below c.args.self.now.tiled.now c.args.self.now.count (omega (arith, c.if-self-bands.true, c.bands.ensures))

pub returns-clause-gives : goal.returns-clause-gives
returns-clause-gives c = λ rest have.
    let made = c.in_ok-band.ensures in
    band-before c.args.self.now.tiled.now c.args.self.now.count c.in_ok-band.band c.into_raw.result.items rest
    made.rect made.format made.image c.into_raw.ensures.value c.into_raw.ensures.count have
