use Rattle.std.proofs.Common.{arith}
use Rattle.plain_images.proofs.WindowSamples.{max_sample-more}
use Rattle.plain_images.proofs.windows.Window.max_sample.Goals as goal

pub loop-index-preserved : goal.loop-index-preserved
loop-index-preserved c =
    let inside = c.loop-index-test.true in
    omega (arith, c.max-max_sample.ensures, c.get.ensures, c.loop-index.invariant, max_sample-more c.args.self.now c.loop-index.index (omega (arith, inside, c.len-index-end.ensures.value)))
