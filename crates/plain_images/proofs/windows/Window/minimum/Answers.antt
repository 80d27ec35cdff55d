use Rattle.std.proofs.Common.{arith}
use Rattle.plain_images.proofs.WindowSamples.{minimum-more}
use Rattle.plain_images.proofs.windows.Window.minimum.Goals as goal

pub loop-index-preserved : goal.loop-index-preserved
loop-index-preserved c =
    let inside = c.loop-index-test.true in
    let some = c.loop-index.auto.index in
    omega (
      arith,
      c.min-minimum.ensures,
      c.get.ensures,
      c.loop-index.invariant,
      minimum-more c.args.self.now c.loop-index.index (omega (arith, some)) (omega (arith, inside, c.len-count.ensures.value)),
    )
