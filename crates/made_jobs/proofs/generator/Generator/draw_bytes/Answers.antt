use Rattle.std.proofs.Common.{arith}
use Rattle.made_jobs.proofs.Draws.{drawn_all, drawn_on}
use Rattle.made_jobs.proofs.generator.Generator.draw_bytes.Goals as goal

pub loop-draw-preserved : goal.loop-draw-preserved
loop-draw-preserved c =
    rw (c.in_ok-push.ensures.items, c.draw.ensures.drawn, c.draw.ensures.state)
    (drawn_on c.args.count c.loop-draw._draw c.loop-draw.self.state _ c.loop-draw.bytes.items (omega arith) c.loop-draw.invariant)

pub returns : goal.returns
returns c = drawn_all c.args.count c.loop-draw._draw c.loop-draw.self.state _ c.loop-draw.bytes.items c.loop-draw-test.false c.loop-draw.invariant
