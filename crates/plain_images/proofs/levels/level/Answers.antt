use Rattle.std.proofs.Common.{sym, ap, ◌∙◌}
use Rattle.model_images.proofs.LevelLaws.{level-next, level-zero}
use Rattle.model_images.specs.Level.{halved_image}
use Rattle.plain_images.proofs.levels.level.Goals as goal

pub loop-halving-init : goal.loop-halving-init
loop-halving-init c = c.in_ok-reduced.ensures ∙ sym (level-zero c.args.picture.now)

pub loop-halving-preserved : goal.loop-halving-preserved
loop-halving-preserved c =
    c.in_ok-reduced-2.ensures ∙ ap halved_image c.loop-halving.invariant ∙ sym (level-next c.args.picture.now c.loop-halving._halving)
