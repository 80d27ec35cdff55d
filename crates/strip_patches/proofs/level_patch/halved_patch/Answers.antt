use Rattle.std.proofs.Common.{◌≡◌, sym, ap, ◌∙◌, arith}
use Rattle.model_images.specs.Level.{halved_image, level}
use Rattle.model_images.proofs.LevelLaws.{level-next, level-zero}
use Rattle.strip_patches.proofs.level_patch.halved_patch.Goals as goal

pub loop-round-init : goal.loop-round-init
loop-round-init c = sym (level-zero c.args.patch)

pub loop-round-preserved : goal.loop-round-preserved
loop-round-preserved c = c.in_ok-halved.ensures ∙ ap halved_image c.loop-round.invariant ∙ sym (level-next c.args.patch c.loop-round._round)

pub returns : goal.returns
returns c =
    let all : c.loop-round._round ≡ c.args.times = omega arith in
    c.loop-round.invariant ∙ ap (level c.args.patch) all
