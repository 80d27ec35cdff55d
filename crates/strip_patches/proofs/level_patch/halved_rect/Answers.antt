use Rattle.std.proofs.Common.{◌≡◌, sym, ap, ◌∙◌, subst, arith}
use Rattle.plane_rect.specs.Rectangle.{InLimits, halved}
use Rattle.model_images.specs.Level.{level_box}
use Rattle.strip_patches.proofs.Adding.{InLimits-level_box, box-next}
use Rattle.strip_patches.proofs.level_patch.halved_rect.Goals as goal

pub loop-round-preserved : goal.loop-round-preserved
loop-round-preserved c = c.halved-halved.ensures.value ∙ ap halved c.loop-round.invariant ∙ sym (box-next c.args.rect c.loop-round._round)

pub returns : goal.returns
returns c =
    let all : c.loop-round._round ≡ c.args.times = omega arith in
    let value : c.loop-round.halved ≡ level_box c.args.rect c.args.times = c.loop-round.invariant ∙ ap (level_box c.args.rect) all in
    record {
      value = value;
      limits = subst InLimits (sym value) (InLimits-level_box c.args.rect c.args.times c.requires.rectangle c.requires.limits);
    }
