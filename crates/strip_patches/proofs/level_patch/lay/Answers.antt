use Rattle.std.proofs.Common.{◌≡◌, sym, ◌∙◌}
use Rattle.strip_patches.proofs.Adding.{painted-all}
use Rattle.strip_patches.proofs.level_patch.lay.Goals as goal

pub returns-then-eq : goal.returns-then-eq
returns-then-eq c =
    let same : c.rect.result ≡ c.rect-2.result = c.eq.ensures.same.0 c.if-eq.true in
    painted-all c.args.patch.now c.args.part (sym c.rect.ensures.value ∙ same ∙ c.rect-2.ensures.value) c.requires c.rect.ensures.whole
