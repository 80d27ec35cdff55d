use Rattle.std.proofs.Common.{◌∙◌, sym}
use Rattle.view_reads.proofs.ReadParts.{own-policy}
use Rattle.view_reads.proofs.policies.under_policy.Goals as goal

pub returns-then-eq : goal.returns-then-eq
returns-then-eq c =
    own-policy c.args.part c.args.abyss c.args.rect c.rect.ensures.whole (sym c.rect.ensures.value ∙ c.eq.ensures.same.0 c.if-eq.true)
