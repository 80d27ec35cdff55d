use Rattle.std.proofs.Common.{sym, subst, ◌∙◌}
use Rattle.plane_rect.specs.Rectangle.{Inside, Rectangle}
use Rattle.model_images.proofs.PolicyLaws.{abyss_at-inside, abyss_at-outside}
use Rattle.plain_images.proofs.policies.read_at.Goals as goal

pub returns-then-has_position-clause-value : goal.returns-then-has_position-clause-value
returns-then-has_position-clause-value c =
    let there : Inside c.args.column c.args.row c.args.picture.now.box =
    subst (λ (r : Rectangle). Inside c.args.column c.args.row r) c.rect.ensures.value (c.has_position.ensures.0 c.if-has_position.true) in
    c.at.ensures.value ∙ sym (abyss_at-inside c.args.picture.now c.args.policy c.args.column c.args.row c.args.channel there)

pub returns-else-has_position-clause-value : goal.returns-else-has_position-clause-value
returns-else-has_position-clause-value c =
    let out : ¬ Inside c.args.column c.args.row c.args.picture.now.box =
    λ there. cc (c.has_position.ensures.1 (subst (λ (r : Rectangle). Inside c.args.column c.args.row r) (sym c.rect.ensures.value) there), c.if-has_position.false) in
    c.outside_at.ensures.value ∙ sym (abyss_at-outside c.args.picture.now c.args.policy c.args.column c.args.row c.args.channel out)
