use Rattle.std.proofs.Common.{refl, sym, ◌∙◌}
use Rattle.model_images.proofs.Agreeing as laws
use Rattle.model_images.proofs.agreement.agreement_everywhere.Goals as goal

pub returns-clause-itself : goal.returns-clause-itself
returns-clause-itself c = λ image. record { format = refl; samples = λ u v k. refl }

pub returns-clause-turned : goal.returns-clause-turned
returns-clause-turned c = λ a b agreed. record { format = sym agreed.format; samples = λ u v k. sym (agreed.samples u v k) }

pub returns-clause-through : goal.returns-clause-through
returns-clause-through c = λ a b other one two. record { format = one.format ∙ two.format; samples = λ u v k. one.samples u v k ∙ two.samples u v k }

pub returns-clause-equal : goal.returns-clause-equal
returns-clause-equal c = laws.everywhere-equal
