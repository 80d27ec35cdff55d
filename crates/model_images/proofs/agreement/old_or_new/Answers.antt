use Rattle.std.proofs.Common.{inl, inr, refl, sym}
use Rattle.model_images.proofs.Agreeing as laws
use Rattle.model_images.proofs.agreement.old_or_new.Goals as goal

pub returns-clause-old : goal.returns-clause-old
returns-clause-old c = λ old new. record { box = refl; format = refl; pixels = λ u v. inl (λ k. refl) }

pub returns-clause-new : goal.returns-clause-new
returns-clause-new c = λ old new r agreed. record { box = sym agreed.box; format = sym agreed.format; pixels = λ u v. inr (λ k. refl) }

pub returns-clause-outside : goal.returns-clause-outside
returns-clause-outside c = laws.old_or_new-outside
