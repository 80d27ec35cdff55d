use Rattle.model_images.proofs.agreement.weaker_agreements.Goals as goal

pub returns-clause-elsewhere : goal.returns-clause-elsewhere
returns-clause-elsewhere c = λ a b r agreed. record { format = agreed.format; samples = agreed.samples }

pub returns-clause-everywhere : goal.returns-clause-everywhere
returns-clause-everywhere c = λ a b r agreed nowhere. record { format = agreed.format; samples = λ u v k. agreed.samples u v k (nowhere u v) }
