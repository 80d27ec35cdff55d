use Rattle.int_ops.proofs.kit.IntKitOpKit.apply.Goals as goal

pub apply-requires-clause-part : goal.apply-requires-clause-part
apply-requires-clause-part c = rw (c.in-Some.ensures.area, c.requires.boxes) at c.requires.part

pub apply-requires-in-None-clause-part : goal.apply-requires-in-None-clause-part
apply-requires-in-None-clause-part c = rw c.requires.boxes at c.requires.part

pub returns-in-Some : goal.returns-in-Some
returns-in-Some c = rw c.in-Some.ensures.area c.apply.ensures
