use Rattle.test_renders.proofs.ReadyLaws.{over-beside, ready-beside}
use Rattle.test_renders.proofs.changes.fill.Goals as goal

pub returns-in_err-fill-clause-over : goal.returns-in_err-fill-clause-over
returns-in_err-fill-clause-over g c =
    over-beside _ _ _ _ _ c.fill.ensures.over
    (c.stores_are_unchanged.ensures.over c.args.cache.now _ _ _ _ c.fill.ensures.left.others c.requires.over.owned c.requires.over.cache)
    c.fill.ensures.left.others c.requires.over.owned

pub returns-in_err-fill-clause-ready : goal.returns-in_err-fill-clause-ready
returns-in_err-fill-clause-ready g c =
    ready-beside _ _ _ _ _ _ c.in_err-fill.ensures.layout
    (c.stores_are_unchanged.ensures.sizes c.args.cache.now _ _ _ _ c.fill.ensures.left.others c.requires.over.owned) c.requires.ready

pub returns-clause-over : goal.returns-clause-over
returns-clause-over g c =
    over-beside _ _ _ _ _ c.fill.ensures.over
    (c.stores_are_unchanged.ensures.over c.args.cache.now _ _ _ _ c.fill.ensures.left.others c.requires.over.owned c.requires.over.cache)
    c.fill.ensures.left.others c.requires.over.owned

pub returns-clause-ready : goal.returns-clause-ready
returns-clause-ready g c =
    ready-beside _ _ _ _ _ _ c.in_ok-fill.ensures.layout
    (c.stores_are_unchanged.ensures.sizes c.args.cache.now _ _ _ _ c.fill.ensures.left.others c.requires.over.owned) c.requires.ready
