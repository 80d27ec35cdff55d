use Rattle.std.proofs.Common.{◌∙◌, rules, tests}
use Rattle.std.proofs.lemmas.Iterator.Adapters.{YieldsList-from_rev_slice}
use Rattle.std.proofs.lemmas.Iterator.Consumers.{fold_from_yields_List}
use Rattle.plane_rect.specs.Rectangle.{Rectangle, empty, hull}
use Rattle.roi_planner.proofs.Hulls.{hull_of-folded}
use Rattle.roi_planner.proofs.region.hull_of.Goals as goal

pub returns : goal.returns
returns c =
    let rects = c.args.rects.now in
    fold_from_yields_List _ (λ (h r : Rectangle). hull r h) empty c.fold.result c.fold.ensures.ran (YieldsList-from_rev_slice rects cc) (λ a x b q k. search (rules, tests))
    ∙ hull_of-folded rects
