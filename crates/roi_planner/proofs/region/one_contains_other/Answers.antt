use Rattle.roi_planner.proofs.Joined.{containing-joined, on-true}
use Rattle.roi_planner.specs.Asked.{HullIsUnion}
use Rattle.roi_planner.proofs.region.one_contains_other.Goals as goal

pub returns-else-contains : goal.returns-else-contains
returns-else-contains c =
    let a = c.args.a.now in
    let b = c.args.b.now in
    on-true c.contains-else-contains.result (HullIsUnion a b) (λ is. containing-joined a b (c.contains-else-contains.ensures.positions.0 is))
