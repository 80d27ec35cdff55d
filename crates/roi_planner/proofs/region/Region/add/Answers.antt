use Rattle.std.proofs.Common.{[], ◌∷◌, ◌++◌, sym, subst}
use Rattle.plane_rect.specs.Rectangle.{Rectangle}
use Rattle.roi_planner.specs.Asked.{MeetSameTiles}
use Rattle.roi_planner.proofs.Joined.{joined-last}
use Rattle.roi_planner.proofs.region.Region.add.Goals as goal

pub loop-last-preserved : goal.loop-last-preserved
loop-last-preserved c =
    let all = c.args.self.now ++ c.args.rect ∷ [] in
    let left = c.pop_joined.new.self in
    subst (λ (r : Rectangle). MeetSameTiles (left ++ r ∷ []) all) (sym c.hull-joined.ensures.value)
    (joined-last c.loop-last.self left all c.in-Some.last c.loop-last.joined c.in-Some.ensures.last c.in-Some.ensures.joined c.loop-last.invariant)
