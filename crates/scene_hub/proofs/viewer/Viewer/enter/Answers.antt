use Rattle.std.proofs.Common.{◌∙◌}
use Rattle.left_right.specs.Sides.{view}
use Rattle.scene_hub.specs.HubList.{ComesBefore}
use Rattle.scene_hub.proofs.HubSteps.{has_itself, newer_prefix, scenes_grow, seen_before}
use Rattle.scene_hub.proofs.viewer.Viewer.enter.Goals as goal

pub invariant_of-self : goal.invariant_of-self
invariant_of-self g c = let self = c.args.self.now in record { shown = self.shown; has_seen = c.glance.ensures.later self.showing.list self.has_seen; one_hub = self.one_hub }

pub compare-requires : goal.compare-requires
compare-requires g c =
    let self = c.args.self.now in
    let next = c.in_ok-next.next in
    let before : ComesBefore self.showing.list next.list = seen_before (view self.reader.place) next.list self.showing.list c.in_ok-next.ensures.shown.1 self.has_seen in
    (self.one_hub ∙ before.0, self.told.reached, c.in_ok-next.ensures.shown.0.0)

pub invariant_of-self-then-next-self : goal.invariant_of-self-then-next-self
invariant_of-self-then-next-self g c = let self = c.args.self.now in record { shown = self.shown; has_seen = c.glance.ensures.later self.showing.list self.has_seen; one_hub = self.one_hub }

pub invariant_of-self-3 : goal.invariant_of-self-3
invariant_of-self-3 g c =
    let self = c.args.self.now in
    let next = c.in_ok-next.next in
    let before : ComesBefore self.showing.list next.list = seen_before (view self.reader.place) next.list self.showing.list c.in_ok-next.ensures.shown.1 self.has_seen in
    record { shown = c.in_ok-next.ensures.shown.0; has_seen = has_itself _ next.list c.in_ok-next.ensures.seen; one_hub = self.one_hub ∙ before.0 }

pub returns-clause-seen : goal.returns-clause-seen
returns-clause-seen g c =
    let self = c.args.self.now in
    let next = c.in_ok-next.next in
    let shown = c.in_ok-next.ensures.shown.0 in
    let numbered = g.S.Numbered in
    let before : ComesBefore self.showing.list next.list = seen_before (view self.reader.place) next.list self.showing.list c.in_ok-next.ensures.shown.1 self.has_seen in (
      scenes_grow self.showing.list next.list self.shown.0 before,
      newer_prefix numbered.number_of numbered.follows numbered.rises self.told.list next.list self.told.number next.number c.compare.ensures self.told.follow shown.1 c.if-next-self.false,
    )
