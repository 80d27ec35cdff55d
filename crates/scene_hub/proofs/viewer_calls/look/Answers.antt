use Rattle.std.proofs.Common.{◌≡◌, ap, sym, subst, ◌∙◌}
use Rattle.left_right.specs.Sides.{view}
use Rattle.scene_hub.specs.declared.showing.Shown.{Shown}
use Rattle.scene_hub.specs.HubRule.{HasSeen, IsSeen, IsLast, shown_of}
use Rattle.scene_hub.proofs.HubSteps.{turns, comes_same, seen_grows}
use Rattle.scene_hub.proofs.viewer_calls.look.Goals as goal

pub enter_as-requires : goal.enter_as-requires
enter_as-requires g c x = turns g.S.Numbered.number_of g.S.Numbered.follows _ _ x x (λ shown. shown) (comes_same x.list)

pub returns-in-Ok-share-clause-later : goal.returns-in-Ok-share-clause-later
returns-in-Ok-share-clause-later g c p h =
    let step = c.in-Ok.ensures in
    seen_grows (view c.args.reader.place) (view c.leave-reader.result.place) c.in-Ok.reading.part.value.list p step.1.1 (c.leave-reader.ensures.1 ∙ step.1.2) h

pub returns-in-Ok-share-clause-shown : goal.returns-in-Ok-share-clause-shown
returns-in-Ok-share-clause-shown g c =
    let step = c.in-Ok.ensures in
    let e : shown_of c.in-Ok-share.next ≡ shown_of c.in-Ok.reading.part.value = c.in-Ok-share.ensures ∙ ap shown_of c.get.ensures in (
      subst (λ (t : Shown g.row.S.Denot). IsLast g.S.Numbered.number_of g.S.Numbered.follows t.list t.scene t.number) (sym e) step.1.0,
      subst (λ (t : Shown g.row.S.Denot). IsSeen t.list (view c.args.reader.place)) (sym e) step.1.1,
    )

pub returns-in-Err-share-clause-later : goal.returns-in-Err-share-clause-later
returns-in-Err-share-clause-later g c p h =
    let step = c.in-Ok.ensures in
    seen_grows (view c.args.reader.place) (view c.leave-reader.result.place) c.in-Ok.reading.part.value.list p step.1.1 (c.leave-reader.ensures.1 ∙ step.1.2) h

pub returns-in-Err-clause-later : goal.returns-in-Err-clause-later
returns-in-Err-clause-later g c p h = subst (λ v. HasSeen v p) (sym c.in-Err.ensures.1) h
