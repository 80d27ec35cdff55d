use Rattle.std.proofs.Common.{◌≡◌, ap, sym, subst, fold, ◌∙◌}
use Rattle.scene_hub.specs.declared.showing.Shown.{Shown}
use Rattle.scene_hub.specs.HubList.{ComesBefore}
use Rattle.scene_hub.specs.HubRule.{IsLast, shown_of}
use Rattle.scene_hub.proofs.HubSteps.{turns}
use Rattle.scene_hub.proofs.showings.turn.Goals as goal

pub publish_as-writer-requires : goal.publish_as-writer-requires
publish_as-writer-requires g c next is =
    let now = c.args.writer.desk.shown.value in
    let op = c.args.next.now.value in
    let e : shown_of next ≡ shown_of op = is ∙ ap (fold (λ before next'. shown_of next') (shown_of now)) c.requires.queued in
    let shown = subst (λ (t : Shown g.row.S.Denot). IsLast g.S.Numbered.number_of g.S.Numbered.follows t.list t.scene t.number) (sym e) c.requires.shown in
    let later = subst (λ (t : Shown g.row.S.Denot). ComesBefore now.list t.list) (sym e) c.requires.later in
    turns g.S.Numbered.number_of g.S.Numbered.follows _ _ now next (λ _. shown) later
