use Rattle.std.proofs.Common.{◌≡◌, Some, ap, sym, ◌∙◌, subst}
use Rattle.left_right.specs.Sides.{view}
use Rattle.scene_hub.specs.declared.showing.Shown.{Shown}
use Rattle.scene_hub.specs.HubRule.{IsLast, shown_of}
use Rattle.scene_hub.proofs.HubSteps.{admits, forks, merges, has_itself}
use Rattle.scene_hub.proofs.editor.Editor.viewer.Goals as goal

pub reader-requires : goal.reader-requires
reader-requires g c = admits g.S.Numbered.number_of g.S.Numbered.follows

pub tell-requires : goal.tell-requires
tell-requires g c = forks g.S.Numbered.number_of g.S.Numbered.follows _ _

pub learn-requires-clause-rule : goal.learn-requires-clause-rule
learn-requires-clause-rule g c = merges g.S.Numbered.number_of g.S.Numbered.follows _ _ _ _

pub invariant_of-result : goal.invariant_of-result
invariant_of-result g c =
    let self = c.args.self.now in
    let showing = c.in_ok-showing.showing in
    let e : shown_of showing ≡ shown_of c.args.shown.now = c.in_ok-showing.ensures in
    let list = self.shown ∙ (sym c.requires.1 ∙ sym (ap (λ (t : Shown g.row.S.Denot). t.list) e)) in
    let seen = c.learn.ensures.1 ∙ (c.tell.ensures.given.1 ∙ (self.publisher.seen ∙ ap Some list)) in record {
      shown = subst (λ (t : Shown g.row.S.Denot). IsLast g.S.Numbered.number_of g.S.Numbered.follows t.list t.scene t.number) (sym e) c.requires.0;
      has_seen = has_itself (view c.learn.new.self.place) showing.list seen;
      one_hub = ap (λ p. p.origin) c.again.ensures;
    }
