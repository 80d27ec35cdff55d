use Rattle.std.proofs.Common.{◌∷◌, [], ◌++◌, refl, sym, ap, ◌∙◌}
use Rattle.scene_hub.specs.SceneLog.{list_of}
use Rattle.scene_hub.proofs.LogLists.{list_after, appended_begins, appended_since}
use Rattle.scene_hub.proofs.Prefixes.{begins_trans}
use Rattle.scene_hub.proofs.scene_list.SceneList.append.Goals as goal

pub invariant_of-self : goal.invariant_of-self
invariant_of-self g c =
    let self = c.args.self.now in
    let since = appended_since self.whole.reached.log c.new_pen-next.new.log.log c.append_entry.new.log.log _ c.new_pen-next.ensures.log.1 c.append_entry.ensures.entry in
    let list = list_after self.whole.origin.log self.whole.reached.log c.append_entry.new.log.log _ self.reached.1 (ap (λ p. p.nib.key) c.replace-pen.ensures.value ∙ self.pen_is.2) since in
    let pen = c.new_pen-next.ensures.pen in
    let is = c.replace-pen.ensures.after in record {
      base_is = self.base_is;
      pen_is = (ap (λ p. p.book) is ∙ (pen.0 ∙ self.reached.0), ap (λ p. p.nib.right) is ∙ pen.1, sym (ap (λ l. l.0) list));
      reached = (
        c.append_entry.ensures.book ∙ (c.new_pen-next.ensures.log.0 ∙ self.reached.0),
        begins_trans self.whole.origin.log self.whole.reached.log _ self.reached.1 (appended_begins self.whole.reached.log c.append_entry.new.log.log _ since),
      );
    }

pub returns-clause-appended : goal.returns-clause-appended
returns-clause-appended g c =
    let self = c.args.self.now in
    let since = appended_since self.whole.reached.log c.new_pen-next.new.log.log c.append_entry.new.log.log _ c.new_pen-next.ensures.log.1 c.append_entry.ensures.entry in
    let list = list_after self.whole.origin.log self.whole.reached.log c.append_entry.new.log.log _ self.reached.1 (ap (λ p. p.nib.key) c.replace-pen.ensures.value ∙ self.pen_is.2) since in
    ap (λ l. l.1) list ∙ ap (λ s. (list_of self.whole.origin.log self.whole.reached.log).1 ++ s ∷ []) c.of-scene.ensures

pub returns-clause-later : goal.returns-clause-later
returns-clause-later g c =
    let self = c.args.self.now in
    let since = appended_since self.whole.reached.log c.new_pen-next.new.log.log c.append_entry.new.log.log _ c.new_pen-next.ensures.log.1 c.append_entry.ensures.entry in
    (refl, appended_begins self.whole.reached.log c.append_entry.new.log.log _ since)
