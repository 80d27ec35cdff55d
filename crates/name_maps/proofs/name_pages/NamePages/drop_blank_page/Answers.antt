use Rattle.std.proofs.Common.{◌≡◌, None, get_or, sym, ap, ◌∙◌}
use Rattle.std.proofs.lemmas.Bool.{false≢true}
use Rattle.name_maps.specs.Pages.{names_of}
use Rattle.name_maps.proofs.PageLaws.{dropped_page, values_of}
use Rattle.name_maps.proofs.name_pages.NamePages.drop_blank_page.Goals as goal
use Rattle.name_maps.proofs.name_pages.NamePages.drop_blank_page.Goals.{in-Some, in-None, in-Some-1, in-None-1}

pub returns-then-blank : goal.returns-then-blank
returns-then-blank g c =
    let dropped : names_of c.remove.new.self.entries ≡ c.args.self.now =
    rw (← c.self.view_is) (elim c.match-get.branch [
      | in-Some w ↦
          dropped_page c.self.inside.pages.entries c.remove.new.self.entries c.args.number
          (rw w.self-inside-is at c.remove.ensures.updates.0)
          (λ i. ap (λ found. get_or (values_of found) i None) (sym w.in-Some.ensures.value)
          ∙ ap (λ items. get_or items i None) (sym w.deref.ensures.value)
          ∙ w.is_blank-blank.ensures (sym w.blank-is ∙ c.if-blank.true) i)
      | in-None w ↦ absurd (false≢true (sym w.blank-is ∙ c.if-blank.true))
    ]) in
    elim c.match-remove.branch [ in-Some-1 w ↦ w.self-is ∙ dropped | in-None-1 w ↦ w.self-is ∙ dropped ]
