use Rattle.std.proofs.Common.{get_or, None, sym, ap, ◌∙◌, ◌%◌}
use Rattle.name_maps.proofs.PageLaws.{names_of-get, values_of, no_page}
use Rattle.name_maps.proofs.name_pages.NamePages.get.Goals as goal

pub returns-in-Some : goal.returns-in-Some
returns-in-Some g c = rw (← c.self.view_is) (
    c.value_in.ensures ∙ ap (λ items. get_or items c.index_of.result None) c.deref.ensures.value
    ∙ ap (λ k. get_or c.in-Some.page.now.items k None) c.index_of.ensures
    ∙ ap (λ found. get_or (values_of found) (c.args.name % 32) None) c.in-Some.ensures.value
    ∙ sym (names_of-get c.self.inside.pages.entries c.args.name))

pub returns-in-None : goal.returns-in-None
returns-in-None g c = rw (← c.self.view_is) (no_page c.self.inside.pages.entries c.args.name c.in-None.ensures.value)
