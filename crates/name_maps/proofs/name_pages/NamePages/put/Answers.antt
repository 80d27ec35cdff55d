use Rattle.std.proofs.Common.{Result, Ok, Err, OnErr, Some, refl}
use Rattle.std.proofs.lemmas.Result.{on_ok_weaker}
use Rattle.name_maps.proofs.PageLaws.{written_page, new_page, same_page}
use Rattle.name_maps.proofs.name_pages.NamePages.put.Goals as goal

pub returns-in-Some-clause-put : goal.returns-in-Some-clause-put
returns-in-Some-clause-put g c = rw (← c.self.view_is) (on_ok_weaker c.set_in.result (λ set.
    written_page c.self.inside.pages.entries (c.get_mut.follows.lender c.set_in.new.page).entries c.args.name c.index_of.result (Some c.args.value)
    c.in-Some.page.now c.set_in.new.page c.in-Some.ensures.value
    ((c.get_mut.follows.holds c.set_in.new.page).3 (rw (← c.in-Some.ensures.value) refl)).0 c.index_of.ensures set)
    c.set_in.ensures.set)

on_err_weaker : {A E P Q : Type 0} (r : Result A E) → (P → Q) → OnErr r P → OnErr r Q
on_err_weaker (Ok a) f p = tt
on_err_weaker (Err e) f p = f p

pub returns-in-Some-clause-unchanged : goal.returns-in-Some-clause-unchanged
returns-in-Some-clause-unchanged g c = rw (← c.self.view_is) (on_err_weaker c.set_in.result (λ same.
    same_page c.self.inside.pages.entries (c.get_mut.follows.lender c.set_in.new.page).entries _
    c.in-Some.page.now c.set_in.new.page c.in-Some.ensures.value
    ((c.get_mut.follows.holds c.set_in.new.page).3 (rw (← c.in-Some.ensures.value) refl)).0 same)
    c.set_in.ensures.unchanged)

pub returns-clause-put : goal.returns-clause-put
returns-clause-put g c = rw (← c.self.view_is)
    (new_page c.self.inside.pages.entries c.insert.new.self.entries c.args.name c.index_of-2.result c.args.value
    c.new-page.result c.set_in-2.new.page c.in_default.ensures.value c.new-page.ensures.items (rw c.get_mut.follows.holds-at-none at c.in_ok-insert.ensures.updates.0)
    c.index_of-2.ensures c.in_ok-set_in.ensures.set)
