use Rattle.std.proofs.Common.{◌≡◌, Option, Some, None, is_some, true, refl}
use Rattle.std.proofs.lemmas.Bool.{false≢true}
use Rattle.name_maps.proofs.PageLaws.{written_page, no_page, names_of-get}
use Rattle.name_maps.proofs.name_pages.NamePages.set.Goals as goal
use Rattle.name_maps.proofs.name_pages.NamePages.set.Goals.{in-Some, in_default}

there : {X : Type 0} (o : Option X) → None ≡ o → is_some o ≡ true → ⊥
there None is some = false≢true some
there (Some x) is some = absurd (let no : None ≡ Some x = is in cc)

pub replace_in-requires : goal.replace_in-requires
replace_in-requires g c =
    let known = rw (← c.self.view_is, names_of-get c.self.inside.pages.entries c.args.name, ← c.in-Some.ensures.value) at c.requires in
    rw c.index_of.ensures known

pub returns : goal.returns
returns g c = rw (← c.self.view_is) (elim c.match-get_mut.branch [
  | in-Some w ↦ rw w.self-inside-is
      (written_page c.self.inside.pages.entries (c.get_mut.follows.lender w.replace_in.new.page).entries c.args.name w.index_of.result (Some c.args.value)
      w.in-Some.page.now w.replace_in.new.page w.in-Some.ensures.value
      ((c.get_mut.follows.holds w.replace_in.new.page).3 (rw (← w.in-Some.ensures.value) refl)).0 w.index_of.ensures w.replace_in.ensures)
  | in_default w ↦ let known = rw (← c.self.view_is) at c.requires in absurd (there _ (no_page c.self.inside.pages.entries c.args.name w.in_default.ensures.value) known)
])
