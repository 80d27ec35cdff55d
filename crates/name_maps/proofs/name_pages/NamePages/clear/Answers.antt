use Rattle.std.proofs.Common.{None, refl}
use Rattle.name_maps.specs.Pages.{names_of}
use Rattle.name_maps.proofs.PageLaws.{written_page, no_page, not_removed}
use Rattle.name_maps.proofs.name_pages.NamePages.clear.Goals as goal
use Rattle.name_maps.proofs.name_pages.NamePages.clear.Goals.{in-Some, in_default}

pub returns : goal.returns
returns g c = rw (← c.self.view_is) (elim c.match-get_mut.branch [
  | in-Some w ↦ rw w.self-inside-is
      (written_page c.self.inside.pages.entries (c.get_mut.follows.lender w.clear_in.new.page).entries c.args.name w.index_of.result None
      w.in-Some.page.now w.clear_in.new.page w.in-Some.ensures.value
      ((c.get_mut.follows.holds w.clear_in.new.page).3 (rw (← w.in-Some.ensures.value) refl)).0 w.index_of.ensures w.clear_in.ensures)
  | in_default w ↦ rw (w.self-inside-is, c.get_mut.follows.holds-at-none)
      (not_removed (names_of c.self.inside.pages.entries) c.args.name (no_page c.self.inside.pages.entries c.args.name w.in_default.ensures.value))
])
