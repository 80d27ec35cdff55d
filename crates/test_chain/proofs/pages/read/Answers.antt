use Rattle.std.proofs.Common.{sym, subst}
use Rattle.test_chain.specs.Pages.{ArePages}
use Rattle.test_chain.proofs.pages.read.Goals as goal

pub returns : goal.returns
returns g c = record {
  pages = subst ArePages (sym c.read.ensures.held) c.requires.pages;
  reachable = c.read.ensures.valid c.requires.reachable;
}
