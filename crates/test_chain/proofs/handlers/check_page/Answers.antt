use Rattle.std.proofs.Common.{sym, subst}
use Rattle.test_chain.specs.Pages.{ArePages}
use Rattle.test_chain.proofs.handlers.check_page.Goals as goal

pub returns : goal.returns
returns g c = subst ArePages (sym c.get.ensures.held) c.requires
