use Rattle.std.proofs.Common.{sym, subst}
use Rattle.test_chain.specs.Pages.{ArePages}
use Rattle.test_chain.proofs.PageLaws.{pages-removed}
use Rattle.test_chain.proofs.handlers.forget.Goals as goal

pub returns : goal.returns
returns g c = subst ArePages (sym c.forget.ensures.held) (pages-removed (g.H.ChainMeaning.held c.args.handler.now) c.args.name c.requires)
