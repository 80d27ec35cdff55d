use Rattle.std.proofs.Common.{sym, subst}
use Rattle.test_chain.specs.Pages.{ArePages}
use Rattle.test_chain.proofs.PageLaws.{pages-put}
use Rattle.test_chain.proofs.handlers.put.Goals as goal

pub returns : goal.returns
returns g c = subst ArePages (sym c.in_ok-put.ensures.put)
    (pages-put (g.H.ChainMeaning.held c.args.handler.now) c.args.name c.requires c.in_ok-tile.tile c.in_ok-tile.ensures)
