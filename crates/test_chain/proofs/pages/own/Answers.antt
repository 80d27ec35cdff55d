use Rattle.std.proofs.Common.{sym, subst}
use Rattle.test_chain.specs.Pages.{ArePages}
use Rattle.test_chain.proofs.PageLaws.{pages-owned}
use Rattle.test_chain.proofs.pages.own.Goals as goal

pub returns : goal.returns
returns g c = record {
  pages = subst ArePages (sym c.own.ensures.held) (pages-owned (g.C.ChainMeaning.held c.args.chain.now) c.args.name c.requires.pages);
  reachable = c.own.ensures.valid c.requires.reachable;
}
