use Rattle.std.proofs.Common.{sym, subst}
use Rattle.test_chain.specs.Pages.{ArePages}
use Rattle.test_chain.proofs.PageLaws.{pages-put}
use Rattle.test_chain.proofs.pages.replace.Goals as goal

pub returns : goal.returns
returns g c = record {
  pages = subst ArePages (sym c.in_ok-rewrite.ensures.put)
      (pages-put (g.C.ChainMeaning.held c.args.chain.now) c.args.name c.requires.pages c.in_ok-tile.tile c.in_ok-tile.ensures);
  reachable = c.rewrite.ensures.valid c.requires.reachable;
}
