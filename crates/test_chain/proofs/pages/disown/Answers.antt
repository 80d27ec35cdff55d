use Rattle.std.proofs.Common.{sym, subst}
use Rattle.test_chain.specs.Pages.{ArePages}
use Rattle.test_chain.proofs.PageLaws.{pages-disowned}
use Rattle.test_chain.proofs.pages.disown.Goals as goal

pub returns : goal.returns
returns g c = record {
  pages = subst ArePages (sym c.disown.ensures.held) (pages-disowned (g.C.ChainMeaning.held c.args.chain.now) c.args.name c.requires.pages);
  reachable = c.disown.ensures.valid c.requires.reachable;
}
