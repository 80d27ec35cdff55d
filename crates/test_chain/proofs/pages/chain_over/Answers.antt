use Rattle.test_chain.proofs.PageLaws.{no_pages}
use Rattle.test_chain.proofs.pages.chain_over.Goals as goal

pub returns : goal.returns
returns g c = record {
  pages = no_pages _ (g.D.SwapDisk.blocks c.args.disk.now) c.in_ok-chain.ensures.held;
  reachable = c.in_ok-chain.ensures.valid;
}
