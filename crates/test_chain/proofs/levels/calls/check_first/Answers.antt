use Rattle.test_chain.proofs.TableLaws.{two-first}
use Rattle.test_chain.proofs.levels.calls.check_first.Goals as goal

pub returns : goal.returns
returns g c =
    two-first c.args.table.now.tiles c.check.new.table.tiles c.args.second.now.tiles (g.C.ChainMeaning.held c.args.chain.now) (g.C.ChainMeaning.held c.check.new.chain)
    c.check.ensures.others c.requires.two c.check.ensures.gray
