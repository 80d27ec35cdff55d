use Rattle.test_chain.proofs.TableLaws.{two-second}
use Rattle.test_chain.proofs.levels.calls.put_second.Goals as goal

pub returns : goal.returns
returns g c =
    two-second c.args.first.now.tiles c.args.table.now.tiles c.put.new.table.tiles (g.C.ChainMeaning.held c.args.chain.now) (g.C.ChainMeaning.held c.put.new.chain)
    c.put.ensures.others c.requires.two c.put.ensures.gray
