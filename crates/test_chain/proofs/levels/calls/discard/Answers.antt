use Rattle.test_chain.proofs.TableLaws.{beside-gone}
use Rattle.test_chain.proofs.levels.calls.discard.Goals as goal

pub returns : goal.returns
returns g c =
    beside-gone c.args.table.now.tiles c.args.tiles.format c.args.tiles.entries (g.C.ChainMeaning.held c.args.chain.now) (g.C.ChainMeaning.held c.discard.new.chain)
    c.discard.ensures.others c.requires
