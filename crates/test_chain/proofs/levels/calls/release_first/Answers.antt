use Rattle.test_chain.proofs.TableLaws.{left-gray}
use Rattle.test_chain.proofs.levels.calls.release_first.Goals as goal

pub returns : goal.returns
returns g c = left-gray c.args.table.tiles c.args.second.now.tiles (g.C.ChainMeaning.held c.args.chain.now) (g.C.ChainMeaning.held c.release.new.chain) c.release.ensures.others c.requires
