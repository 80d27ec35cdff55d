use Rattle.test_chain.proofs.TableLaws.{beside-none}
use Rattle.test_chain.proofs.levels.calls.no_new_tiles.Goals as goal

pub returns-clause-beside : goal.returns-clause-beside
returns-clause-beside g c =
    rw c.new.ensures.entries (beside-none c.args.table.now.tiles c.new.result.format (g.C.ChainMeaning.held c.args.chain.now) c.new.ensures.format c.requires)
