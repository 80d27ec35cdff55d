use Rattle.test_chain.proofs.TableLaws.{beside-after, one-more}
use Rattle.test_chain.proofs.levels.calls.add.Goals as goal

pub returns-clause-beside : goal.returns-clause-beside
returns-clause-beside g c =
    rw c.add.ensures.format
    (beside-after c.args.table.now.tiles c.args.tiles.now.format c.args.tiles.now.entries c.add.new.self.entries (g.C.ChainMeaning.held c.args.chain.now) (g.C.ChainMeaning.held c.add.new.chain)
    c.add.ensures.others c.requires.beside (rw c.add.ensures.format at c.add.ensures.over))

pub returns-clause-one : goal.returns-clause-one
returns-clause-one g c =
    one-more c.add.result c.args.at c.in_ok-tile.tile c.args.tiles.now.entries c.add.new.self.entries (g.C.ChainMeaning.held c.args.chain.now) (g.C.ChainMeaning.held c.add.new.chain) c.add.ensures.added
