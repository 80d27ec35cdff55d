use Rattle.test_chain.proofs.TableLaws.{made-gray}
use Rattle.test_chain.proofs.levels.calls.switch.Goals as goal

pub switch-requires-clause-made : goal.switch-requires-clause-made
switch-requires-clause-made g c = made-gray c.args.table.now.tiles c.args.tiles.format c.args.tiles.entries (g.C.ChainMeaning.held c.args.chain.now) c.requires.beside
