use Rattle.level_tables.proofs.SwitchingAll.{added-others, added-over, added-tiles}
use Rattle.level_tables.proofs.new_tiles.NewTiles.add.Goals as goal

pub returns-clause-tiles : goal.returns-clause-tiles
returns-clause-tiles g c =
    rw (c.push.ensures.entries, c.reserve.ensures.entries, c.in_ok-name.ensures.named)
    (added-tiles (g.C.ChainMeaning.held c.args.chain.now) c.in_ok-name.name c.args.tile c.in_ok-name.ensures.unowned c.args.at c.args.self.now.entries
    c.args.self.now.format c.requires.over)

pub returns-clause-over : goal.returns-clause-over
returns-clause-over g c =
    rw (c.push.ensures.entries, c.push.ensures.format, c.reserve.ensures.entries, c.reserve.ensures.format, c.in_ok-name.ensures.named)
    (added-over (g.C.ChainMeaning.held c.args.chain.now) c.in_ok-name.name c.args.tile c.in_ok-name.ensures.unowned c.args.at c.args.self.now.entries
    c.args.self.now.format c.requires.over c.requires.whole c.requires.length c.bytes_of.ensures.small)

pub returns-clause-others : goal.returns-clause-others
returns-clause-others g c =
    rw (c.push.ensures.entries, c.reserve.ensures.entries, c.in_ok-name.ensures.named)
    (added-others (g.C.ChainMeaning.held c.args.chain.now) c.in_ok-name.name c.args.tile c.in_ok-name.ensures.unowned c.args.at c.args.self.now.entries)
