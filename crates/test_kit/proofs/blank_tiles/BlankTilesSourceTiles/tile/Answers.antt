use Rattle.test_kit.proofs.BlankTile.{blank-tile}
use Rattle.test_kit.proofs.blank_tiles.BlankTilesSourceTiles.tile.Goals as goal

pub returns-clause-bytes : goal.returns-clause-bytes
returns-clause-bytes g c =
    rw (c.in_ok-zero.ensures, c.pixel_bytes.ensures) (blank-tile c.args.self.now.fact c.args.buffer c.args.at c.requires.known)
