use Rattle.std.proofs.Common.{ℕ, sym, subst}
use Rattle.chain_contracts.specs.Tiles.{Reads}
use Rattle.level_tables.proofs.PutTiles.{put-tile-known, put-tile-read}
use Rattle.level_tables.proofs.table.LevelTable.put_tile.Goals as goal

pub read-requires-clause-known : goal.read-requires-clause-known
read-requires-clause-known g c =
    let known = put-tile-known c.args.self.now.tiles (g.C.ChainMeaning.held c.args.chain.now) c.requires c.args.at c.in-Some.name (sym c.in-Some.ensures) in
    rw known (sym c.tile_len.ensures.value)

pub returns-clause-found : goal.returns-clause-found
returns-clause-found g c =
    let held = g.C.ChainMeaning.held c.args.chain.now in
    let P : ℕ → Type 0 = λ n. Reads held c.in-Some.name n c.in_ok-tile.tile in
    put-tile-read c.args.self.now.tiles held c.requires c.args.at c.in-Some.name c.in_ok-tile.tile (sym c.in-Some.ensures)
    (subst P c.tile_len.ensures.value c.in_ok-tile.ensures.read)
