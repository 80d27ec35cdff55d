use Rattle.std.proofs.Common.{ℕ, Some, None, replicate, refl, ap, subst, sym, ◌∙◌}
use Rattle.level_tables.specs.Over.{IsTileOfLevel}
use Rattle.root_tiles.specs.Roots.{IsRootOver, RootTiles, root_image}
use Rattle.root_tiles.proofs.TilesRead.{put-found}
use Rattle.root_tiles.proofs.root.Root.put_tile.Goals as goal

pub returns-in-Some-clause-bytes : goal.returns-in-Some-clause-bytes
returns-in-Some-clause-bytes g c =
    let root : RootTiles = record { box = c.self.inside.bounds; tiles = c.self.inside.table.tiles } in
    let held = g.C.ChainMeaning.held c.args.chain.now in
    let over : IsRootOver root held = subst (λ (r : RootTiles). IsRootOver r held) (sym c.self.view_is) c.requires in
    let P : RootTiles → Type 0 = λ r. IsTileOfLevel (root_image r held) 0 c.args.at c.in-Some.tile in
    subst P c.self.view_is
    (put-found root held over c.args.at (Some c.in-Some.tile) c.in-Some.tile (rw c.in-Some.is at c.in_ok-tile.ensures.found) refl)

pub returns-in_ok-zero-in-None-clause-bytes : goal.returns-in_ok-zero-in-None-clause-bytes
returns-in_ok-zero-in-None-clause-bytes g c =
    let root : RootTiles = record { box = c.self.inside.bounds; tiles = c.self.inside.table.tiles } in
    let held = g.C.ChainMeaning.held c.args.chain.now in
    let bytes = c.in_ok-zero-in-None.field-0 in
    let over : IsRootOver root held = subst (λ (r : RootTiles). IsRootOver r held) (sym c.self.view_is) c.requires in
    let P : RootTiles → Type 0 = λ r. IsTileOfLevel (root_image r held) 0 c.args.at bytes in
    subst P c.self.view_is
    (put-found root held over c.args.at None bytes (rw c.in-None.is at c.in_ok-tile.ensures.found)
    (c.in_ok-zero-in-None.ensures.zero ∙ ap (λ (n : ℕ). replicate n 0) c.tile_len.ensures.value))
