use Rattle.std.proofs.Common.{◌≡◌, subst, arith}
use Rattle.plane_rect.specs.Rectangle.{end_column}
use Rattle.plane_rect.specs.Tile.{Tile, tile_end}
use Rattle.chain_owners.specs.Held.{Held}
use Rattle.level_tables.specs.Over.{IsTileOfLevel}
use Rattle.root_tiles.specs.Roots.{root_image}
use Rattle.root_tiles.proofs.ChainReads.{read-both}
use Rattle.root_tiles.proofs.LineTiles.{IsFilled-line, IsFilled-more, known-first}
use Rattle.root_tiles.proofs.root.Root.line_tiles.Goals as goal

pub returns-in_err-push-clause-read : goal.returns-in_err-push-clause-read
returns-in_err-push-clause-read g c = read-both _ _ _ c.loop-column.invariant.read c.put_tile.ensures.read

pub loop-column-preserved : goal.loop-column-preserved
loop-column-preserved g c =
    let root = c.args.self.now in
    let first = g.C.ChainMeaning.held c.args.chain.now in
    let image = root_image root first in
    let same : g.C.ChainMeaning.held c.loop-column.chain ≡ first = c.loop-column.invariant.read.held in
    let at : c.from_indices.result ≡ record { column = c.loop-column.column; row = c.args.line } =
    (λ i. record { column = c.from_indices.ensures.column i; row = c.from_indices.ensures.row i }) in
    let is : IsTileOfLevel image 0 (record { column = c.loop-column.column; row = c.args.line }) c.in_ok-tile.tile =
    subst (λ (tile : Tile). IsTileOfLevel image 0 tile c.in_ok-tile.tile) at
    (subst (λ (held : Held). IsTileOfLevel (root_image root held) 0 c.from_indices.result c.in_ok-tile.tile) same c.in_ok-tile.ensures.bytes) in
    record {
      read = read-both _ _ _ c.loop-column.invariant.read c.put_tile.ensures.read;
      filled = rw c.in_ok-push.ensures.items
          (IsFilled-more root.tiles.format image c.args.rect c.args.line c.loop-column.column c.loop-column.tiles.items c.in_ok-tile.tile
          (omega (arith, c.loop-column.auto.column, c.first_column-column.ensures.value)) c.in_ok-tile.ensures.length
          (known-first image c.loop-column.column c.args.line c.in_ok-tile.tile is) c.loop-column.invariant.filled);
    }

pub returns-clause-pixels : goal.returns-clause-pixels
returns-clause-pixels g c =
    let all : c.loop-column.column ≡ tile_end (end_column c.args.rect) =
    omega (arith, c.loop-column-test.false, c.loop-column.auto.column, c.loop-column.auto.column-end, c.div_ceil-end.ensures, c.end_column.ensures.value, c.first_column-column.ensures.value) in
    IsFilled-line c.args.self.now.tiles.format (root_image c.args.self.now (g.C.ChainMeaning.held c.args.chain.now)) c.args.rect c.args.line c.loop-column.column
    c.loop-column.tiles.items all c.loop-column.invariant.filled
