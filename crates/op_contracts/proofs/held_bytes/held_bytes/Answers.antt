use Rattle.std.proofs.Common.{◌≡◌, ◌<◌, ◌≤◌, map, sym, ap, subst, arith}
use Rattle.plane_rect.specs.Rectangle.{end_row, offset}
use Rattle.plane_rect.specs.Tile.{tile_end, tile_of}
use Rattle.model_graphs.specs.Windows.{Window, window_image}
use Rattle.patch_abyss.specs.Lines.{HasFirstPixels, HasLine}
use Rattle.patch_abyss.proofs.FirstPixels.{has_rows}
use Rattle.patch_abyss.proofs.LineRows.{all_pixels, reached_all, reached_line, reached_next, reached_row}
use Rattle.op_contracts.specs.HeldBytes.{HasTiles}
use Rattle.op_contracts.proofs.HeldLines.{HasTiles-line, HasTiles-long}
use Rattle.op_contracts.proofs.held_bytes.held_bytes.Goals as goal

pub add_line-requires-clause-tiles : goal.add_line-requires-clause-tiles
add_line-requires-clause-tiles c =
    let window = c.args.window.now in
    let format : c.window.inside.format ≡ window.format = ap (λ (w : Window). w.format) c.window.view_is in
    let has : HasTiles window c.args.part.now c.loop-line.line (map (λ tile. tile.now) c.in-Some.tiles.items) = rw c.in-Some.is at c.in_ok-tiles.ensures in
    rw (format, c.deref.ensures.value) (HasTiles-long window c.args.part.now c.loop-line.line _ c.requires.whole has)

pub loop-line-preserved : goal.loop-line-preserved
loop-line-preserved c =
    let window = c.args.window.now in
    let part = c.args.part.now in
    let line = c.loop-line.line in
    let format : c.window.inside.format ≡ window.format = ap (λ (w : Window). w.format) c.window.view_is in
    let tiles = map (λ tile. tile.now) c.in-Some.tiles.items in
    let has : HasTiles window part line tiles = rw c.in-Some.is at c.in_ok-tiles.ensures in
    let begun : tile_of part.first_row ≤ line = omega (arith, c.loop-line.auto.line, c.first_row-line.ensures.value) in
    let ended : line < tile_end (end_row part) = omega (arith, c.loop-line-test.true, c.div_ceil-end.ensures, c.end_row.ensures.value) in
    let shown : HasLine (window_image window) part line (map (λ tile. tile.now) c.deref.result.now) =
    rw c.deref.ensures.value (HasTiles-line window part line tiles c.requires.inside has) in
    subst (λ row. HasFirstPixels (window_image window) part (offset part part.first_column row) c.add_line.new.bytes.items) (sym (reached_next part line begun))
    (c.in_ok-add_line.ensures.pixels (window_image window) (sym format) shown
    (subst (λ row. HasFirstPixels (window_image window) part (offset part part.first_column row) c.loop-line.bytes.items)
    (reached_line part line (has_rows part c.requires.some) ended) c.loop-line.invariant))

pub returns : goal.returns
returns c =
    let part = c.args.part.now in
    let all : c.loop-line.line ≡ tile_end (end_row part) =
    omega (arith, c.loop-line-test.false, c.loop-line.auto.line, c.loop-line.auto.line-end, c.div_ceil-end.ensures, c.end_row.ensures.value, c.first_row-line.ensures.value) in
    subst (λ n. HasFirstPixels (window_image c.args.window.now) part n c.loop-line.bytes.items)
    (all_pixels part (reached_row part c.loop-line.line) (reached_all part c.loop-line.line all)) c.loop-line.invariant
