use Rattle.std.proofs.Common.{◌+◌, ◌*◌, max, min, sym}
use Rattle.level_tables.specs.LevelTiles.{bytes_in}
use Rattle.model_images.specs.Tiles.{held_image}
use Rattle.plane_rect.specs.Rectangle.{end_row, offset}
use Rattle.patch_abyss.specs.Lines.{HasFirstPixels, HasLine}
use Rattle.root_tiles.proofs.LineTiles.{if-known}
use Rattle.root_tiles.proofs.root.Root.add_line.Goals as goal

pub returns-clause-pixels : goal.returns-clause-pixels
returns-clause-pixels g c =
    let root = c.args.self.now in
    let rect = c.args.rect in
    let held = g.C.ChainMeaning.held c.args.chain.now in
    let image = held_image root.box root.tiles.format (bytes_in held root.tiles.put) in
    if-known held.content image (λ i. HasLine i rect c.args.line c.in_ok-tiles.tiles.items)
    (λ i. HasFirstPixels i rect (offset rect rect.first_column (max (64 * c.args.line) rect.first_row)) c.args.bytes.now.items
    → HasFirstPixels i rect (offset rect rect.first_column (min (64 * c.args.line + 64) (end_row rect))) c.add_line.new.bytes.items)
    c.in_ok-tiles.ensures.pixels
    (λ has. c.in_ok-add_line.ensures.pixels image (sym c.format.ensures) (rw (c.deref-2.ensures.value, c.in_ok-tiles-2.ensures, c.deref.ensures.value) has))
