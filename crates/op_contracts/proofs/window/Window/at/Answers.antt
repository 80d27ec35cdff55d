use Rattle.std.proofs.Common.{◌≡◌, ◌*◌, ◌<◌, length, Some, None, refl, sym, ap, ◌∙◌, subst, arith, rules}
use Rattle.plane_rect.specs.Rectangle.{Inside, InsideSigned, Rectangle, offset, plane_index as index_of}
use Rattle.plane_rect.specs.Tile.{IsWhole, tile_at, tile_square}
use Rattle.plane_rect.proofs.Rectangles.{InsideSigned-index}
use Rattle.pixel_formats.specs.Format.{pixel_bytes}
use Rattle.pixel_formats.proofs.FormatLaws.{sample_fits}
use Rattle.model_graphs.specs.Windows.{Window, tiles_of}
use Rattle.op_contracts.proofs.Shown.{found-long, shown-of}
use Rattle.op_contracts.proofs.window.Window.at.Goals as goal

pub sample_at-requires : goal.sample_at-requires
sample_at-requires c =
    let window = c.args.self.now in
    let tile = c.of_position-position.result in
    let k = c.offset-pixel.result in
    let format : c.self.inside.format ≡ window.format = ap (λ (w : Window). w.format) c.self.view_is in
    let whole : IsWhole tile = rw c.of_position-position.ensures (omega (arith, c.end_column.ensures, c.if-prove.false), omega (arith, c.end_row.ensures, c.if-prove-2.false)) in
    let square : c.rect.result ≡ tile_square tile = c.rect.ensures.whole whole in
    let below : k < 4096 = rw square at c.offset-pixel.ensures.in_area in
    let long : length c.in-Some.bytes.now ≡ 4096 * pixel_bytes window.format =
    found-long window.format tile window.tiles c.in-Some.bytes.now c.requires.whole.lengths (sym c.in-Some.ensures) in
    rw (c.channels.ensures, format, long) (sample_fits window.format 4096 k c.args.c below c.requires.channel)

pub returns-in-Some-clause-inside : goal.returns-in-Some-clause-inside
returns-in-Some-clause-inside c there =
    let window = c.args.self.now in
    let u = index_of c.args.x in
    let v = index_of c.args.y in
    let tile = c.of_position-position.result in
    let k = c.offset-pixel.result in
    let format : c.self.inside.format ≡ window.format = ap (λ (w : Window). w.format) c.self.view_is in
    let whole : IsWhole tile = rw c.of_position-position.ensures (omega (arith, c.end_column.ensures, c.if-prove.false), omega (arith, c.end_row.ensures, c.if-prove-2.false)) in
    let square : c.rect.result ≡ tile_square tile = c.rect.ensures.whole whole in
    let column : c.plane_index-column.result ≡ u = search rules in
    let row : c.plane_index-row.result ≡ v = search rules in
    let its : tile ≡ tile_at u v = c.of_position-position.ensures ∙ rw (column, row) refl in
    let found : tiles_of window (tile_at u v) ≡ Some c.in-Some.bytes.now = rw its at (sym c.in-Some.ensures) in
    let index : k ≡ offset (tile_square (tile_at u v)) u v = c.offset-pixel.ensures.value ∙ rw (square, its, column, row) refl in
    let inside : Inside u v window.bounds = ((InsideSigned-index c.args.x c.args.y window.bounds).0 there).2 in
    c.sample_at.ensures ∙ rw (c.channels.ensures, format, index) (sym (shown-of window u v c.args.c (Some c.in-Some.bytes.now) inside c.requires.channel found))

pub returns-in-Some-clause-outside : goal.returns-in-Some-clause-outside
returns-in-Some-clause-outside c out =
    let h = c.if-not-has.ensures in
    let there : InsideSigned c.args.x c.args.y c.self.inside.bounds = search rules in
    let bounds : c.self.inside.bounds ≡ c.args.self.now.bounds = ap (λ (w : Window). w.bounds) c.self.view_is in
    absurd (out (subst (λ (r : Rectangle). InsideSigned c.args.x c.args.y r) bounds there))

pub returns-in-None-clause-inside : goal.returns-in-None-clause-inside
returns-in-None-clause-inside c there =
    let window = c.args.self.now in
    let u = index_of c.args.x in
    let v = index_of c.args.y in
    let tile = c.of_position-position.result in
    let column : c.plane_index-column.result ≡ u = search rules in
    let row : c.plane_index-row.result ≡ v = search rules in
    let its : tile ≡ tile_at u v = c.of_position-position.ensures ∙ rw (column, row) refl in
    let found : tiles_of window (tile_at u v) ≡ None = rw its at (sym c.in-None.ensures) in
    let inside : Inside u v window.bounds = ((InsideSigned-index c.args.x c.args.y window.bounds).0 there).2 in
    sym (shown-of window u v c.args.c None inside c.requires.channel found)
