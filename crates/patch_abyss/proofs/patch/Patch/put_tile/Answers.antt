use Rattle.std.proofs.Common.{◌≡◌, ◌∙◌, ap, refl, arith, length}
use Rattle.plane_rect.specs.Rectangle.{Rectangle}
use Rattle.plane_rect.specs.Tile.{tile_square}
use Rattle.model_images.specs.Paint.{put_raw}
use Rattle.patch_abyss.proofs.TilesOfPatches.{no_common_position, put_nowhere, met_tile}
use Rattle.patch_abyss.proofs.patch.Patch.put_tile.Goals as goal

pub returns-then-is_empty : goal.returns-then-is_empty
returns-then-is_empty c =
    let to = c.self.inside in
    let square = c.rect-square in
    let none = c.if-is_empty.ensures.positions.0 refl in
    rw (← c.self.view_is)
    (put_nowhere to.rect to.format to.bytes.items (tile_square c.args.at) c.args.tile.now
    (no_common_position square.result to.rect c.args.at square.ensures.positions c.self.invariant.rectangle
    (λ u v there inside. none u v ((c.meet.ensures.positions u v).1 (inside, there)))))

pub paint-requires : goal.paint-requires
paint-requires c =
    let square = c.rect-square in
    let whole : square.result ≡ tile_square c.args.at = square.ensures.whole (met_tile square.result c.meet.result c.args.at square.ensures.positions c.meet.ensures.in_other c.if-is_empty.ensures.value) in
    ap length c.bytes.ensures.value ∙ c.requires ∙ rw whole (omega arith)

pub returns : goal.returns
returns c =
    let square = c.rect-square in
    let to = c.args.self.now in
    let whole : square.result ≡ tile_square c.args.at = square.ensures.whole (met_tile square.result c.meet.result c.args.at square.ensures.positions c.meet.ensures.in_other c.if-is_empty.ensures.value) in
    c.paint.ensures
    ∙ ap (put_raw to square.result) c.bytes.ensures.value
    ∙ ap (λ (r : Rectangle). put_raw to r c.args.tile.now) whole
