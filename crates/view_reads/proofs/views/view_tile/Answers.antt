use Rattle.std.proofs.Common.{◌≡◌, ◌∙◌, ap, subst}
use Rattle.std.proofs.lemmas.Result.{IfOk-weaker, err_from_is_err_and}
use Rattle.std.specs.Prelude.{IfSome}
use Rattle.level_tables.specs.Over.{IsTileOfLevel}
use Rattle.model_images.specs.Raw.{tile_bytes}
use Rattle.plane_rect.specs.Rectangle.{Includes, Rectangle, meet}
use Rattle.plane_rect.specs.Tile.{tile_rectangle}
use Rattle.root_tiles.specs.Roots.{root_image}
use Rattle.view_reads.specs.Views.{view_image}
use Rattle.view_reads.proofs.Cuts.{meet-limits}
use Rattle.view_reads.proofs.ViewTiles.{length-part, tile-inside, tile-part-of}
use Rattle.view_reads.proofs.views.view_tile.Goals as goal

pub returns-then-contains : goal.returns-then-contains
returns-then-contains g c =
    let root = c.args.root.now in
    let held = g.C.ChainMeaning.held c.args.chain.now in
    let is : c.meet.result ≡ meet (tile_rectangle c.args.at) root.box =
    c.meet.ensures.value ∙ ap (λ (r : Rectangle). meet r c.bounds.result) c.rect-square.ensures.value ∙ ap (λ (r : Rectangle). meet (tile_rectangle c.args.at) r) c.bounds.ensures in
    let all : Includes c.args.extent (meet (tile_rectangle c.args.at) root.box) =
    subst (λ (r : Rectangle). Includes c.args.extent r) is (c.contains.ensures.positions.0 c.if-contains.true) in
    record {
      bytes = IfOk-weaker c.put_tile.result (IsTileOfLevel (root_image root held) 0 c.args.at) (λ tile. IfSome (view_image root c.args.extent held) (λ image. tile ≡ tile_bytes image c.args.at))
          (λ tile exact. tile-inside root c.args.extent held c.requires.over c.requires.inside c.requires.rectangle c.args.at tile all exact) c.put_tile.ensures.bytes;
      length = c.put_tile.ensures.length;
      cause = c.put_tile.ensures.cause;
      read = c.put_tile.ensures.read;
    }

pub part-requires-clause-inside : goal.part-requires-clause-inside
part-requires-clause-inside g c = λ u v there. c.requires.inside u v (c.meet-2.ensures.in_this u v there)

pub part-requires-clause-limits : goal.part-requires-clause-limits
part-requires-clause-limits g c =
    meet-limits c.args.extent c.args.at c.meet-2.result c.requires.rectangle
    (c.meet-2.ensures.value ∙ ap (λ (r : Rectangle). meet c.args.extent r) c.rect-square.ensures.value)

pub returns-in_err-part : goal.returns-in_err-part
returns-in_err-part g c =
    let p = err_from_is_err_and c.from_residual.result c.from_residual.ensures.1 in
    rw (p.1, p.2) (record { bytes = tt; length = tt; cause = c.in_err-part.ensures.cause; read = c.part.ensures.read })

pub returns-in_err-tile : goal.returns-in_err-tile
returns-in_err-tile g c =
    let p = err_from_is_err_and c.from_residual-in_err-tile.result c.from_residual-in_err-tile.ensures.1 in
    rw (p.1, p.2) (record { bytes = tt; length = tt; cause = tt; read = c.part.ensures.read })

pub returns : goal.returns
returns g c = record {
  bytes = tile-part-of c.args.root.now c.args.extent (g.C.ChainMeaning.held c.args.chain.now) c.requires.over c.requires.inside c.requires.rectangle c.args.at
      c.rect-square.result c.meet-2.result c.in_ok-part.part c.in_ok-tile.field-0 c.rect-square.ensures.value c.meet-2.ensures.value c.in_ok-part.ensures.image c.in_ok-tile.ensures;
  length = length-part c.args.at c.in_ok-part.part c.args.root.now.tiles.format c.in_ok-tile.field-0 c.in_ok-tile.ensures c.in_ok-part.ensures.shape.format;
  cause = tt;
  read = c.part.ensures.read;
}
