use Rattle.std.proofs.Common.{◌∙◌, ap, subst, sym}
use Rattle.std.proofs.lemmas.Result.{err_from_is_err_and}
use Rattle.plane_rect.specs.Rectangle.{Includes, Rectangle, meet}
use Rattle.view_reads.proofs.Cuts.{meet-limits}
use Rattle.view_reads.proofs.ViewTiles.{length-part, tile-part-of}
use Rattle.buffer_view.proofs.FrozenParts.{part-zero}
use Rattle.buffer_view.proofs.freezing.zero_outside.Goals as goal

pub part-requires-clause-inside : goal.part-requires-clause-inside
part-requires-clause-inside g c = λ u v there. c.requires.view.inside u v (c.meet.ensures.in_this u v there)

pub part-requires-clause-limits : goal.part-requires-clause-limits
part-requires-clause-limits g c =
    meet-limits c.args.extent c.args.at c.meet.result c.requires.view.rectangle
    (c.meet.ensures.value ∙ ap (λ (r : Rectangle). meet c.args.extent r) c.rect-square.ensures.value)

pub returns-in_err-part-clause-tile : goal.returns-in_err-part-clause-tile
returns-in_err-part-clause-tile g c =
    let p = err_from_is_err_and c.from_residual.result c.from_residual.ensures.1 in
    rw (p.1, p.2) (record { bytes = tt; length = tt; cause = c.in_err-part.ensures.cause; read = c.part.ensures.read })

pub returns-in_err-tile-clause-tile : goal.returns-in_err-tile-clause-tile
returns-in_err-tile-clause-tile g c =
    let p = err_from_is_err_and c.from_residual-in_err-tile.result c.from_residual-in_err-tile.ensures.1 in
    rw (p.1, p.2) (record { bytes = tt; length = tt; cause = tt; read = c.part.ensures.read })

pub returns-clause-tile : goal.returns-clause-tile
returns-clause-tile g c = record {
  bytes = tile-part-of c.args.root.now c.args.extent (g.C.ChainMeaning.held c.args.chain.now) c.requires.view.over c.requires.view.inside c.requires.view.rectangle c.args.at
      c.rect-square.result c.meet.result c.in_ok-part.part c.in_ok-tile.field-0 c.rect-square.ensures.value c.meet.ensures.value c.in_ok-part.ensures.image c.in_ok-tile.ensures;
  length = length-part c.args.at c.in_ok-part.part c.args.root.now.tiles.format c.in_ok-tile.field-0 c.in_ok-tile.ensures c.in_ok-part.ensures.shape.format;
  cause = tt;
  read = c.part.ensures.read;
}

pub returns-clause-zero : goal.returns-clause-zero
returns-clause-zero g c =
    let all : Includes c.args.extent c.in_ok-part.part.box =
    subst (λ (r : Rectangle). Includes c.args.extent r) (sym c.in_ok-part.ensures.shape.box) (λ u v there. c.meet.ensures.in_this u v there) in
    part-zero c.in_ok-part.part c.args.extent c.args.root.now.tiles.format c.args.at c.in_ok-tile.field-0 c.in_ok-part.ensures.shape.format all c.in_ok-tile.ensures
