use Rattle.std.proofs.Common.{◌≡◌, ◌*◌, rules, true, false, refl, subst, sym}
use Rattle.std.specs.Prelude.{IsSome}
use Rattle.std.proofs.lemmas.Result.{err_from_is_err_and}
use Rattle.plane_rect.specs.Rectangle.{Inside}
use Rattle.plane_rect.specs.Tile.{tile_square}
use Rattle.pixel_formats.specs.Format.{pixel_bytes}
use Rattle.level_tables.specs.LevelTiles.{bytes_in}
use Rattle.model_images.specs.FromRaw.{image_from_raw}
use Rattle.model_images.specs.Paint.{put_raw}
use Rattle.root_tiles.specs.Cutting.{Covers}
use Rattle.root_tiles.specs.Paints.{Paints, paint_pixels}
use Rattle.root_tiles.proofs.PaintedTiles.{IsStart, few-in_square, painted-is, start-held, start-zeros}
use Rattle.root_tiles.proofs.root.Root.painted_tile.Goals as goal

pub piece-piece-requires-clause-small : goal.piece-piece-requires-clause-small
piece-piece-requires-clause-small g c =
    let whole = c.rect.ensures.whole c.requires.whole in
    rw (c.meet.ensures.value, whole) (few-in_square c.args.rect c.args.at)

pub returns-in_err-tile : goal.returns-in_err-tile
returns-in_err-tile g c =
    let p = err_from_is_err_and c.from_residual-in_err-tile.result c.from_residual-in_err-tile.ensures.1 in
    rw (p.1, p.2) (record { length = tt; painted = tt; cause = tt; read = c.start_bytes.ensures.read })

pub returns : goal.returns
returns g c =
    let at = c.args.at in
    let rect = c.args.rect in
    let root = c.args.self.now in
    let format = root.tiles.format in
    let held = bytes_in (g.C.ChainMeaning.held c.args.chain.now) root.tiles.put in
    let whole : c.rect.result ≡ tile_square at = c.rect.ensures.whole c.requires.whole in
    let start = c.in_ok-start.start.items in
    let tile = c.in_ok-tile.tile in
    let covers : c.is_covered-covered.result ≡ true → Covers root.box rect at = λ is. rw c.bounds.ensures at c.is_covered-covered.ensures is c.requires.whole in
    let begun : IsSome (g.C.ChainMeaning.held c.args.chain.now).content → IsStart format held rect at start = λ exposed.
    elim c.is_covered-covered.result as (λ b. c.is_covered-covered.result ≡ b → IsStart format held rect at start) [
      | true ↦ λ e. start-zeros format held root.box rect at start (4096 * pixel_bytes format) (c.in_ok-start.ensures.zeros e) c.requires.over.zero (covers e)
      | false ↦ λ e. start-held format held rect at start (c.in_ok-start.ensures.held e exposed)
    ] refl in
    let between = c.piece-piece.result.0 in
    let piece = c.piece-piece.result.1.now in
    let part = c.meet.result in
    let put : image_from_raw (tile_square at) format tile ≡ put_raw (image_from_raw (tile_square at) format start) between piece =
    rw c.format-2.ensures at c.in_ok-tile.ensures.painted in
    let paints : Paints format rect part (paint_pixels format rect c.args.paint.now) between piece = rw c.format.ensures at c.piece-piece.ensures in
    record {
      length = search rules;
      painted = λ exposed. painted-is format held rect part between at (paint_pixels format rect c.args.paint.now) piece start tile paints
          (λ u v inside there. (c.meet.ensures.positions u v).1 (inside, subst (Inside u v) (sym whole) there)) put (begun exposed);
      cause = tt;
      read = search rules;
    }
