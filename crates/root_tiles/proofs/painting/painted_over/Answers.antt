use Rattle.std.proofs.Common.{rules, ◌≡◌, List, ℕ, length, ap, ◌∙◌}
use Rattle.std.proofs.lemmas.List.{with_items_is}
use Rattle.std.proofs.lemmas.Result.{IfOk-weaker}
use Rattle.model_images.specs.FromRaw.{image_from_raw}
use Rattle.model_images.specs.Paint.{put_raw}
use Rattle.plane_rect.specs.Tile.{tile_square}
use Rattle.root_tiles.proofs.painting.painted_over.Goals as goal

pub returns-clause-painted : goal.returns-clause-painted
returns-clause-painted c =
    let square = tile_square c.args.at in
    let format = c.args.format in
    let start = c.args.start in
    let new = c.paint_raw.new.to in
    let long : length new ≡ start.len = search rules in
    let put : image_from_raw square format new ≡ put_raw (image_from_raw square format start.items) c.args.rect.now c.args.bytes.now =
    rw (c.rect.ensures.whole c.requires.whole, c.deref_mut.ensures.value) at c.paint_raw.ensures.painted in
    let P : List ℕ → Type 0 = λ tile. image_from_raw square format tile ≡ put_raw (image_from_raw square format start.items) c.args.rect.now c.args.bytes.now in
    IfOk-weaker c.from_vec.result _ P (λ tile e. ap (image_from_raw square format) (e ∙ with_items_is start new long) ∙ put) c.from_vec.ensures
