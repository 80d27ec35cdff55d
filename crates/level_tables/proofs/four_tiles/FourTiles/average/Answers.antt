use Rattle.std.proofs.Common.{◌≡◌, length, sym, subst, ◌∙◌, rules}
use Rattle.std.proofs.lemmas.List.{with_items_is}
use Rattle.model_images.specs.FromRaw.{AreBytes}
use Rattle.level_tables.proofs.FourMeans.{means-are}
use Rattle.level_tables.proofs.four_tiles.FourTiles.average.Goals as goal

pub returns : goal.returns
returns c =
    let new = c.average_rows.new.bytes in
    let fits : length new ≡ c.resize.new.self.len = search rules in
    let is : c.in_ok-tile.tile ≡ new = c.in_ok-tile.ensures ∙ c.deref.ensures.value ∙ with_items_is c.resize.new.self new fits in
    let small : AreBytes new = subst AreBytes is c.bytes_of.ensures.small in
    is ∙ sym (means-are c.args.format c.args.at c.args.self.now c.requires.half new small (search rules) c.average_rows.ensures.rows)
