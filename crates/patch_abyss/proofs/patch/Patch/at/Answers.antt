use Rattle.std.proofs.Common.{◌≡◌, ◌∙◌, sym, rules}
use Rattle.plane_rect.specs.Rectangle.{InsideSigned, plane_index}
use Rattle.model_images.proofs.FromRawLaws.{at-image_from_raw}
use Rattle.plane_rect.proofs.Rectangles.{InsideSigned-index}
use Rattle.patch_abyss.proofs.patch.Patch.at.Goals as goal

pub offset-position-requires : goal.offset-position-requires
offset-position-requires c =
    let h = c.if-not-has.ensures in
    let there : InsideSigned c.args.x c.args.y c.self.inside.rect = search rules in
    let column : c.plane_index.result ≡ plane_index c.args.x = search rules in
    let row : c.plane_index-2.result ≡ plane_index c.args.y = search rules in
    rw (column, row) (((InsideSigned-index c.args.x c.args.y c.self.inside.rect).0 there).2)

pub returns-clause-inside : goal.returns-clause-inside
returns-clause-inside c there =
    let patch = c.self.inside in
    let h = c.if-not-has.ensures in
    let is_inside : InsideSigned c.args.x c.args.y patch.rect = search rules in
    let column : c.plane_index.result ≡ plane_index c.args.x = search rules in
    let row : c.plane_index-2.result ≡ plane_index c.args.y = search rules in
    let is = at-image_from_raw patch.rect patch.format patch.bytes.items (plane_index c.args.x) (plane_index c.args.y) c.args.c (((InsideSigned-index c.args.x c.args.y patch.rect).0 is_inside).2) (search rules) in
    rw (← c.self.view_is)
    (c.sample_at.ensures ∙ rw (c.deref.ensures.value, c.offset-position.ensures.value, column, row, c.channels.ensures) (sym is))
