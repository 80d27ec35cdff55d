use Rattle.std.proofs.Common.{◌≡◌, ℕ, ◌*◌, length, sym, ap, ◌∙◌, subst, arith}
use Rattle.plane_rect.specs.Rectangle.{Rectangle, Includes, area, offset}
use Rattle.pixel_formats.specs.Format.{pixel_bytes}
use Rattle.model_images.specs.Image.{Image, at, image_from_fn}
use Rattle.model_images.specs.FromRaw.{image_from_raw}
use Rattle.patch_abyss.specs.Copied.{AreRows, HaveRoom}
use Rattle.patch_abyss.proofs.CopiedRows.{rows_have_room}
use Rattle.patch_abyss.proofs.FilledRows.{RowsFilled-all, RowsFilled-by_pixels}
use Rattle.patch_abyss.proofs.RowPixels.{part_pixels}
use Rattle.patch_abyss.proofs.TilesOfPatches.{some_positions}
use Rattle.patch_abyss.proofs.patch.Patch.cut.Goals as goal

pub of_part-rows-requires-clause-part : goal.of_part-rows-requires-clause-part
of_part-rows-requires-clause-part c = subst (λ (image : Image). Includes image.box c.args.part) (sym c.self.view_is) c.requires.part

pub cut_rows-requires-clause-from : goal.cut_rows-requires-clause-from
cut_rows-requires-clause-from c =
    let patch = c.self.inside in
    let part = c.args.part in
    let p = c.pixel_bytes-pixel.result in
    let some = some_positions part c.requires.some in
    let inside : Includes patch.rect part = subst (λ (image : Image). Includes image.box part) (sym c.self.view_is) c.requires.part in
    let count : c.part.inside.w * p ≡ part.width * p = ap (λ (r : Rectangle). r.width * p) c.part.view_is in
    subst (λ (m : ℕ). HaveRoom c.of_part-rows.result (c.part.inside.w * p) m c.deref.result.now) (ap (λ (r : Rectangle). r.height) (sym c.part.view_is))
    (rows_have_room patch.rect part p inside some.0 some.1 c.of_part-rows.result (c.part.inside.w * p) c.deref.result.now c.of_part-rows.ensures.start c.of_part-rows.ensures.stride count
    (ap length c.deref.ensures.value ∙ c.self.invariant.whole ∙ ap (λ (m : ℕ). area patch.rect * m) (sym c.pixel_bytes-pixel.ensures)))

pub from_vec-requires-clause-count : goal.from_vec-requires-clause-count
from_vec-requires-clause-count c =
    let patch = c.self.inside in
    let part = c.args.part in
    let p = c.pixel_bytes-pixel.result in
    c.in_ok-bytes.ensures.whole
    ∙ ap (λ (r : Rectangle). r.height * (r.width * p)) c.part.view_is
    ∙ ap (λ (m : ℕ). part.height * (part.width * m)) c.pixel_bytes-pixel.ensures
    ∙ omega arith

pub returns : goal.returns
returns c =
    let patch = c.self.inside in
    let part = c.args.part in
    let p = c.pixel_bytes-pixel.result in
    let n = pixel_bytes patch.format in
    let pixel : p ≡ n = c.pixel_bytes-pixel.ensures in
    let image = image_from_raw patch.rect patch.format patch.bytes.items in
    let bytes = c.in_ok-bytes.bytes.items in
    let rows = c.of_part-rows.result in
    let inside : Includes patch.rect part = subst (λ (image : Image). Includes image.box part) (sym c.self.view_is) c.requires.part in
    let count : c.part.inside.w * p ≡ part.width * n = ap (λ (r : Rectangle). r.width * p) c.part.view_is ∙ ap (λ (m : ℕ). part.width * m) pixel in
    let high : c.part.inside.h ≡ part.height = ap (λ (r : Rectangle). r.height) c.part.view_is in
    let cut : AreRows rows (c.part.inside.w * p) part.height patch.bytes.items bytes = rw (high, c.deref.ensures.value) at c.in_ok-bytes.ensures in
    subst (λ (shown : Image). c.from_vec.result ≡ image_from_fn part shown.format (at shown)) c.self.view_is
    (c.from_vec.ensures
    ∙ RowsFilled-all part patch.format (at image) bytes
    (RowsFilled-by_pixels part patch.format (at image) part.height bytes
    (part_pixels patch.rect part patch.format rows (c.part.inside.w * p) patch.bytes.items bytes inside
    (c.of_part-rows.ensures.start ∙ ap (λ (m : ℕ). offset patch.rect part.first_column part.first_row * m) pixel)
    (c.of_part-rows.ensures.stride ∙ ap (λ (m : ℕ). patch.rect.width * m) pixel) count cut)))
