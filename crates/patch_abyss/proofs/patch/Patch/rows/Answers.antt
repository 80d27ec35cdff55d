use Rattle.std.proofs.Common.{◌≡◌, ◌-◌, ◌*◌, ◌≤◌, ℕ, List, length, refl, sym, ap, ◌∙◌, subst}
use Rattle.plane_rect.specs.Rectangle.{end_row}
use Rattle.pixel_formats.specs.Format.{pixel_bytes}
use Rattle.model_images.specs.Image.{Image}
use Rattle.patch_abyss.proofs.RowPixels.{AreRowsOf, rows_in_order, rows_within, length-rows, rows_samples}
use Rattle.patch_abyss.proofs.patch.Patch.rows.Goals.{After-deref}
use Rattle.patch_abyss.proofs.patch.Patch.rows.Goals as goal

-- where the rows are among the bytes of the patch
are_rows : (c : After-deref) (bytes : List ℕ) → bytes ≡ c.self.inside.bytes.items
    → AreRowsOf c.self.inside.rect c.self.inside.format c.args.rows.start c.args.rows.end c.pixel_bytes-pixel.result
    c.part_row-first.result.start c.part_row-last.result.start c.part_row-last.result.end bytes
are_rows c bytes is = record {
  first_row = subst (λ (image : Image). image.box.first_row ≤ c.args.rows.start) (sym c.self.view_is) c.requires.first_row;
  some = c.requires.some;
  end = subst (λ (image : Image). c.args.rows.end ≤ end_row image.box) (sym c.self.view_is) c.requires.end_row;
  whole = ap length is ∙ c.self.invariant.whole;
  pixel = c.pixel_bytes-pixel.ensures;
  at_f = c.part_row-first.ensures.start;
  at_l = c.part_row-last.ensures.start;
  at_z = c.part_row-last.ensures.len;
}

pub slice_bounds-result-count : goal.slice_bounds-result-count
slice_bounds-result-count c = rows_in_order (are_rows (goal.at.slice_bounds-result-count c).After-deref c.deref.result.now c.deref.ensures.value)

pub slice_bounds-result-start : goal.slice_bounds-result-start
slice_bounds-result-start c = rows_in_order (are_rows (goal.at.slice_bounds-result-start c).After-deref c.deref.result.now c.deref.ensures.value)

pub slice_bounds-result-end : goal.slice_bounds-result-end
slice_bounds-result-end c = rows_within (are_rows (goal.at.slice_bounds-result-end c).After-deref c.deref.result.now c.deref.ensures.value)

pub returns-clause-len : goal.returns-clause-len
returns-clause-len c =
    length-rows (are_rows (goal.at.returns-clause-len c).After-deref c.deref.result.now c.deref.ensures.value)
    ∙ ap (λ (image : Image). (c.args.rows.end - c.args.rows.start) * (image.box.width * pixel_bytes image.format)) c.self.view_is

pub returns-clause-samples : goal.returns-clause-samples
returns-clause-samples c =
    rw (← c.self.view_is, c.deref.ensures.value) (rows_samples (are_rows (goal.at.returns-clause-samples c).After-deref c.self.inside.bytes.items refl))
