use Rattle.std.proofs.Common.{◌≡◌, ℕ, ◌+◌, ◌-◌, ◌≤◌, refl, sym, ap, ◌∙◌, subst, arith}
use Rattle.plane_rect.specs.Rectangle.{Rectangle}
use Rattle.pixel_formats.specs.declared.abyss.Abyss.{Abyss}
use Rattle.model_images.specs.Abyss.{nearest, wrapped}
use Rattle.model_images.proofs.Sides.{wrapped-within}
use Rattle.patch_abyss.specs.Rows.{ReadsInOrder}
use Rattle.patch_abyss.proofs.ReadRows.{nothing_read, nothing_beyond, in_order-nearest, in_order-wrapped}
use Rattle.patch_abyss.proofs.TilesOfPatches.{some_positions}
use Rattle.patch_abyss.proofs.outside.source_rows.Goals as goal
use Rattle.patch_abyss.proofs.outside.source_rows.Goals.{else-first_row-row-via-then-first_row-row+else-row-end_row, else-first_row-row-via-else-first_row-row}

pub returns-then-is_empty-clause-reads : goal.returns-then-is_empty-clause-reads
returns-then-is_empty-clause-reads c =
    nothing_read c.args.bounds.now c.args.abyss c.args.row (c.if-is_empty.ensures.positions.0 refl)

pub returns-in-Loop-clause-reads : goal.returns-in-Loop-clause-reads
returns-in-Loop-clause-reads c =
    let box = c.args.bounds.now in
    let row = c.args.row in
    let some = some_positions box c.if-is_empty.ensures.value in
    let source = c.wrapped.result in
    let many = c.end_row-end_row.result - source in
    let is : source ≡ wrapped box.first_row box.height row =
    c.wrapped.ensures.value
    ∙ ap (λ (r : Rectangle). wrapped c.first_row-first_row.result r.height row) c.bounds.view_is
    ∙ ap (λ (first_row : ℕ). wrapped first_row box.height row) c.first_row-first_row.ensures.value in
    let within = wrapped-within box.first_row box.height row some.1 in
    let room : source + many ≤ box.first_row + box.height = omega (arith, is, within.0, within.1, c.end_row-end_row.ensures.value) in
    subst (λ (policy : Abyss). ReadsInOrder box policy row source many) (sym c.in-Loop.is) (in_order-wrapped box row source many some.1 is room)

pub returns-in-Clamp-clause-reads : goal.returns-in-Clamp-clause-reads
returns-in-Clamp-clause-reads c =
    let box = c.args.bounds.now in
    let row = c.args.row in
    let some = some_positions box c.if-is_empty.ensures.value in
    let source = c.max-nearest.result in
    let many = source + 1 - source in
    let is : source ≡ nearest box.first_row box.height row =
    omega (arith, c.max-nearest.ensures, c.min.ensures, c.first_row-first_row.ensures.value, c.end_row-end_row.ensures.value) in
    subst (λ (policy : Abyss). ReadsInOrder box policy row source many) (sym c.in-Clamp.is) (in_order-nearest box row source many some.1 is (omega arith))

pub returns-in_default : goal.returns-in_default
returns-in_default c =
    let h = c.else-first_row-row.branch in
    record {
      first_row = tt;
      some = tt;
      end_row = tt;
      reads = nothing_beyond c.args.bounds.now c.args.abyss c.args.row c.in_default.not-Clamp c.in_default.not-Loop
          (λ there.
          elim h [
            | else-first_row-row-via-then-first_row-row+else-row-end_row w ↦ absurd (omega (arith, there.0, there.1, w.if-row-end_row, c.first_row-first_row.ensures.value, c.end_row-end_row.ensures.value))
            | else-first_row-row-via-else-first_row-row w ↦ absurd (omega (arith, there.0, there.1, w.if-first_row-row, c.first_row-first_row.ensures.value, c.end_row-end_row.ensures.value))
          ]);
    }
