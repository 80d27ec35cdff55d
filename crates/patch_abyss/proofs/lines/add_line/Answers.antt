use Rattle.std.proofs.Common.{◌≡◌, ℕ, ◌+◌, ◌-◌, ◌*◌, length, max, min, map, ap, ◌∙◌, subst, arith}
use Rattle.plane_rect.specs.Rectangle.{end_row, offset}
use Rattle.plane_rect.specs.Tile.{tile_of}
use Rattle.pixel_formats.specs.Format.{pixel_bytes}
use Rattle.patch_abyss.specs.Lines.{HasFirstPixels, HasLine}
use Rattle.patch_abyss.proofs.FirstPixels.{has_rows}
use Rattle.patch_abyss.proofs.lines.add_line.Goals as goal

pub loop-row-preserved : goal.loop-row-preserved
loop-row-preserved c =
    let row = c.loop-row.row in
    let line = c.args.part.now.width * pixel_bytes c.args.format in
    let first = max (64 * c.args.line) c.args.part.now.first_row in
    let here : c.args.line ≡ tile_of row =
    omega (arith, c.loop-row.auto.row, c.loop-row-test.true, c.max-first.ensures, c.min-end.ensures) in
    let more : row + 1 - first ≡ row - first + 1 = omega (arith, c.loop-row.auto.row, c.max-first.ensures, c.first_row.ensures.value) in
    record {
      count = c.in_ok-add_row.ensures.count ∙ omega (arith, c.loop-row.invariant.count, ap (λ (n : ℕ). n * line) more);
      pixels = λ image same has before.
          c.in_ok-add_row.ensures.pixels image same
          (subst (λ n. HasLine image c.args.part.now n (map (λ tile. tile.now) c.args.tiles.now)) here has)
          (c.loop-row.invariant.pixels image same has before);
    }

-- when no row is left the line's last was reached
reached_end : (c : goal.After-loop-row) → c.loop-row.row ≡ min (64 * c.args.line + 64) (end_row c.args.part.now)
reached_end c =
    omega (
      arith,
      c.requires.first,
      c.requires.end,
      c.loop-row-test.false,
      c.loop-row.auto.row-end,
      c.max-first.ensures,
      c.min-end.ensures,
      c.end_row-last.ensures.value,
      c.first_row.ensures.value,
      has_rows c.args.part.now c.requires.some,
    )

pub returns-clause-count : goal.returns-clause-count
returns-clause-count c =
    let part = c.args.part.now in
    c.loop-row.invariant.count
    ∙ ap (λ (n : ℕ). length c.args.bytes.now.items + (n - max (64 * c.args.line) part.first_row) * (part.width * pixel_bytes c.args.format)) (reached_end c)

pub returns-clause-pixels : goal.returns-clause-pixels
returns-clause-pixels c = λ image same has before.
    let part = c.args.part.now in
    subst (λ n. HasFirstPixels image part (offset part part.first_column n) c.loop-row.bytes.items) (reached_end c)
    (c.loop-row.invariant.pixels image same has before)
