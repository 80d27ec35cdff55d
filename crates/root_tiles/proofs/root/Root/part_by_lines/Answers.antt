use Rattle.std.proofs.Common.{◌≡◌, ℕ, ◌+◌, ◌*◌, ◌/◌, ◌<◌, ◌≤◌, ◌∙◌, rules, length, max, min, sym, ap, subst, arith}
use Rattle.std.proofs.lemmas.Result.{err_from_is_err_and}
use Rattle.level_tables.specs.LevelTiles.{bytes_in}
use Rattle.model_images.specs.FromRaw.{image_from_raw}
use Rattle.model_images.specs.Image.{Image}
use Rattle.model_images.specs.Paint.{cut}
use Rattle.model_images.specs.Tiles.{held_image}
use Rattle.pixel_formats.specs.Format.{pixel_bytes}
use Rattle.pixel_formats.specs.declared.format.Format.{Format}
use Rattle.plane_rect.specs.Rectangle.{area, end_row, offset}
use Rattle.plane_rect.specs.Tile.{tile_end, tile_of}
use Rattle.patch_abyss.specs.Lines.{HasFirstPixels}
use Rattle.patch_abyss.proofs.FirstPixels.{HasFirstPixels-all, HasFirstPixels-none, has_rows}
use Rattle.root_tiles.proofs.ChainReads.{read-both, read-none, refused-later}
use Rattle.patch_abyss.proofs.LineRows.{all_pixels, all_rows, bytes_more, no_pixels, no_rows, reached_all, reached_first, reached_line, reached_next, reached_row}
use Rattle.root_tiles.proofs.LineTiles.{always-known, both-known, if-known}
use Rattle.root_tiles.proofs.root.Root.part_by_lines.Goals as goal

pub loop-line-init : goal.loop-line-init
loop-line-init g c =
    let root = c.args.self.now in
    let rect = c.args.rect in
    let held = g.C.ChainMeaning.held c.args.chain.now in
    let image = held_image root.box root.tiles.format (bytes_in held root.tiles.put) in
    let line = c.first_row-line.result / 64 in
    let rows : reached_row rect line ≡ rect.first_row =
    reached_first rect line (has_rows rect c.requires.some) (ap (λ (n : ℕ). n / 64) c.first_row-line.ensures.value) in
    record {
      read = read-none _;
      count = ap length c.in_ok-bytes.ensures.items ∙ sym (no_rows rect (reached_row rect line) (rect.width * pixel_bytes root.tiles.format) rows);
      pixels = always-known held.content image (λ i. HasFirstPixels i rect (offset rect rect.first_column (reached_row rect line)) c.in_ok-bytes.bytes.items)
          (HasFirstPixels-none image rect (offset rect rect.first_column (reached_row rect line)) c.in_ok-bytes.bytes.items
          (no_pixels rect (reached_row rect line) rows) c.in_ok-bytes.ensures.items);
    }

pub returns-in_err-add_line : goal.returns-in_err-add_line
returns-in_err-add_line g c =
    let p = err_from_is_err_and c.from_residual-in_err-add_line.result c.from_residual-in_err-add_line.ensures.1 in
    rw (p.1, p.2) (record {
      shape = tt;
      image = tt;
      cause = refused-later (g.C.ChainMeaning.counts c.args.chain.now) (g.C.ChainMeaning.counts c.loop-line.chain) (g.C.ChainMeaning.counts c.add_line.new.chain)
          c.in_err-add_line.field-0.0 c.loop-line.invariant.read.counts c.in_err-add_line.ensures.cause;
      read = read-both _ _ _ c.loop-line.invariant.read c.add_line.ensures.read;
    })

pub loop-line-preserved : goal.loop-line-preserved
loop-line-preserved g c =
    let root = c.args.self.now in
    let rect = c.args.rect in
    let line = c.loop-line.line in
    let first = g.C.ChainMeaning.held c.args.chain.now in
    let image = held_image root.box root.tiles.format (bytes_in first root.tiles.put) in
    let same : g.C.ChainMeaning.held c.loop-line.chain ≡ first = c.loop-line.invariant.read.held in
    let some = has_rows rect c.requires.some in
    let begun : tile_of rect.first_row ≤ line = omega (arith, c.loop-line.auto.line, c.first_row-line.ensures.value) in
    let ended : line < tile_end (end_row rect) = omega (arith, c.loop-line-test.true, c.div_ceil-end.ensures, c.end_row.ensures.value) in
    let before : Image → Type 0 = λ i. HasFirstPixels i rect (offset rect rect.first_column (reached_row rect line)) c.loop-line.bytes.items in
    let after : Image → Type 0 = λ i. HasFirstPixels i rect (offset rect rect.first_column (reached_row rect (line + 1))) c.add_line.new.bytes.items in
    let more : Image → Type 0 = λ i. HasFirstPixels i rect (offset rect rect.first_column (max (64 * line) rect.first_row)) c.loop-line.bytes.items
    → HasFirstPixels i rect (offset rect rect.first_column (min (64 * line + 64) (end_row rect))) c.add_line.new.bytes.items in
    record {
      read = read-both _ _ _ c.loop-line.invariant.read c.add_line.ensures.read;
      count = bytes_more rect line (rect.width * pixel_bytes root.tiles.format) (length c.loop-line.bytes.items) (length c.add_line.new.bytes.items)
          some begun ended c.loop-line.invariant.count c.in_ok-add_line.ensures.count;
      pixels = both-known first.content image before more after c.loop-line.invariant.pixels
          (rw same at c.in_ok-add_line.ensures.pixels)
          (λ was gives.
          subst (λ row. HasFirstPixels image rect (offset rect rect.first_column row) c.add_line.new.bytes.items) (sym (reached_next rect line begun))
          (gives (subst (λ row. HasFirstPixels image rect (offset rect rect.first_column row) c.loop-line.bytes.items) (reached_line rect line some ended) was)));
    }

pub from_vec-requires-clause-count : goal.from_vec-requires-clause-count
from_vec-requires-clause-count g c =
    let rect = c.args.rect in
    let all : c.loop-line.line ≡ tile_end (end_row rect) =
    omega (arith, c.loop-line-test.false, c.loop-line.auto.line, c.loop-line.auto.line-end, c.div_ceil-end.ensures, c.end_row.ensures.value, c.first_row-line.ensures.value) in
    c.loop-line.invariant.count
    ∙ all_rows rect (reached_row rect c.loop-line.line) (pixel_bytes c.args.self.now.tiles.format) (reached_all rect c.loop-line.line all)
    ∙ ap (λ (format : Format). area rect * pixel_bytes format) (sym c.format-format.ensures)

pub returns : goal.returns
returns g c =
    let root = c.args.self.now in
    let rect = c.args.rect in
    let bytes = c.loop-line.bytes.items in
    let first = g.C.ChainMeaning.held c.args.chain.now in
    let image = held_image root.box root.tiles.format (bytes_in first root.tiles.put) in
    let all : c.loop-line.line ≡ tile_end (end_row rect) =
    omega (arith, c.loop-line-test.false, c.loop-line.auto.line, c.loop-line.auto.line-end, c.div_ceil-end.ensures, c.end_row.ensures.value, c.first_row-line.ensures.value) in
    record {
      shape = search rules;
      image = if-known first.content image (λ i. HasFirstPixels i rect (offset rect rect.first_column (reached_row rect c.loop-line.line)) bytes)
          (λ i. c.from_vec.result ≡ cut i rect) c.loop-line.invariant.pixels
          (λ has. c.from_vec.ensures ∙ ap (λ (format : Format). image_from_raw rect format bytes) c.format-format.ensures
          ∙ HasFirstPixels-all image rect bytes
          (subst (λ n. HasFirstPixels image rect n bytes) (all_pixels rect (reached_row rect c.loop-line.line) (reached_all rect c.loop-line.line all)) has));
      cause = tt;
      read = c.loop-line.invariant.read;
    }
