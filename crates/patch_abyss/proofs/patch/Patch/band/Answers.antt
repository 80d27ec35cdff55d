use Rattle.std.proofs.Common.{◌≡◌, ℕ, ◌+◌, ◌-◌, ◌*◌, List, length, sym, ap, ◌∙◌, arith}
use Rattle.pixel_formats.specs.Format.{pixel_bytes}
use Rattle.pixel_formats.specs.Row.{pixel_at}
use Rattle.model_images.specs.Image.{Image, at}
use Rattle.model_images.specs.FromRaw.{byte_count, image_from_raw}
use Rattle.patch_abyss.proofs.FilledRows.{RowsFilled-all, RowsFilled-by_pixels}
use Rattle.patch_abyss.proofs.patch.Patch.band.Goals as goal

pub from_vec-requires-clause-count : goal.from_vec-requires-clause-count
from_vec-requires-clause-count c =
    let image = c.args.self.now in
    let rows = c.args.rows in
    let n = pixel_bytes image.format in
    let high : c.end_row.result - c.first_row.result ≡ rows.height = omega (arith, c.end_row.ensures.value, c.first_row.ensures.value) in
    let whole : length c.in_ok-bytes.bytes.items ≡ byte_count rows image.format =
    ap length c.in_ok-bytes.ensures.items
    ∙ c.rows.ensures.len
    ∙ ap (λ (m : ℕ). m * (image.box.width * n)) high
    ∙ ap (λ (m : ℕ). rows.height * (m * n)) c.requires.rows.width
    ∙ omega arith in
    whole ∙ ap (λ (shown : Image). byte_count rows shown.format) (sym c.self.view_is)

pub returns : goal.returns
returns c =
    let image = c.args.self.now in
    let rows = c.args.rows in
    let bytes = c.in_ok-bytes.bytes.items in
    c.from_vec.ensures
    ∙ ap (λ (shown : Image). image_from_raw rows shown.format bytes) c.self.view_is
    ∙ RowsFilled-all rows image.format (at image) bytes
    (RowsFilled-by_pixels rows image.format (at image) rows.height bytes
    (λ j k channel below inside known.
    let down : rows.first_row + j - c.first_row.result ≡ j = omega (arith, c.first_row.ensures.value) in
    let aside : rows.first_column + k - image.box.first_column ≡ k = omega (arith, c.requires.rows.first_column) in
    let index : j * rows.width + k ≡ (rows.first_row + j - c.first_row.result) * image.box.width + (rows.first_column + k - image.box.first_column) =
    omega (arith, aside, ap (λ (m : ℕ). m * image.box.width) down, ap (λ (m : ℕ). j * m) c.requires.rows.width) in
    ap (λ (xs : List ℕ). pixel_at image.format xs (j * rows.width + k) channel) c.in_ok-bytes.ensures.items
    ∙ ap (λ (i : ℕ). pixel_at image.format c.rows.result.now i channel) index
    ∙ c.rows.ensures.samples (rows.first_column + k) (rows.first_row + j) channel (omega (arith, c.requires.rows.first_column), omega (arith, c.requires.rows.first_column, c.requires.rows.width))
    (omega (arith, c.first_row.ensures.value)) (omega (arith, c.end_row.ensures.value)) known))
