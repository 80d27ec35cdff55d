use Rattle.std.proofs.Common.{◌≡◌, ℕ, ◌-◌, ap, ◌∙◌}
use Rattle.outside_io.specs.Files.{file}
use Rattle.run_lines.proofs.BandParts.{band_read}
use Rattle.run_lines.specs.Bands.{bytes_of_rows}
use Rattle.run_lines.proofs.Reading.{some_each}
use Rattle.run_lines.proofs.loads.read_band.Goals as goal

pub returns-clause-read : goal.returns-clause-read
returns-clause-read g c =
    let first : c.byte_len-start.result ≡ bytes_of_rows c.args.target.now.rect c.args.target.now.format (c.args.row - c.args.target.now.rect.first_row) =
    c.byte_len-start.ensures.value ∙ ap (λ (n : ℕ). bytes_of_rows c.args.target.now.rect c.args.target.now.format (c.args.row - n)) c.first_row.ensures.value in
    some_each (g.F.Shelf.files c.args.shelf.now) _ _
    (λ files gives.
    band_read c.args.target.now.rect c.args.target.now.format c.first_row.ensures.rectangle c.args.end c.args.row c.requires.reached c.requires.begins
    c.byte_len-start.result c.byte_len-count.result c.end_row.result first c.byte_len-count.ensures.value c.end_row.ensures.value
    (file files c.args.file.now) c.read_part.result c.read_part.new.bytes.items gives)
    c.read_part.ensures.read
