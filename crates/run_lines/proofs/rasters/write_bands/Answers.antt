use Rattle.run_lines.proofs.BandWrites.{tiles-failed, tiles-no_memory, tiles-refused, tiles-written}
use Rattle.run_lines.proofs.rasters.write_bands.Goals as goal

pub returns-in-Ok-clause-leaves : goal.returns-in-Ok-clause-leaves
returns-in-Ok-clause-leaves g c = λ known text has.
    tiles-written known c.args.tiled.now c.args.file.now text has _ c.as_str.result.now
    (g.F.Shelf.files c.args.shelf.now) (g.F.Shelf.files c.write_bands.new.self) c.as_str.ensures.value c.in-Ok.ensures.leaves

pub returns-in-Err-Failed-clause-leaves : goal.returns-in-Err-Failed-clause-leaves
returns-in-Err-Failed-clause-leaves g c = λ known text has.
    tiles-failed known c.args.tiled.now c.args.file.now text has _ c.in-Err-Failed.field-0 c.as_str.result.now
    (g.F.Shelf.files c.args.shelf.now) (g.F.Shelf.files c.write_bands.new.self) c.as_str.ensures.value c.in-Err-Failed.ensures.leaves c.in-Err-Failed.field-0-is

pub returns-in-Err-NoMemory-clause-leaves : goal.returns-in-Err-NoMemory-clause-leaves
returns-in-Err-NoMemory-clause-leaves g c = λ known text has.
    tiles-no_memory known c.args.tiled.now c.args.file.now text has _ c.in-Err-NoMemory.field-0 c.as_str.result.now
    (g.F.Shelf.files c.args.shelf.now) (g.F.Shelf.files c.write_bands.new.self) c.as_str.ensures.value c.in-Err-NoMemory.ensures.leaves c.in-Err-NoMemory.field-0-is

pub returns-clause-leaves : goal.returns-clause-leaves
returns-clause-leaves g c = λ known text has.
    tiles-refused known c.args.tiled.now c.args.file.now text has _ c.in-Err-Refused.field-0 c.as_str.result.now
    (g.F.Shelf.files c.args.shelf.now) (g.F.Shelf.files c.write_bands.new.self) c.as_str.ensures.value c.in-Err-Refused.ensures.leaves _ c.in-Err-Refused.field-0-is
