use Rattle.patch_abyss.specs.Copied.{bytes_of}
use Rattle.patch_abyss.proofs.Sides.{HasSides-rows}
use Rattle.patch_abyss.proofs.fill.fill_sides.Goals as goal

pub returns-clause-sides : goal.returns-clause-sides
returns-clause-sides c =
    HasSides-rows c.args.parts c.new-left.result c.new-right.result c.new-left.ensures c.new-right.ensures c.requires.start c.requires.end
    c.args.many c.args.pixel (bytes_of c.args.leading c.args.from.now) (bytes_of c.args.trailing c.args.from.now)
    c.args.to.now c.cycle_rows.new.to c.cycle_rows-2.new.to c.cycle_rows.ensures.rows c.cycle_rows-2.ensures.rows
