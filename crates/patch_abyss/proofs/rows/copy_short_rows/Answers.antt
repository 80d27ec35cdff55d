use Rattle.std.proofs.Common.{◌≡◌, arith}
use Rattle.patch_abyss.specs.Copied.{bytes_of}
use Rattle.patch_abyss.proofs.CopiedRows.{HasRows-none, HasRows-copied}
use Rattle.patch_abyss.proofs.rows.copy_short_rows.Goals as goal

pub loop-row-init : goal.loop-row-init
loop-row-init g c = HasRows-none c.args.targets c.args.count (bytes_of c.args.sources c.args.from.now) c.args.to.now

pub loop-row-preserved : goal.loop-row-preserved
loop-row-preserved g c =
    let j = c.loop-row.row in
    let target = c.row in
    let source = c.row-in-loop-row in
    HasRows-copied c.args.targets c.args.sources c.args.count j c.args.from.now c.args.to.now c.loop-row.to c.copy_blocks.new.to
    target.result.start target.result.end source.result.start source.result.end
    c.requires.apart target.ensures.start target.ensures.end (omega (arith, c.requires.to j c.loop-row-test.true, c.loop-row.auto.to))
    source.ensures.start source.ensures.end (c.requires.from j c.loop-row-test.true) c.copy_blocks.ensures c.loop-row.invariant

pub returns-clause-rows : goal.returns-clause-rows
returns-clause-rows g c =
    let all : c.loop-row.row ≡ c.args.many = omega (arith, c.loop-row-test.false, c.loop-row.auto.row-end) in
    rw all at c.loop-row.invariant
