use Rattle.std.proofs.Common.{◌≡◌, length, ap, arith}
use Rattle.patch_abyss.proofs.CopiedRows.{AreRows-none, AreRows-next, length-row, get_or-row}
use Rattle.patch_abyss.proofs.rows.cut_rows.Goals as goal

pub loop-row-init : goal.loop-row-init
loop-row-init c = AreRows-none c.args.rows c.args.count c.args.from.now c.in_ok-bytes.bytes.items (ap length c.in_ok-bytes.ensures.items)

pub loop-row-preserved : goal.loop-row-preserved
loop-row-preserved c =
    let rows = c.args.rows in
    let count = c.args.count in
    let from = c.args.from.now in
    let j = c.loop-row.row in
    let row = c.row in
    let inside = c.requires.from j c.loop-row-test.true in
    AreRows-next rows count j from c.loop-row.bytes.items _ c.extend_from_slice.new.self.items
    (length-row rows count j row.result.start row.result.end from row.ensures.start row.ensures.end inside)
    (get_or-row rows count j row.result.start row.result.end from row.ensures.start row.ensures.end inside)
    c.in_ok-extend_from_slice.ensures.items c.loop-row.invariant

pub returns : goal.returns
returns c =
    let all : c.loop-row.row ≡ c.args.many = omega (arith, c.loop-row-test.false, c.loop-row.auto.row-end) in
    rw all at c.loop-row.invariant
