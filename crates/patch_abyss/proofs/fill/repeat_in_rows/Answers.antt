use Rattle.std.proofs.Common.{◌≡◌, ◌%◌, ◌<◌, ◌≤◌, length, inr, ◌∙◌, arith}
use Rattle.std.proofs.Math.Nat.{mod-le}
use Rattle.patch_abyss.specs.Copied.{bytes_of, row_byte}
use Rattle.patch_abyss.proofs.CopiedRows.{HasRows-none, HasRows-next, row_after, length-row, get_or-row}
use Rattle.patch_abyss.proofs.fill.repeat_in_rows.Goals as goal

pub loop-row-init : goal.loop-row-init
loop-row-init c = HasRows-none c.args.rows c.args.count (λ j k. bytes_of c.args.rows c.args.to.now j (k % c.args.period)) c.args.to.now

pub loop-row-preserved : goal.loop-row-preserved
loop-row-preserved c =
    let rows = c.args.rows in
    let j = c.loop-row.row in
    let period = c.args.period in
    let count = c.args.count in
    let now = c.loop-row.to in
    let old = c.args.to.now in
    let a = c.row.result.start in
    let e = c.row.result.end in
    let at_a = c.row.ensures.start in
    let at_e = c.row.ensures.end in
    let room : row_byte rows j count ≤ length now = omega (arith, c.requires.to j c.loop-row-test.true, c.loop-row.auto.to) in
    let long = length-row rows count j a e now at_a at_e room in
    HasRows-next rows count j (λ j k. bytes_of rows old j (k % period)) old now c.repeat.new.bytes a e
    c.requires.apart at_a at_e room (c.repeat.ensures.len ∙ long)
    (λ k within.
    let q = k % period in
    let few : q < count = omega (arith, mod-le k period, within) in
    c.repeat.ensures.bytes k (omega (arith, within, long))
    ∙ get_or-row rows count j a e now at_a at_e room q few
    ∙ c.loop-row.invariant.kept (row_byte rows j q) (λ m above. inr (omega (arith, row_after rows count m j c.requires.apart above))))
    c.loop-row.invariant

pub returns-clause-rows : goal.returns-clause-rows
returns-clause-rows c =
    let all : c.loop-row.row ≡ c.args.many = omega (arith, c.loop-row-test.false, c.loop-row.auto.row-end) in
    rw all at c.loop-row.invariant
