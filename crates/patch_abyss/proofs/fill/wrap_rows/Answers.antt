use Rattle.patch_abyss.proofs.WrappedRows.{wrapped_short, wrapped_long}
use Rattle.patch_abyss.proofs.fill.wrap_rows.Goals as goal

pub returns-then-period-count-clause-bytes : goal.returns-then-period-count-clause-bytes
returns-then-period-count-clause-bytes c =
    wrapped_long c.args.count c.args.period c.args.first c.min-prefix.result c.min-both.result c.args.many c.requires.first c.min-prefix.ensures c.min-both.ensures
    c.args.from.now c.args.to.now c.copy_rows.new.to c.copy_rows-2.new.to
    (rw (c.new-left.ensures, c.new.ensures) at c.copy_rows.ensures.rows) (rw (c.new-right.ensures, c.new-2.ensures) at c.copy_rows-2.ensures.rows)
    c.repeat_in_rows.new.to c.if-period-count.true (rw c.new-left.ensures at c.repeat_in_rows.ensures.rows)

pub returns-else-period-count-clause-bytes : goal.returns-else-period-count-clause-bytes
returns-else-period-count-clause-bytes c =
    wrapped_short c.args.count c.args.period c.args.first c.min-prefix.result c.min-both.result c.args.many c.requires.first c.min-prefix.ensures c.min-both.ensures
    c.args.from.now c.args.to.now c.copy_rows.new.to c.copy_rows-2.new.to
    (rw (c.new-left.ensures, c.new.ensures) at c.copy_rows.ensures.rows) (rw (c.new-right.ensures, c.new-2.ensures) at c.copy_rows-2.ensures.rows)
    c.if-period-count.false
