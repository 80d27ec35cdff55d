use Rattle.std.proofs.Common.{◌≡◌, ◌+◌, ◌-◌, ◌%◌, arith}
use Rattle.patch_abyss.proofs.ReadRows.{repetition-aside}
use Rattle.patch_abyss.proofs.outside.rows_aside.Goals as goal

pub returns : goal.returns
returns c =
    let box = c.args.bounds.now in
    let rect = c.args.rect.now in
    let row = c.args.row in
    let end = c.end_aside-end in
    record {
      some = omega arith;
      above = omega (arith, c.if-row-first_row.false, c.first_row.ensures.value, c.requires.row);
      further = omega (arith, c.if-end-row.false);
      within = end.ensures.within;
      same = λ i below.
          let none : i % 1 ≡ 0 = omega arith in
          let here : row - 1 + i % 1 ≡ row - 1 = omega (arith, none) in
          rw here (repetition-aside box c.args.abyss (row - 1) (row + i) c.requires.still (end.ensures.aside (row + i) (omega arith) below));
    }
