use Rattle.std.proofs.Common.{◌+◌, length, arith, subst, sym}
use Rattle.plain_graphs.specs.Needs.{AreBelow}
use Rattle.plain_graphs.proofs.NeedLaws.{below-le}
use Rattle.plain_graphs.proofs.needs.strip_of.Goals as goal

pub returns-clause-indices : goal.returns-clause-indices
returns-clause-indices c =
    subst (AreBelow (length c.args.facts.now)) (sym c.new-need.ensures)
    (below-le (c.args.node + 1) (length c.args.facts.now) c.in_ok-needed.field-0.items (omega arith) c.in_ok-needed.ensures.indices)
