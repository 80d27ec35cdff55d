use Rattle.std.proofs.Common.{◌≡◌, ◌++◌, drop}
use Rattle.graph_commits.specs.Damages.{damages_of}
use Rattle.graph_commits.proofs.change.Change.with_gone.Given as goal

abbrev pub invariant-loop-name : goal.invariant-loop-name
invariant-loop-name g l =
    l.list.items ++ damages_of g.Op.OpMeaning.same g.Op.OpMeaning.meanings l.self (drop l.name-index l.name-items)
    ≡ l.initial.list.items ++ damages_of g.Op.OpMeaning.same g.Op.OpMeaning.meanings l.self l.name-items
