use Rattle.std.proofs.Common.{◌≡◌, ◌++◌, drop}
use Rattle.model_graphs.specs.Facts.{specs_of}
use Rattle.model_states.specs.Valid.{node_names}
use Rattle.graph_commits.specs.Damages.{damages_of}
use Rattle.graph_commits.proofs.change.Change.new_damages.Given as goal

abbrev pub invariant-loop-fact : goal.invariant-loop-fact
invariant-loop-fact g l =
    l.list.items ++ damages_of g.Op.OpMeaning.same g.Op.OpMeaning.meanings l.self (node_names (specs_of (drop l.fact-index l.nodes)))
    ≡ damages_of g.Op.OpMeaning.same g.Op.OpMeaning.meanings l.self (node_names (specs_of l.nodes))
