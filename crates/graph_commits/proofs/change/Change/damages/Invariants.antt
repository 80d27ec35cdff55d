use Rattle.std.proofs.Common.{◌≡◌, drop, length}
use Rattle.model_graphs.specs.Facts.{specs_of}
use Rattle.model_states.specs.Damage.{damages, damages_after}
use Rattle.graph_commits.proofs.change.Change.damages.Given as goal

abbrev pub invariant-loop-fact : goal.invariant-loop-fact
invariant-loop-fact g l =
    (length l.known.items ≡ l.fact-index)
    × (damages_after g.Op.OpMeaning.same g.Op.OpMeaning.meanings l.self l.known.items (specs_of (drop l.fact-index l.self.new.nodes))
    ≡ damages g.Op.OpMeaning.same g.Op.OpMeaning.meanings l.self)
