use Rattle.std.proofs.Common.{◌≡◌, drop}
use Rattle.model_graphs.specs.Facts.{specs_of}
use Rattle.model_operations.specs.Meanings.{int_meanings, same_operation}
use Rattle.model_states.specs.Damage.{damages, damages_after}
use Rattle.plain_graphs.proofs.changes.Change.damages.Given as goal

abbrev pub invariant-loop-fact : goal.invariant-loop-fact
invariant-loop-fact l =
    damages_after same_operation int_meanings l.self l.known.items (specs_of (drop l.fact-index l.self.new.nodes))
    ≡ damages same_operation int_meanings l.self
