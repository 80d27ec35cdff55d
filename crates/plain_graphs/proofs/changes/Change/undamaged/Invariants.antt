use Rattle.std.proofs.Common.{◌≡◌, ◌++◌, drop}
use Rattle.model_operations.specs.Meanings.{int_meanings, same_operation}
use Rattle.model_states.specs.Cache.{itself, without_damaged}
use Rattle.model_states.specs.Damage.{damage}
use Rattle.plain_graphs.proofs.changes.Change.undamaged.Given as goal

abbrev pub invariant-loop-pair : goal.invariant-loop-pair
invariant-loop-pair l =
    l.left.items ++ without_damaged itself (damage same_operation int_meanings l.self) (drop l.pair-index l.pairs)
    ≡ without_damaged itself (damage same_operation int_meanings l.self) l.pairs
