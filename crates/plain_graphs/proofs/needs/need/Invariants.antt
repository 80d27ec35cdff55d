use Rattle.std.proofs.Common.{◌≡◌, ◌++◌, length, map, drop}
use Rattle.model_operations.specs.Meanings.{int_meanings}
use Rattle.model_states.specs.Need.{need, strip_of}
use Rattle.plain_graphs.specs.Needs.{AreStripsBelow}
use Rattle.plain_graphs.proofs.needs.need.Given as goal

abbrev pub invariant-loop-rectangle : goal.invariant-loop-rectangle
invariant-loop-rectangle l =
    record {
      strips :
          l.strips.items
          ++ map (strip_of int_meanings l.facts l.node) (drop l.rectangle-index l.rectangle-items)
          ≡ need int_meanings l.facts l.node l.fn.request;
      below : AreStripsBelow (length l.facts) l.strips.items;
    }
