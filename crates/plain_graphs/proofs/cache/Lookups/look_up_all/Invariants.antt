use Rattle.std.proofs.Common.{◌≡◌, ◌+◌, drop, Some}
use Rattle.model_states.specs.Cache.{all_looked_up, itself}
use Rattle.plain_graphs.proofs.cache.Lookups.look_up_all.Given as goal

abbrev pub invariant-loop-pair : goal.invariant-loop-pair
invariant-loop-pair l =
    record {
      looked_up : all_looked_up itself itself (Some l.capacity) l.self (drop l.pair-index l.pairs) ≡ all_looked_up itself itself (Some l.capacity) l.initial.self l.pairs;
      counts : l.self.applied + l.self.reused ≡ l.initial.self.applied + l.initial.self.reused + l.pair-index;
    }
