use Rattle.std.proofs.Common.{◌≡◌}
use Rattle.std.specs.Map.{values_of}
use Rattle.chain_owners.specs.Counts.{Grows}
use Rattle.level_tables.proofs.Owning.{Disowning}
use Rattle.level_tables.proofs.shares.disown_each.Given as goal

abbrev pub invariant-loop-name : goal.invariant-loop-name
invariant-loop-name g l =
    (goal.iterator-loop-name g).can_next l.name-iterator × (goal.iterator-loop-name g).is_finite l.name-iterator
    × record {
      disowning : Disowning (values_of l.entries.entries) l.name-iterator (g.C.ChainMeaning.held l.initial.chain) (g.C.ChainMeaning.held l.chain);
      counts : Grows 0 (g.C.ChainMeaning.counts l.initial.chain) (g.C.ChainMeaning.counts l.chain);
      loans : g.C.ChainMeaning.loans l.chain ≡ g.C.ChainMeaning.loans l.initial.chain;
      valid : g.C.ChainMeaning.is_valid l.initial.chain → g.C.ChainMeaning.is_valid l.chain;
    }
