use Rattle.std.proofs.Common.{◌≡◌, drop}
use Rattle.std.specs.Map.{values_of}
use Rattle.chain_owners.specs.Counts.{Grows}
use Rattle.level_tables.proofs.Owning.{Disowning}
use Rattle.level_tables.proofs.new_tiles.NewTiles.discard.Given as goal

abbrev pub invariant-loop-entry : goal.invariant-loop-entry
invariant-loop-entry g l = record {
  disowning : Disowning (values_of l.fn.self.entries) (values_of (drop l.entry-index l.fn.self.entries))
      (g.C.ChainMeaning.held l.initial.chain) (g.C.ChainMeaning.held l.chain);
  counts : Grows 0 (g.C.ChainMeaning.counts l.initial.chain) (g.C.ChainMeaning.counts l.chain);
  loans : g.C.ChainMeaning.loans l.chain ≡ g.C.ChainMeaning.loans l.initial.chain;
  valid : g.C.ChainMeaning.is_valid l.initial.chain → g.C.ChainMeaning.is_valid l.chain;
}
