use Rattle.std.proofs.Common.{◌≡◌, ◌+◌, ◌≤◌, drop, length}
use Rattle.level_tables.specs.Steps.{state}
use Rattle.level_tables.proofs.SwitchingAll.{Switching}
use Rattle.level_tables.proofs.table.LevelTable.switch.Given as goal

abbrev pub invariant-loop-entry : goal.invariant-loop-entry
invariant-loop-entry g l = record {
  switching : Switching l.fn.tiles.entries (drop l.entry-index l.fn.tiles.entries)
      (state l.initial.self.tiles (g.C.ChainMeaning.held l.initial.chain) (g.C.ChainMeaning.counts l.initial.chain))
      (state l.self.tiles (g.C.ChainMeaning.held l.chain) (g.C.ChainMeaning.counts l.chain));
  room : length l.fn.tiles.entries ≤ l.self.room + l.entry-index;
  loans : g.C.ChainMeaning.loans l.chain ≡ g.C.ChainMeaning.loans l.initial.chain;
  valid : g.C.ChainMeaning.is_valid l.initial.chain → g.C.ChainMeaning.is_valid l.chain;
}
