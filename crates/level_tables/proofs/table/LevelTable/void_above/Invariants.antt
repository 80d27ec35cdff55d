use Rattle.std.proofs.Common.{◌≡◌}
use Rattle.model_images.specs.Level.{tile_at_level}
use Rattle.level_tables.specs.Steps.{VoidsAbove, state}
use Rattle.level_tables.proofs.table.LevelTable.void_above.Given as goal

abbrev pub invariant-loop-level : goal.invariant-loop-level
invariant-loop-level g l = record {
  above : l.above ≡ tile_at_level l.fn.at l.level;
  voided : VoidsAbove l.fn.at l.level
      (state l.initial.self.tiles (g.C.ChainMeaning.held l.initial.chain) (g.C.ChainMeaning.counts l.initial.chain))
      (state l.self.tiles (g.C.ChainMeaning.held l.chain) (g.C.ChainMeaning.counts l.chain));
  room : l.self.room ≡ l.initial.self.room;
  loans : g.C.ChainMeaning.loans l.chain ≡ g.C.ChainMeaning.loans l.initial.chain;
  valid : g.C.ChainMeaning.is_valid l.initial.chain → g.C.ChainMeaning.is_valid l.chain;
}
