use Rattle.std.proofs.Common.{◌≡◌, ◌+◌, [], ◌∷◌, drop, length, refl, ap, ◌∙◌, arith}
use Rattle.level_tables.specs.Steps.{state}
use Rattle.level_tables.proofs.SwitchingAll.{next-left, next-named, next-owned, next-whole, none-left, switched-all, switched-bytes, switched-others, switched-positions, switching-first, switching-next}
use Rattle.level_tables.proofs.table.LevelTable.switch.Given
use Rattle.level_tables.proofs.table.LevelTable.switch.Goals.{After-entry-item, After-loop-entry}
use Rattle.level_tables.proofs.table.LevelTable.switch.Goals as goal

pub loop-entry-init : goal.loop-entry-init
loop-entry-init g c = record {
  switching = switching-first c.args.tiles.entries
      (state c.args.self.now.tiles (g.C.ChainMeaning.held c.args.chain.now) (g.C.ChainMeaning.counts c.args.chain.now))
      c.requires.over c.requires.made c.requires.owned;
  room = omega (arith, c.requires.room);
  loans = refl;
  valid = λ is. is;
}

pub switch_one-requires-clause-over : goal.switch_one-requires-clause-over
switch_one-requires-clause-over g c = c.loop-entry.invariant.switching.over

module _ (g : Given.Over) (c : After-entry-item g) where
  next : drop c.loop-entry.entry-index c.args.tiles.entries ≡ c.entry-item.result ∷ drop (c.loop-entry.entry-index + 1) c.args.tiles.entries
  next = next-left c.args.tiles.entries c.entries-entry-items.result.now c.entries-entry-items.ensures c.loop-entry.entry-index c.entry-item.result c.loop-entry-test.true c.entry-item.is

pub switch_one-requires-clause-owned : goal.switch_one-requires-clause-owned
switch_one-requires-clause-owned g c = next-owned _ _ _ _ _ _ (next g (goal.at.switch_one-requires-clause-owned g c).After-entry-item) c.loop-entry.invariant.switching

pub switch_one-requires-clause-named : goal.switch_one-requires-clause-named
switch_one-requires-clause-named g c = next-named _ _ _ _ _ _ (next g (goal.at.switch_one-requires-clause-named g c).After-entry-item) c.loop-entry.invariant.switching

pub switch_one-requires-clause-whole : goal.switch_one-requires-clause-whole
switch_one-requires-clause-whole g c = next-whole _ _ _ _ _ _ (next g (goal.at.switch_one-requires-clause-whole g c).After-entry-item) c.loop-entry.invariant.switching

pub switch_one-requires-clause-room : goal.switch_one-requires-clause-room
switch_one-requires-clause-room g c = omega (arith, c.loop-entry.invariant.room, c.loop-entry-test.true, ap length c.entries-entry-items.ensures)

pub loop-entry-preserved : goal.loop-entry-preserved
loop-entry-preserved g c =
    record {
      switching = switching-next _ _ _ _ _ _ (next g (goal.at.loop-entry-preserved g c).After-entry-item) c.loop-entry.invariant.switching
          (state c.switch_one.new.self.tiles (g.C.ChainMeaning.held c.switch_one.new.chain) (g.C.ChainMeaning.counts c.switch_one.new.chain))
          c.switch_one.ensures.switched;
      room = omega (arith, c.loop-entry.invariant.room, c.switch_one.ensures.room);
      loans = c.switch_one.ensures.loans ∙ c.loop-entry.invariant.loans;
      valid = λ is. c.switch_one.ensures.valid (c.loop-entry.invariant.valid is);
    }

-- ---- after the last

module _ (g : Given.Over) (c : After-loop-entry g) where
  none : drop c.loop-entry.entry-index c.args.tiles.entries ≡ []
  none = none-left c.args.tiles.entries c.entries-entry-items.result.now c.entries-entry-items.ensures c.loop-entry.entry-index c.loop-entry-test.false

pub returns-clause-image : goal.returns-clause-image
returns-clause-image g c = switched-all _ _ _ _ (none g (goal.at.returns-clause-image g c).After-loop-entry) c.loop-entry.invariant.switching

pub returns-clause-bytes : goal.returns-clause-bytes
returns-clause-bytes g c = switched-bytes _ _ _ _ (none g (goal.at.returns-clause-bytes g c).After-loop-entry) c.loop-entry.invariant.switching

pub returns-clause-positions : goal.returns-clause-positions
returns-clause-positions g c = switched-positions _ _ _ _ (none g (goal.at.returns-clause-positions g c).After-loop-entry) c.loop-entry.invariant.switching

pub returns-clause-others : goal.returns-clause-others
returns-clause-others g c = switched-others _ _ _ _ (none g (goal.at.returns-clause-others g c).After-loop-entry) c.loop-entry.invariant.switching

pub returns-clause-format : goal.returns-clause-format
returns-clause-format g c = c.loop-entry.invariant.switching.format

pub returns-clause-over : goal.returns-clause-over
returns-clause-over g c = c.loop-entry.invariant.switching.over

pub returns-clause-counts : goal.returns-clause-counts
returns-clause-counts g c = c.loop-entry.invariant.switching.counts

pub returns-clause-loans : goal.returns-clause-loans
returns-clause-loans g c = c.loop-entry.invariant.loans

pub returns-clause-valid : goal.returns-clause-valid
returns-clause-valid g c = c.loop-entry.invariant.valid
