use Rattle.std.proofs.Common.{inr, true≢false, sym, ap, ◌∙◌}
use Rattle.level_tables.specs.LevelTiles.{Table, positions}
use Rattle.level_tables.proofs.Finding.{all-passed, passed-first, passed-next}
use Rattle.level_tables.proofs.table.LevelTable.has_below.Goals as goal

pub loop-tile-init : goal.loop-tile-init
loop-tile-init c = (
  tt,
  tt,
  passed-first (positions c.args.self.now.tiles) c.into_iter-tile-iterator.result c.args.level c.args.at
      (c.into_iter-tile-iterator.ensures.into_iter_gives ∙ c.keys-tile-items.ensures.rest ∙ ap (λ (t : Table). positions t.tiles) c.self.view_is),
)

pub loop-tile-preserved : goal.loop-tile-preserved
loop-tile-preserved c = (
  tt,
  tt,
  passed-next (positions c.args.self.now.tiles) c.loop-tile.tile-iterator c.next.new.self c.in-Some.tile.now c.args.level c.args.at c.in-Some.ensures.steps
      (λ is. true≢false (sym (c.if-eq.ensures.same.1 (c.at_level.ensures ∙ is)))) c.loop-tile.invariant.2,
)

pub returns : goal.returns
returns c = inr (all-passed (positions c.args.self.now.tiles) c.loop-tile.tile-iterator c.args.level c.args.at c.in-None.ensures.steps.0 c.loop-tile.invariant.2)
