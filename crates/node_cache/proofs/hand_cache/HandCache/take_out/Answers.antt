use Rattle.std.proofs.Common.{rules, not, arith}
use Rattle.node_cache.proofs.Voids.{tiles-begin, tiles-out, tiles-taken, turns-begin, turns-end, turns-next}
use Rattle.node_cache.specs.HandTiles.{HandEntry}
use Rattle.node_cache.specs.Keys.{is_voided}
use Rattle.node_cache.proofs.hand_cache.HandCache.take_out.Goals as goal

pub loop-at-init : goal.loop-at-init
loop-at-init c = record {
  can_next = tt;
  finite = tt;
  entries = tiles-begin c.args.node c.args.rect.now c.tiles-at-items.result c.into_iter-at-iterator.result c.into_iter-at-iterator.ensures.into_iter_gives
      c.tiles-at-items.ensures.value c.tiles-at-items.ensures.meeting c.args.self.now.tiles.entries;
  over = c.requires;
}

pub loop-at-preserved : goal.loop-at-preserved
loop-at-preserved c = record {
  can_next = tt;
  finite = tt;
  entries = tiles-taken c.args.node c.args.rect.now c.in-Some.at c.loop-at.at-iterator c.next.new.self _ _ _ c.in-Some.ensures.steps
      c.loop-at.invariant.over.distinct c.loop-at.invariant.entries c.drop_pair.ensures.entries;
  over = c.drop_pair.ensures.over;
}

pub returns-then-tile_count-count-clause-entries : goal.returns-then-tile_count-count-clause-entries
returns-then-tile_count-count-clause-entries c =
    tiles-out c.args.node c.args.rect.now c.loop-at.at-iterator c.args.self.now.tiles.entries c.loop-at.self.tiles.entries (search rules) c.loop-at.invariant.entries

pub loop-turn-init : goal.loop-turn-init
loop-turn-init c = record {
  entries = turns-begin (λ (e : HandEntry). not (is_voided c.args.node c.args.rect.now e.0)) c.args.self.now.tiles.entries _ c.len-count.ensures.len;
  count = c.len-count.ensures.len;
  over = c.requires;
}

pub loop-turn-preserved : goal.loop-turn-preserved
loop-turn-preserved c = record {
  entries = turns-next (λ (e : HandEntry). not (is_voided c.args.node c.args.rect.now e.0)) c.args.self.now.tiles.entries c.loop-turn.self.tiles.entries
      c.turn_last.new.self.tiles.entries _ c.loop-turn._turn (omega arith) c.loop-turn.invariant.count c.loop-turn.invariant.entries c.turn_last.ensures.entries;
  count = c.loop-turn.invariant.count;
  over = c.turn_last.ensures.over;
}

pub returns-clause-entries : goal.returns-clause-entries
returns-clause-entries c =
    turns-end (λ (e : HandEntry). not (is_voided c.args.node c.args.rect.now e.0)) c.args.self.now.tiles.entries c.loop-turn.self.tiles.entries
    _ c.loop-turn._turn (omega arith) c.loop-turn.invariant.entries
