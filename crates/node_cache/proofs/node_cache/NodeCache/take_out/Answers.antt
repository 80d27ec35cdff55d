use Rattle.std.proofs.Common.{◌∙◌, refl, rules, not, arith}
use Rattle.std.specs.Map.{values_of}
use Rattle.node_cache.proofs.Owning.{gives_up-none, gives_up-then}
use Rattle.node_cache.proofs.Voids.{tiles-begin, tiles-out, tiles-taken, turns-begin, turns-end, turns-next}
use Rattle.node_cache.specs.Keys.{is_voided}
use Rattle.node_cache.specs.NodeNames.{Entry}
use Rattle.node_cache.proofs.node_cache.NodeCache.take_out.Goals as goal

pub loop-at-init : goal.loop-at-init
loop-at-init g c = record {
  can_next = tt;
  finite = tt;
  entries = tiles-begin c.args.node c.args.rect.now c.tiles-at-items.result c.into_iter-at-iterator.result c.into_iter-at-iterator.ensures.into_iter_gives
      c.tiles-at-items.ensures.value c.tiles-at-items.ensures.meeting c.args.self.now.names.entries;
  over = c.requires;
  capacity = refl;
  given_up = gives_up-none (g.C.ChainMeaning.held c.args.chain.now) (g.C.ChainMeaning.counts c.args.chain.now) (values_of c.args.self.now.names.entries);
  loans = refl;
  valid = λ valid. valid;
}

pub loop-at-preserved : goal.loop-at-preserved
loop-at-preserved g c = record {
  can_next = tt;
  finite = tt;
  entries = tiles-taken c.args.node c.args.rect.now c.in-Some.at c.loop-at.at-iterator c.next.new.self _ _ _ c.in-Some.ensures.steps
      c.loop-at.invariant.over.distinct c.loop-at.invariant.entries c.drop_pair.ensures.entries;
  over = c.drop_pair.ensures.over;
  capacity = c.drop_pair.ensures.capacity ∙ c.loop-at.invariant.capacity;
  given_up = gives_up-then _ _ _ _ _ _ _ _ _ c.loop-at.invariant.given_up c.drop_pair.ensures.given_up;
  loans = c.drop_pair.ensures.loans ∙ c.loop-at.invariant.loans;
  valid = λ valid. c.drop_pair.ensures.valid (c.loop-at.invariant.valid valid);
}

pub returns-then-tile_count-count-clause-entries : goal.returns-then-tile_count-count-clause-entries
returns-then-tile_count-count-clause-entries g c =
    tiles-out c.args.node c.args.rect.now c.loop-at.at-iterator c.args.self.now.names.entries c.loop-at.self.names.entries (search rules) c.loop-at.invariant.entries

pub loop-turn-init : goal.loop-turn-init
loop-turn-init g c = record {
  entries = turns-begin (λ (e : Entry). not (is_voided c.args.node c.args.rect.now e.0)) c.args.self.now.names.entries _ c.len-count.ensures.len;
  count = c.len-count.ensures.len;
  over = c.requires;
  capacity = refl;
  given_up = gives_up-none (g.C.ChainMeaning.held c.args.chain.now) (g.C.ChainMeaning.counts c.args.chain.now) (values_of c.args.self.now.names.entries);
  loans = refl;
  valid = λ valid. valid;
}

pub loop-turn-preserved : goal.loop-turn-preserved
loop-turn-preserved g c = record {
  entries = turns-next (λ (e : Entry). not (is_voided c.args.node c.args.rect.now e.0)) c.args.self.now.names.entries c.loop-turn.self.names.entries
      c.turn_last.new.self.names.entries _ c.loop-turn._turn (omega arith) c.loop-turn.invariant.count c.loop-turn.invariant.entries c.turn_last.ensures.entries;
  count = c.loop-turn.invariant.count;
  over = c.turn_last.ensures.over;
  capacity = c.turn_last.ensures.capacity ∙ c.loop-turn.invariant.capacity;
  given_up = gives_up-then _ _ _ _ _ _ _ _ _ c.loop-turn.invariant.given_up c.turn_last.ensures.given_up;
  loans = c.turn_last.ensures.loans ∙ c.loop-turn.invariant.loans;
  valid = λ valid. c.turn_last.ensures.valid (c.loop-turn.invariant.valid valid);
}

pub returns-clause-entries : goal.returns-clause-entries
returns-clause-entries g c =
    turns-end (λ (e : Entry). not (is_voided c.args.node c.args.rect.now e.0)) c.args.self.now.names.entries c.loop-turn.self.names.entries
    _ c.loop-turn._turn (omega arith) c.loop-turn.invariant.entries
