use Rattle.std.proofs.Common.{◌≡◌, Err, sym, rules}
use Rattle.chain_contracts.specs.Tiles.{emptied}
use Rattle.tile_chain.proofs.CacheCallLaws.{moves-beneath, moves-none}
use Rattle.tile_chain.proofs.Moves.{last-known, laws-moved, lacks-moved, moved-cause, moved-held, moved-report}
use Rattle.tile_chain.proofs.cache_handler.CacheHandler.evict_once.Goals as goal

pub put_where_missing-requires : goal.put_where_missing-requires
put_where_missing-requires g c =
    last-known c.args.self.now.tiles.entries c.in-Some.name.now c.in-Some.tile.now (g.H.ChainMeaning.held c.args.self.now.below) (sym c.in-Some.ensures)
    c.args.self.now.tiles.cap (g.H.ChainMeaning.same_names c.args.self.now.below) c.len.ensures.valid.0 c.args.self.now.cached

pub returns-in_default-clause-moves : goal.returns-in_default-clause-moves
returns-in_default-clause-moves g c = moves-none g.H.ChainMeaning c.args.self.now.tiles c.args.self.now.below

pub returns-in_err-put_where_missing-clause-moves : goal.returns-in_err-put_where_missing-clause-moves
returns-in_err-put_where_missing-clause-moves g c =
    moves-beneath g.H.ChainMeaning c.args.self.now.tiles c.args.self.now.below c.put_where_missing.new.below
    c.in_err-put_where_missing.ensures.unchanged c.put_where_missing.ensures.continues c.put_where_missing.ensures.loans c.put_where_missing.ensures.valid

pub returns-in_err-put_where_missing-clause-refused : goal.returns-in_err-put_where_missing-clause-refused
returns-in_err-put_where_missing-clause-refused g c =
    let same : c.from_residual.result ≡ Err c.in_err-put_where_missing.field-0.0 = search rules in
    rw same (record {
      cause = moved-cause c.args.self.now.tiles.entries c.in-Some.name.now c.in-Some.tile.now (g.H.ChainMeaning.held c.args.self.now.below) (sym c.in-Some.ensures)
          (emptied (g.H.ChainMeaning.counts c.args.self.now.below)) (g.H.ChainMeaning.counts c.put_where_missing.new.below) c.in_err-put_where_missing.field-0.0
          c.in_err-put_where_missing.ensures.cause;
      full = λ valid. moved-report c.args.self.now.tiles.entries c.in-Some.name.now c.in-Some.tile.now (g.H.ChainMeaning.held c.args.self.now.below) (sym c.in-Some.ensures)
          c.args.self.now.tiles.cap _ c.in_err-put_where_missing.field-0.0 c.len.ensures.valid.0 c.args.self.now.cached (c.in_err-put_where_missing.ensures.full valid);
    })

pub invariant_of-self-2 : goal.invariant_of-self-2
invariant_of-self-2 g c =
    rw c.pop_lru.ensures.entries (record {
      cached = laws-moved c.args.self.now.tiles.entries c.in-Some.name.now c.in-Some.tile.now (g.H.ChainMeaning.held c.args.self.now.below) (sym c.in-Some.ensures)
          c.args.self.now.tiles.cap (g.H.ChainMeaning.held c.put_where_missing.new.below) c.in_ok-put_where_missing.ensures.put c.len.ensures.valid.0
          c.args.self.now.cached;
    })

pub returns-clause-moves : goal.returns-clause-moves
returns-clause-moves g c = record {
  held = rw c.pop_lru.ensures.entries
      (moved-held c.args.self.now.tiles.entries c.in-Some.name.now c.in-Some.tile.now (g.H.ChainMeaning.held c.args.self.now.below) (sym c.in-Some.ensures)
      (g.H.ChainMeaning.held c.put_where_missing.new.below) c.in_ok-put_where_missing.ensures.put);
  capacity = search rules;
  continues = c.put_where_missing.ensures.continues;
  loans = c.put_where_missing.ensures.loans;
  valid = c.put_where_missing.ensures.valid;
}

pub returns-clause-fewer : goal.returns-clause-fewer
returns-clause-fewer g c = λ k none.
    rw c.pop_lru.ensures.entries
    (lacks-moved c.args.self.now.tiles.entries c.in-Some.name.now c.in-Some.tile.now (g.H.ChainMeaning.held c.args.self.now.below) (sym c.in-Some.ensures) k none)
