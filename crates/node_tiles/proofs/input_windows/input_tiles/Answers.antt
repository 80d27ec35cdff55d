use Rattle.std.proofs.Common.{◌≡◌, ◌∷◌, List, length, sym, ap, subst, refl, arith}
use Rattle.std.specs.Prelude.{Contains}
use Rattle.plane_rect.specs.Tile.{Meets, Tile, tiles}
use Rattle.plane_rect.proofs.Lists.{Contains-first, Contains-later}
use Rattle.node_tiles.proofs.Entries.{input-from, inputs-more, there-still, tiles-more}
use Rattle.node_tiles.proofs.Reading.{reads-both, reads-none}
use Rattle.node_tiles.proofs.input_windows.input_tiles.Goals as goal

pub loop-at-init : goal.loop-at-init
loop-at-init g c =
    let given : c.into_iter-at-iterator.result ≡ c.tiles-at-items.result = c.into_iter-at-iterator.ensures.into_iter_gives in
    record {
      can = tt;
      finite = tt;
      meeting = λ t h. (c.tiles-at-items.ensures.meeting t).0 (subst (λ (ts : List Tile). Contains ts t) given h);
      rest = rw (c.new-entries.ensures.items, given) c.tiles-at-items.ensures.value;
      each = λ k d less. absurd (omega (arith, less, ap length c.new-entries.ensures.items));
      over = c.requires.over;
      reads = reads-none _;
      valid = λ is. is;
    }

pub input_tile-requires-clause-there : goal.input_tile-requires-clause-there
input_tile-requires-clause-there g c =
    let at = c.in-Some.at in
    let rest = c.next.new.self in
    let steps : c.loop-at.at-iterator ≡ at ∷ rest = c.in-Some.ensures.steps in
    let met : Meets at c.args.need = c.loop-at.invariant.meeting at (subst (λ (ts : List Tile). Contains ts at) (sym steps) (Contains-first at rest at refl)) in
    there-still (g.S.SourceTiles.facts c.args.sources.now) (g.S.SourceTiles.facts c.loop-at.sources) c.loop-at.invariant.reads.facts
    c.args.held.now c.args.body.now c.args.node at (c.requires.there.each at met)

pub loop-at-preserved : goal.loop-at-preserved
loop-at-preserved g c =
    let at = c.in-Some.at in
    let rest = c.next.new.self in
    let steps : c.loop-at.at-iterator ≡ at ∷ rest = c.in-Some.ensures.steps in
    record {
      can = tt;
      finite = tt;
      meeting = λ t h. c.loop-at.invariant.meeting t (subst (λ (ts : List Tile). Contains ts t) (sym steps) (Contains-later at rest t h));
      rest = tiles-more c.loop-at.entries.items c.push.new.self.items (at, c.in_ok-tile.tile) c.loop-at.at-iterator rest (tiles c.args.need) steps c.in_ok-push.ensures.items c.loop-at.invariant.rest;
      each = inputs-more (g.S.SourceTiles.facts c.args.sources.now) (g.S.SourceTiles.images c.args.sources.now (g.H.ChainMeaning.held c.args.chain.now)) c.args.held.now c.args.body.now c.args.node
          c.loop-at.entries.items c.push.new.self.items (at, c.in_ok-tile.tile) c.in_ok-push.ensures.items c.loop-at.invariant.each
          (input-from (g.S.SourceTiles.facts c.args.sources.now) (g.S.SourceTiles.facts c.loop-at.sources) c.loop-at.invariant.reads.facts
          c.args.held.now c.args.body.now c.args.node at
          (g.S.SourceTiles.images c.args.sources.now (g.H.ChainMeaning.held c.args.chain.now)) (g.S.SourceTiles.images c.loop-at.sources (g.H.ChainMeaning.held c.loop-at.chain))
          c.in_ok-tile.tile c.loop-at.invariant.reads.images c.in_ok-tile.ensures.tile);
      over = c.in_ok-tile.ensures.over;
      reads = reads-both _ _ _ c.loop-at.invariant.reads c.in_ok-tile.ensures.reads;
      valid = λ is. c.in_ok-tile.ensures.valid (c.loop-at.invariant.valid is);
    }

pub returns-in_err-tile-clause-reads : goal.returns-in_err-tile-clause-reads
returns-in_err-tile-clause-reads g c = reads-both _ _ _ c.loop-at.invariant.reads c.in_err-tile.ensures.reads

pub returns-in_err-push-clause-reads : goal.returns-in_err-push-clause-reads
returns-in_err-push-clause-reads g c = reads-both _ _ _ c.loop-at.invariant.reads c.in_ok-tile.ensures.reads
