use Rattle.std.proofs.Common.{◌+◌, ℕ, List, drop, refl, ap, ◌∙◌, arith}
use Rattle.std.specs.Map.{values_of}
use Rattle.std.specs.Option.{is_some}
use Rattle.plane_rect.specs.Tile.{Tile}
use Rattle.chain_owners.proofs.Growing.{continues-both, continues-same}
use Rattle.level_tables.proofs.Owning.{disowning-end, disowning-first, disowning-next, disowning-there}
use Rattle.level_tables.proofs.SwitchingAll.{next-left, none-left}
use Rattle.level_tables.proofs.new_tiles.NewTiles.discard.Goals as goal

pub loop-entry-init : goal.loop-entry-init
loop-entry-init g c = record {
  disowning = disowning-first (values_of c.args.self.entries) (g.C.ChainMeaning.held c.args.chain.now) c.requires.owned
      (λ q some. ap is_some ((c.requires.named q some).length));
  counts = record { continues = continues-same (g.C.ChainMeaning.counts c.args.chain.now); names = omega arith };
  loans = refl;
  valid = λ is. is;
}

pub disown-requires : goal.disown-requires
disown-requires g c =
    let all = c.args.self.entries in
    let i = c.loop-entry.entry-index in
    let is = next-left all c.entries-entry-items.result.now c.entries-entry-items.ensures i c.entry-item.result c.loop-entry-test.true c.entry-item.is in
    disowning-there (values_of all) (values_of (drop i all)) (values_of (drop (i + 1) all)) c.entry-item.result.1
    (g.C.ChainMeaning.held c.args.chain.now) (g.C.ChainMeaning.held c.loop-entry.chain) (ap (λ (es : List (Tile × ℕ)). values_of es) is) c.loop-entry.invariant.disowning

pub loop-entry-preserved : goal.loop-entry-preserved
loop-entry-preserved g c =
    let all = c.args.self.entries in
    let i = c.loop-entry.entry-index in
    let is = next-left all c.entries-entry-items.result.now c.entries-entry-items.ensures i c.entry-item.result c.loop-entry-test.true c.entry-item.is in
    let kept = c.loop-entry.invariant in
    record {
      disowning = disowning-next (ap (λ (es : List (Tile × ℕ)). values_of es) is) c.disown.ensures.held kept.disowning;
      counts = record {
        continues = continues-both (g.C.ChainMeaning.counts c.args.chain.now) (g.C.ChainMeaning.counts c.loop-entry.chain) (g.C.ChainMeaning.counts c.disown.new.self)
            kept.counts.continues c.disown.ensures.counts.continues;
        names = omega (arith, kept.counts.names, c.disown.ensures.counts.names);
      };
      loans = c.disown.ensures.loans ∙ kept.loans;
      valid = λ is. c.disown.ensures.valid (kept.valid is);
    }

pub returns-clause-others : goal.returns-clause-others
returns-clause-others g c =
    let all = c.args.self.entries in
    let i = c.loop-entry.entry-index in
    disowning-end (values_of all) (values_of (drop i all)) (g.C.ChainMeaning.held c.args.chain.now) (g.C.ChainMeaning.held c.loop-entry.chain)
    (ap (λ (es : List (Tile × ℕ)). values_of es) (none-left all c.entries-entry-items.result.now c.entries-entry-items.ensures i c.loop-entry-test.false))
    c.loop-entry.invariant.disowning

pub returns-clause-counts : goal.returns-clause-counts
returns-clause-counts g c = c.loop-entry.invariant.counts

pub returns-clause-loans : goal.returns-clause-loans
returns-clause-loans g c = c.loop-entry.invariant.loans

pub returns-clause-valid : goal.returns-clause-valid
returns-clause-valid g c = c.loop-entry.invariant.valid
