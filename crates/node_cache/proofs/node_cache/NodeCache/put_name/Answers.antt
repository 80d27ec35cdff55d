use Rattle.std.proofs.Common.{◌≡◌, ◌∷◌, ◌-◌, ℕ, Some, None, sym, ◌∙◌, arith}
use Rattle.std.specs.Prelude.{slice_get}
use Rattle.std.specs.Map.{values_of}
use Rattle.node_cache.specs.declared.pair_key.PairKey.{PairKey}
use Rattle.node_cache.proofs.Owning.{cache-after, displaced-is, fallen-tile, gives_up-fallen, gives_up-none_fallen, gives_up-one, one-more-tile, some-length}
use Rattle.node_cache.proofs.node_cache.NodeCache.put_name.Goals as goal

pub returns-in-Ok-None-clause-given_up : goal.returns-in-Ok-None-clause-given_up
returns-in-Ok-None-clause-given_up g c =
    let es = c.args.self.now.names.entries in
    let none : slice_get es (c.args.self.now.names.cap - 1) ≡ None =
    sym (displaced-is c.args.key c.args.name es c.args.self.now.names.cap c.requires.absent) ∙ sym c.in-Ok-None.ensures.old ∙ c.in-Ok-None.field-0-is in
    rw c.in-Ok-None.ensures.entries
    (gives_up-none_fallen c.args.key c.args.name es c.args.self.now.names.cap c.args.self.now.capacity
    (g.C.ChainMeaning.held c.args.chain.now) c.requires.over c.requires.owned c.requires.absent (g.C.ChainMeaning.counts c.args.chain.now) none)

pub returns-in-Ok-None-clause-over : goal.returns-in-Ok-None-clause-over
returns-in-Ok-None-clause-over g c =
    cache-after _ _ _ _ _ _ _ _ (returns-in-Ok-None-clause-given_up g c) c.requires.owned (one-more-tile _ _ _ c.requires.tile c.requires.over.tiles)
    c.requires.over.some (rw c.in-Ok-None.ensures.entries c.requires.over.same) c.len.ensures.valid.0 c.len.ensures.valid.1

pub disown-requires : goal.disown-requires
disown-requires g c =
    let es = c.args.self.now.names.entries in
    let e : PairKey × ℕ = (c.in-Ok-Some.field-0-0-0, c.in-Ok-Some.last) in
    let is : c.in-Ok-Some.field-0 ≡ Some e = cc in
    let at : slice_get es (c.args.self.now.names.cap - 1) ≡ Some e =
    sym (displaced-is c.args.key c.args.name es c.args.self.now.names.cap c.requires.absent) ∙ sym c.in-Ok-Some.ensures.old ∙ is in
    let tile = fallen-tile c.args.key c.args.name es c.args.self.now.names.cap c.args.self.now.capacity
    (g.C.ChainMeaning.held c.args.chain.now) c.requires.over c.requires.owned c.requires.absent e at in
    some-length _ tile.len tile.there

pub returns-in-Ok-Some-clause-given_up : goal.returns-in-Ok-Some-clause-given_up
returns-in-Ok-Some-clause-given_up g c =
    let es = c.args.self.now.names.entries in
    let e : PairKey × ℕ = (c.in-Ok-Some.field-0-0-0, c.in-Ok-Some.last) in
    let is : c.in-Ok-Some.field-0 ≡ Some e = cc in
    let at : slice_get es (c.args.self.now.names.cap - 1) ≡ Some e =
    sym (displaced-is c.args.key c.args.name es c.args.self.now.names.cap c.requires.absent) ∙ sym c.in-Ok-Some.ensures.old ∙ is in
    rw c.in-Ok-Some.ensures.entries
    (gives_up-fallen c.args.key c.args.name es c.args.self.now.names.cap c.args.self.now.capacity
    (g.C.ChainMeaning.held c.args.chain.now) c.requires.over c.requires.owned c.requires.absent e at
    (g.C.ChainMeaning.held c.disown.new.self) (g.C.ChainMeaning.counts c.args.chain.now) (g.C.ChainMeaning.counts c.disown.new.self) _ _
    c.disown.ensures.held c.disown.ensures.counts
    (g.C.ChainMeaning.same_counts c.args.chain.now) (g.C.ChainMeaning.same_counts c.disown.new.self))

pub returns-in-Ok-Some-clause-over : goal.returns-in-Ok-Some-clause-over
returns-in-Ok-Some-clause-over g c =
    cache-after _ _ _ _ _ _ _ _ (returns-in-Ok-Some-clause-given_up g c) c.requires.owned (one-more-tile _ _ _ c.requires.tile c.requires.over.tiles)
    c.requires.over.some (rw c.in-Ok-Some.ensures.entries c.requires.over.same) c.len-in-Ok-Some.ensures.valid.0 c.len-in-Ok-Some.ensures.valid.1

pub returns-in-Err-clause-given_up : goal.returns-in-Err-clause-given_up
returns-in-Err-clause-given_up g c =
    rw c.in-Err.ensures.err
    (gives_up-one (g.C.ChainMeaning.held c.args.chain.now) c.args.name c.requires.tile.len (values_of c.args.self.now.names.entries)
    c.requires.owned c.requires.tile.there
    (g.C.ChainMeaning.held c.disown-in-Err.new.self) (g.C.ChainMeaning.counts c.args.chain.now) (g.C.ChainMeaning.counts c.disown-in-Err.new.self) _ _
    c.disown-in-Err.ensures.held c.disown-in-Err.ensures.counts
    (g.C.ChainMeaning.same_counts c.args.chain.now) (g.C.ChainMeaning.same_counts c.disown-in-Err.new.self))

pub returns-in-Err-clause-over : goal.returns-in-Err-clause-over
returns-in-Err-clause-over g c =
    cache-after (c.args.name ∷ values_of c.args.self.now.names.entries) c.push.new.self.entries c.push.new.self.cap c.args.self.now.capacity
    (g.C.ChainMeaning.held c.args.chain.now) (g.C.ChainMeaning.held c.disown-in-Err.new.self)
    (g.C.ChainMeaning.counts c.args.chain.now) (g.C.ChainMeaning.counts c.disown-in-Err.new.self)
    (returns-in-Err-clause-given_up g c) c.requires.owned
    (one-more-tile (g.C.ChainMeaning.held c.args.chain.now) c.args.name (values_of c.args.self.now.names.entries) c.requires.tile c.requires.over.tiles)
    c.requires.over.some (rw c.in-Err.ensures.err c.requires.over.same)
    (rw c.in-Err.ensures.err c.requires.over.distinct) (rw c.in-Err.ensures.err (omega (arith, c.requires.over.fits, c.requires.over.same)))
