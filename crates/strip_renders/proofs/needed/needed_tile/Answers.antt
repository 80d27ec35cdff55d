use Rattle.std.proofs.Common.{◌≡◌, ℕ, ◌+◌, ◌*◌, ◌<◌, Bool, List, Option, Some, None, Result, length, refl, sym, ap, ◌∙◌, subst, arith}
use Rattle.std.specs.Prelude.{IfSome, slice_get}
use Rattle.std.specs.Option.{option_map}
use Rattle.std.proofs.lemmas.Option.{slice_get-get_or}
use Rattle.pixel_formats.specs.Format.{pixel_bytes}
use Rattle.model_graphs.specs.declared.node.NodeFact.{NodeFact}
use Rattle.model_graphs.specs.Facts.{specs_of}
use Rattle.model_graphs.specs.Node.{index_of}
use Rattle.model_graphs.specs.Shapes.{Shape}
use Rattle.model_states.specs.Cache.{Cached, Pair, by_pair, find_pair, itself, pair_bytes, pair_of}
use Rattle.model_states.proofs.CacheLaws.{all-within}
use Rattle.model_states.proofs.Indices.{index_of_name}
use Rattle.chain_owners.proofs.Causes.{cause-more}
use Rattle.chain_owners.specs.declared.swap_refused.SwapRefused.{SwapRefused}
use Rattle.chain_owners.specs.declared.swap_refused.SwapRefused.TheVariants as swaps
use Rattle.node_cache.specs.Stores.{Finds, Sized, by_sized, pair_at}
use Rattle.node_tiles.specs.Stated.{length_at, scene_of}
use Rattle.node_tiles.proofs.Places.{ready-inside, shape-at, spec-at}
use Rattle.strip_renders.specs.Looks.{HasSameCache, IsKept, IsMoved}
use Rattle.strip_renders.specs.Moments.{IsLeft, RenderState, render_state}
use Rattle.strip_renders.specs.Steps.{GivesNeeded}
use Rattle.strip_renders.specs.Strips.{AreSizedPairs, IsSizedPair}
use Rattle.strip_renders.proofs.AheadLaws.{found-none, refused-after, refused-before}
use Rattle.strip_renders.proofs.Looking.{absent-same, looked-all, none-from, none-keyed, right-bytes, same-cached, sized-long}
use Rattle.strip_renders.proofs.Moments.{Turns, cause-kept, left-both, left-most, read-left, read-same, refused-as, turn-left}
use Rattle.strip_renders.proofs.Pairs.{kept-after, named}
use Rattle.strip_renders.proofs.needed.needed_tile.Given
use Rattle.strip_renders.proofs.needed.needed_tile.Goals.{After-keep, After-look, After-made_or_evaluated, After-pixel_bytes-len, In-Some, In_default, In_ok-tile}
use Rattle.strip_renders.proofs.needed.needed_tile.Goals as goal

module _ (g : Given.Over) where
  abbrev state : g.row.S.Denot → g.row.C.Denot → g.row.H.Denot → ℕ → RenderState
  state sources cache chain permits = render_state g.H.ChainMeaning g.S.SourceTiles g.C.PairStore sources cache chain permits

  -- ---- the node's fact, and the pair of its tile

  module _ (c : After-pixel_bytes-len g) where
    abbrev nodes : List (NodeFact g.row.K-Op.Denot)
    nodes = c.args.by.now.nodes.now

    abbrev fact : NodeFact g.row.K-Op.Denot
    fact = c.index-nodes-node.result

    inside : c.args.node < length c.args.by.now.nodes.now
    inside = ready-inside nodes g.K.Op.OpMeaning.meanings c.args.held.now c.args.node c.args.at c.requires.ready

    found : slice_get c.args.by.now.nodes.now c.args.node ≡ Some c.index-nodes-node.result
    found = slice_get-get_or nodes c.args.node fact inside ∙ ap Some (sym c.index-nodes-node.is)

    pair : pair_of (specs_of c.args.by.now.nodes.now) (c.args.node, c.args.at) ≡ pair_at c.index-nodes-node.result.spec.name c.args.at
    pair = named nodes c.args.node fact c.args.at inside c.index-nodes-node.is

  -- ---- after the look: the source is unchanged

  module _ (c : After-look g) where
    abbrev x : ℕ
    x = g.K.OpKit.permits c.args.purse.now

    abbrev old : RenderState
    old = state c.args.sources.now c.args.cache.now c.args.chain.now x

    abbrev mid : RenderState
    mid = state c.args.sources.now c.look.new.self c.look.new.chain x

    -- what it promises where it ends in this state
    abbrev Does : RenderState → Result (List ℕ × Bool) SwapRefused → Type 0
    Does new result = GivesNeeded g.K.Op.OpMeaning.meanings c.args.by.now.nodes.now c.args.held.now (c.args.node, c.args.at) c.args.made old new result

    turns : Turns 0 old.seen mid.seen
    turns =
        let does = c.look.ensures in
        record { others = does.others; one_owner = does.one_owner; other_names = does.other_names; counts = does.counts; loans = does.loans; capacity = does.capacity }

    looked : IsLeft 0 old mid
    looked =
        turn-left g.H.ChainMeaning g.S.SourceTiles g.C.PairStore c.args.sources.now c.args.cache.now c.look.new.self c.args.chain.now c.look.new.chain x 0
        turns c.requires.over (g.met.S.SourceTiles.framed_condition c.args.sources.now) (g.met.S.SourceTiles.framed c.args.sources.now) c.look.ensures.over c.look.ensures.valid

  -- ---- after the tile was made: the cache is unchanged

  module _ (c : After-made_or_evaluated g) (before : IsLeft 0 (state c.args.sources.now c.args.cache.now c.args.chain.now (g.K.OpKit.permits c.args.purse.now))
      (state c.args.sources.now c.look.new.self c.look.new.chain (g.K.OpKit.permits c.args.purse.now))) where
    abbrev first : RenderState
    first = state c.args.sources.now c.args.cache.now c.args.chain.now (g.K.OpKit.permits c.args.purse.now)

    abbrev then : RenderState
    then = state c.made_or_evaluated.new.sources c.look.new.self c.made_or_evaluated.new.chain (g.K.OpKit.permits c.made_or_evaluated.new.purse)

    again : HasSameCache (state c.args.sources.now c.look.new.self c.look.new.chain 0).seen then.seen
    again =
        read-same g.H.ChainMeaning g.S.SourceTiles g.C.PairStore c.args.sources.now c.made_or_evaluated.new.sources c.look.new.self c.look.new.chain c.made_or_evaluated.new.chain
        (g.K.OpKit.permits c.args.purse.now) (g.K.OpKit.permits c.made_or_evaluated.new.purse) c.made_or_evaluated.ensures.read.reads before.over
        (g.met.C.PairStore.framed_sizes c.look.new.self) (g.met.C.PairStore.framed c.look.new.self)

    read : IsLeft 0 first then
    read =
        let does = c.made_or_evaluated.ensures.read in
        left-both 0 0 first (state c.args.sources.now c.look.new.self c.look.new.chain (g.K.OpKit.permits c.args.purse.now)) then before
        (read-left g.H.ChainMeaning g.S.SourceTiles g.C.PairStore c.args.sources.now c.made_or_evaluated.new.sources c.look.new.self c.look.new.chain c.made_or_evaluated.new.chain
        (g.K.OpKit.permits c.args.purse.now) (g.K.OpKit.permits c.made_or_evaluated.new.purse) does.reads before.over (g.met.C.PairStore.framed_condition c.look.new.self) does.over does.valid)

  -- ---- after its share was kept: the source is unchanged

  module _ (c : After-keep g) where
    abbrev before : RenderState
    before = state c.made_or_evaluated.new.sources c.look.new.self c.made_or_evaluated.new.chain (g.K.OpKit.permits c.made_or_evaluated.new.purse)

    abbrev last : RenderState
    last = state c.made_or_evaluated.new.sources c.keep.new.self c.keep.new.chain (g.K.OpKit.permits c.made_or_evaluated.new.purse)

    kept : (old : RenderState) → IsLeft 0 old before → IsLeft 1 old last
    kept old left =
        let does = c.keep.ensures in
        let turns : Turns 1 before.seen last.seen =
        record { others = does.others; one_owner = does.one_owner; other_names = does.other_names; counts = does.counts; loans = does.loans; capacity = does.capacity } in
        left-both 0 1 old before last left
        (turn-left g.H.ChainMeaning g.S.SourceTiles g.C.PairStore c.made_or_evaluated.new.sources c.look.new.self c.keep.new.self c.made_or_evaluated.new.chain c.keep.new.chain
        (g.K.OpKit.permits c.made_or_evaluated.new.purse) 1 turns left.over (g.met.S.SourceTiles.framed_condition c.made_or_evaluated.new.sources)
        (g.met.S.SourceTiles.framed c.made_or_evaluated.new.sources) does.over does.valid)

  module _ (c : In_ok-tile g) where
    sized : AreSizedPairs c.args.by.now.nodes.now (g.C.PairStore.sizes c.look.new.self (g.H.ChainMeaning.held c.look.new.chain))
    sized =
        subst (λ (list : List Sized). AreSizedPairs c.args.by.now.nodes.now list) (sym c.in_ok-tile.ensures.sizes)
        (looked-all by_sized (IsSizedPair c.args.by.now.nodes.now) (g.C.PairStore.sizes c.args.cache.now (g.H.ChainMeaning.held c.args.chain.now)) (pair_at c.index-nodes-node.result.spec.name c.args.at) c.requires.sized)

  -- ---- the pair was there, or it wasn't

  module _ (c : In-Some g) where
    finds : Finds (g.C.PairStore.pairs c.args.cache.now) (g.C.PairStore.cached c.args.cache.now (g.H.ChainMeaning.held c.args.chain.now)) (pair_at c.index-nodes-node.result.spec.name c.args.at)
        (4096 * c.pixel_bytes-len.result) (Some c.in-Some.tile)
    finds = rw c.in-Some.is at c.in_ok-tile.ensures.found

  module _ (c : In_default g) where
    abbrev pairs : List Pair
    pairs = g.C.PairStore.pairs c.args.cache.now

    abbrev sizes : List Sized
    sizes = g.C.PairStore.sizes c.args.cache.now (g.H.ChainMeaning.held c.args.chain.now)

    abbrev cached : Option (List Cached)
    cached = g.C.PairStore.cached c.args.cache.now (g.H.ChainMeaning.held c.args.chain.now)

    abbrev key : Pair
    key = pair_at c.index-nodes-node.result.spec.name c.args.at

    none : find_pair itself pairs key ≡ None
    none = none-from c.in_ok-tile.field-0 (find_pair itself pairs key) c.in_ok-tile.ensures.found.there c.in_default.is

    none_sized : find_pair by_sized sizes key ≡ None
    none_sized =
        let of_pairs = (g.met.C.PairStore.exposed c.args.cache.now (g.H.ChainMeaning.held c.args.chain.now) c.requires.over.cache_over).of_pairs in
        none-keyed by_sized sizes key (ap (λ (ps : List Pair). find_pair itself ps key) of_pairs ∙ none)

    finds_none : Finds pairs cached key (4096 * c.pixel_bytes-len.result) None
    finds_none = rw c.in_default.is at c.in_ok-tile.ensures.found

    same : HasSameCache (state c.args.sources.now c.args.cache.now c.args.chain.now 0).seen (state c.args.sources.now c.look.new.self c.look.new.chain 0).seen
    same = record {
      pairs = c.in_ok-tile.ensures.pairs ∙ absent-same itself pairs key none;
      sizes = c.in_ok-tile.ensures.sizes ∙ absent-same by_sized sizes key none_sized;
      cached = c.in_ok-tile.ensures.cached ∙ same-cached cached key finds_none.bytes;
    }

-- ---- the look

pub look-requires-clause-length : goal.look-requires-clause-length
look-requires-clause-length g c =
    let at = (goal.at.look-requires-clause-length g c).After-pixel_bytes-len in
    let sizes = g.C.PairStore.sizes c.args.cache.now (g.H.ChainMeaning.held c.args.chain.now) in
    subst (λ (k : ℕ). IfSome (find_pair by_sized sizes (pair_at c.index-nodes-node.result.spec.name c.args.at)) (λ (s : Sized). s.length ≡ 4096 * k)) (sym c.pixel_bytes-len.ensures)
    (sized-long c.args.by.now.nodes.now sizes c.args.node c.index-nodes-node.result c.args.at c.requires.stated.nodes.valid.distinct (found g at) c.requires.sized)

pub returns-in_err-tile : goal.returns-in_err-tile
returns-in_err-tile g c =
    let at = (goal.at.returns-in_err-tile g c).After-look in
    let refused = c.in_err-tile.field-0.0 in
    let does = c.in_err-tile.ensures in
    refused-as c.from_residual.result refused (Does g at (mid g at)) c.from_residual.ensures.1
    (record {
      long = tt;
      bytes = λ images known are made right. tt;
      looked = record { pairs = does.pairs; sizes = does.sizes; cached = does.cached };
      permits = refused-before (x g at) (x g at) c.args.made refl;
      sized = subst (λ (list : List Sized). AreSizedPairs c.args.by.now.nodes.now list) (sym does.sizes) c.requires.sized;
      left = left-most 0 1 (old g at) (mid g at) (omega arith) (looked g at);
      cause = cause-more (old g at).seen.counts (mid g at).seen.counts (old g at).seen.counts.names ((old g at).seen.counts.names + 1) refused (omega arith) does.cause;
    })

-- ---- the pair was there

pub returns-in-Some : goal.returns-in-Some
returns-in-Some g c =
    let at = goal.at.returns-in-Some g c in
    let meanings = g.K.Op.OpMeaning.meanings in
    let nodes = c.args.by.now.nodes.now in
    let key = pair_at c.index-nodes-node.result.spec.name c.args.at in
    let there = finds g at.In-Some in
    let its = pair g at.After-pixel_bytes-len in
    let moved : IsMoved (old g at.After-look).seen (mid g at.After-look).seen (pair_of (specs_of nodes) (c.args.node, c.args.at)) c.in-Some.tile =
    subst (λ (p : Pair). IsMoved (old g at.After-look).seen (mid g at.After-look).seen p c.in-Some.tile) (sym its)
    (record { there = sym there.there; pairs = c.in_ok-tile.ensures.pairs; sizes = c.in_ok-tile.ensures.sizes; cached = c.in_ok-tile.ensures.cached; own = there.bytes }) in
    record {
      long = there.length
          ∙ ap (λ (k : ℕ). 4096 * k) c.pixel_bytes-len.ensures
          ∙ ap (λ (s : Shape). 4096 * pixel_bytes s.format) (sym (shape-at nodes c.args.node c.index-nodes-node.result (found g at.After-pixel_bytes-len)));
      bytes = λ images known are made right.
          let bytes : Some c.in-Some.tile ≡ option_map (λ (c : Cached). c.bytes) (find_pair by_pair right.list key) =
          subst (λ (o : Option (List Cached)). IfSome o (λ (list : List Cached). Some c.in-Some.tile ≡ option_map (λ (c : Cached). c.bytes) (find_pair by_pair list key))) right.known there.bytes in
          right-bytes meanings (scene_of nodes images) right.list key c.in-Some.tile right.right bytes
          ∙ ap (pair_bytes meanings (scene_of nodes images)) (sym its);
      looked = moved;
      permits = (refl, found-none nodes (g.C.PairStore.pairs c.args.cache.now) (c.args.node, c.args.at) c.args.made c.requires.made moved.there);
      sized = sized g at.In_ok-tile;
      left = left-most 0 1 (old g at.After-look) (mid g at.After-look) (omega arith) (looked g at.After-look);
      cause = tt;
    }

-- ---- it wasn't, and the tile is made

pub made_or_evaluated-requires-clause-over : goal.made_or_evaluated-requires-clause-over
made_or_evaluated-requires-clause-over g c κs within = (looked g (goal.at.made_or_evaluated-requires-clause-over g c).After-look).over.sources_over

pub returns-in_err-tile-2 : goal.returns-in_err-tile-2
returns-in_err-tile-2 g c =
    let at = goal.at.returns-in_err-tile-2 g c in
    let made = at.After-made_or_evaluated in
    let left = looked g at.After-look in
    let start = old g at.After-look in
    let end = then g made left in
    let refused = c.in_err-tile-2.field-0.0 in
    let absent = same g at.In_default in
    let unchanged = again g made left in
    refused-as c.from_residual-in_err-tile-2.result refused (Does g at.After-look end) c.from_residual-in_err-tile-2.ensures.1
    (record {
      long = tt;
      bytes = λ images known are made right. tt;
      looked = record { pairs = absent.pairs; sizes = unchanged.sizes ∙ absent.sizes; cached = unchanged.cached ∙ absent.cached };
      permits = c.in_err-tile-2.ensures.permits;
      sized = subst (λ (list : List Sized). AreSizedPairs c.args.by.now.nodes.now list) (sym (unchanged.sizes ∙ absent.sizes)) c.requires.sized;
      left = left-most 0 1 start end (omega arith) (read g made left);
      cause = cause-kept 0 (mid g at.After-look).seen.counts.names (start.seen.counts.names + 1) start.seen (mid g at.After-look).seen end.seen.counts refused left.keeps
          (omega (arith, left.keeps.counts.names)) c.in_err-tile-2.ensures.read.cause;
    })

pub returns-in_err-share : goal.returns-in_err-share
returns-in_err-share g c =
    let at = goal.at.returns-in_err-share g c in
    let made = at.After-made_or_evaluated in
    let left = looked g at.After-look in
    let start = old g at.After-look in
    let end = then g made left in
    let absent = same g at.In_default in
    let unchanged = again g made left in
    refused-as c.from_residual-in_err-share.result swaps.NoMemory (Does g at.After-look end) c.from_residual-in_err-share.ensures.1
    (record {
      long = tt;
      bytes = λ images known are made right. tt;
      looked = record { pairs = absent.pairs; sizes = unchanged.sizes ∙ absent.sizes; cached = unchanged.cached ∙ absent.cached };
      permits = refused-after start.permits end.permits c.args.made c.in_ok-tile-2.ensures.permits;
      sized = subst (λ (list : List Sized). AreSizedPairs c.args.by.now.nodes.now list) (sym (unchanged.sizes ∙ absent.sizes)) c.requires.sized;
      left = left-most 0 1 start end (omega arith) (read g made left);
      cause = tt;
    })

-- ---- a share of it is kept

pub keep-requires-clause-over : goal.keep-requires-clause-over
keep-requires-clause-over g c =
    let at = goal.at.keep-requires-clause-over g c in
    (read g at.After-made_or_evaluated (looked g at.After-look)).over.cache_over

pub keep-requires-clause-absent : goal.keep-requires-clause-absent
keep-requires-clause-absent g c =
    let at = goal.at.keep-requires-clause-absent g c in
    ap (λ (ps : List Pair). find_pair itself ps (pair_at c.index-nodes-node.result.spec.name c.args.at)) (same g at.In_default).pairs ∙ none g at.In_default

pub returns-in_err-keep : goal.returns-in_err-keep
returns-in_err-keep g c =
    let at = goal.at.returns-in_err-keep g c in
    let made = at.After-made_or_evaluated in
    let left = looked g at.After-look in
    let start = old g at.After-look in
    let read_left = read g made left in
    let refused = c.in_err-keep.field-0.0 in
    let absent = same g at.In_default in
    let unchanged = again g made left in
    let does = c.in_err-keep.ensures in
    let sizes = does.sizes ∙ unchanged.sizes ∙ absent.sizes in
    refused-as c.from_residual-in_err-keep.result refused (Does g at.After-look (last g at.After-keep)) c.from_residual-in_err-keep.ensures.1
    (record {
      long = tt;
      bytes = λ images known are made right. tt;
      looked = record { pairs = does.pairs ∙ absent.pairs; sizes = sizes; cached = does.cached ∙ unchanged.cached ∙ absent.cached };
      permits = refused-after start.permits (last g at.After-keep).permits c.args.made c.in_ok-tile-2.ensures.permits;
      sized = subst (λ (list : List Sized). AreSizedPairs c.args.by.now.nodes.now list) (sym sizes) c.requires.sized;
      left = kept g at.After-keep start read_left;
      cause = cause-kept 0 ((then g made left).seen.counts.names + 1) (start.seen.counts.names + 1) start.seen (then g made left).seen (last g at.After-keep).seen.counts refused read_left.keeps
          (omega (arith, read_left.keeps.counts.names)) does.cause;
    })

pub returns : goal.returns
returns g c =
    let at = goal.at.returns g c in
    let made = at.After-made_or_evaluated in
    let left = looked g at.After-look in
    let start = old g at.After-look in
    let end = last g at.After-keep in
    let nodes = c.args.by.now.nodes.now in
    let fact = c.index-nodes-node.result in
    let pair_is = pair g at.After-pixel_bytes-len in
    let absent = same g at.In_default in
    let unchanged = again g made left in
    let does = c.in_ok-tile-2.ensures in
    let index : index_of (specs_of nodes) (pair_of (specs_of nodes) (c.args.node, c.args.at)).node ≡ c.args.node =
    ap (λ (p : Pair). index_of (specs_of nodes) p.node) pair_is
    ∙ index_of_name (specs_of nodes) c.args.node fact.spec c.requires.stated.nodes.valid.distinct (spec-at nodes c.args.node fact (found g at.After-pixel_bytes-len)) in
    let is : IsKept start.seen end.seen (pair_of (specs_of nodes) (c.args.node, c.args.at)) c.in_ok-tile-2.tile =
    kept-after start.seen (then g made left).seen end.seen (pair_of (specs_of nodes) (c.args.node, c.args.at)) (pair_at fact.spec.name c.args.at) c.in_ok-tile-2.tile c.in_ok-share.share pair_is
    (sym c.in_ok-share.ensures) (ap (find_pair itself start.seen.pairs) pair_is ∙ none g at.In_default) absent.pairs c.in_ok-tile.ensures.capacity (unchanged.sizes ∙ absent.sizes)
    (unchanged.cached ∙ absent.cached) c.in_ok-keep.ensures.pairs c.in_ok-keep.ensures.sizes c.in_ok-keep.ensures.cached in
    record {
      long = does.length;
      bytes = λ images known are made right. does.bytes images (left.keeps.images ∙ known) are made;
      looked = is;
      permits = does.permits;
      sized = subst (λ (list : List Sized). AreSizedPairs nodes list) (sym is.sizes)
          (all-within by_sized (IsSizedPair nodes) start.seen.capacity _
          (record { of_nodes = c.requires.of_nodes; length = does.length ∙ ap (length_at nodes) (sym index) }, c.requires.sized));
      left = kept g at.After-keep start (read g made left);
      cause = tt;
    }
