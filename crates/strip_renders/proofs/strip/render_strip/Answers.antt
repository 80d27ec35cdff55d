use Rattle.std.proofs.Common.{◌≡◌, [], ℕ, ◌+◌, ◌≤◌, ◌++◌, Bool, List, Option, Some, take, drop, length, refl, sym, ap, ◌∙◌, subst, arith}
use Rattle.std.specs.Prelude.{slice_get}
use Rattle.std.proofs.lemmas.List.{map-append, take-append-drop, take_all}
use Rattle.model_graphs.specs.Facts.{specs_of}
use Rattle.model_states.specs.Cache.{Pair, all_looked_up, itself, pair_of, recent, uncounted}
use Rattle.model_states.specs.Need.{Needed}
use Rattle.chain_owners.specs.declared.swap_refused.SwapRefused.TheVariants as swaps
use Rattle.node_cache.specs.Stores.{AreWithin}
use Rattle.strip_renders.specs.Ahead.{AreNext}
use Rattle.strip_renders.specs.Moments.{IsLeft, RenderState, render_state}
use Rattle.strip_renders.specs.Steps.{RendersStrip}
use Rattle.strip_renders.specs.Strips.{HoldsNeed, IsRendered, list_after, most_names, needed_from, pairs_needed}
use Rattle.strip_renders.proofs.Moments.{cause-kept, keeps-most, left-both, left-most, refused-as}
use Rattle.strip_renders.proofs.Names.{few-names}
use Rattle.strip_renders.proofs.Nexts.{left-few, needed-past, next-few}
use Rattle.strip_renders.proofs.Turning.{IsCountedMore, index-more, keeps-none, left-none, need-none, needed-at, no-tiles, pairs-more, pairs-take, permits-more, rendered-more, right-list}
use Rattle.strip_renders.proofs.strip.render_strip.Given
use Rattle.strip_renders.proofs.strip.render_strip.Goals.{else-found, then-found}
use Rattle.strip_renders.proofs.strip.render_strip.Goals as goal

module _ (g : Given.Over) where
  abbrev state : g.row.S.Denot → g.row.C.Denot → g.row.H.Denot → ℕ → RenderState
  state sources cache chain permits = render_state g.H.ChainMeaning g.S.SourceTiles g.C.PairStore sources cache chain permits

pub loop-index-init : goal.loop-index-init
loop-index-init g c =
    let first = state g c.args.sources.now c.args.cache.now c.args.chain.now (g.K.OpKit.permits c.args.purse.now) in
    let none : c.reserve.new.self ≡ [] = c.in_ok-reserve.ensures ∙ c.new-tiles.ensures in
    record {
      index = refl;
      left = left-none first c.requires.over;
      sized = c.requires.sized;
      pairs = refl;
      held = need-none c.args.by.now.nodes.now c.reserve.new.self none;
      ahead = c.requires.ahead;
      made = λ images known right made. made;
      permits = omega arith;
      spent = omega arith;
      right = λ images known right made. right;
      bytes = λ images list known cached right made. record { cached = cached; tiles = no-tiles g.K.Op.OpMeaning.meanings c.args.by.now.nodes.now images c.reserve.new.self none };
    }

pub returns-in_err-reserve : goal.returns-in_err-reserve
returns-in_err-reserve g c =
    let first = state g c.args.sources.now c.args.cache.now c.args.chain.now (g.K.OpKit.permits c.args.purse.now) in
    let need = c.args.strip.now.need in
    let few = next-few c.args.by.now.nodes.now first.seen.pairs (needed_from c.args.strip.now c.args.later.now 0) c.args.ahead.now c.requires.ahead in
    refused-as c.from_residual.result swaps.NoMemory
    (RendersStrip g.K.Op.OpMeaning.meanings c.args.by.now.nodes.now c.args.strip.now c.args.later.now c.args.ahead.now c.args.ahead.now first first) c.from_residual.ensures.1
    (record {
      pairs = tt;
      held = tt;
      bytes = λ images list known cached right made. tt;
      right = λ images known right made. right;
      sized = c.requires.sized;
      ahead = tt;
      made = λ images known right made. tt;
      permits = (omega arith, omega (arith, few));
      keeps = keeps-most 0 (length need) first.seen first.seen (omega arith) (keeps-none first.seen);
      over = c.requires.over;
      valid = λ valid. valid;
      cause = tt;
      few_names = λ one. tt;
    })

-- ---- a tile's turn

pub hold_next-requires-clause-permits : goal.hold_next-requires-clause-permits
hold_next-requires-clause-permits g c κs within =
    let inside : c.loop-index.index ≤ length c.args.strip.now.need = omega (arith, c.loop-index-test.true, ap length c.as_slice-entry-items.ensures) in
    omega (arith, left-few c.args.strip.now c.args.later.now c.loop-index.index inside, c.requires.permits, c.loop-index.invariant.permits, c.loop-index.invariant.index)

pub hold_next-requires-clause-entry : goal.hold_next-requires-clause-entry
hold_next-requires-clause-entry g c κs within =
    needed-at c.as_slice-entry-items.result.now c.args.strip.now.need c.loop-index.index c.entry-item.result c.as_slice-entry-items.ensures c.loop-index-test.true c.entry-item.is

pub returns-in_err-found : goal.returns-in_err-found
returns-in_err-found g c =
    let first = state g c.args.sources.now c.args.cache.now c.args.chain.now (g.K.OpKit.permits c.args.purse.now) in
    let mid = state g c.loop-index.sources c.loop-index.cache c.loop-index.chain (g.K.OpKit.permits c.loop-index.purse) in
    let last = state g c.hold_next.new.sources c.hold_next.new.cache c.hold_next.new.chain (g.K.OpKit.permits c.hold_next.new.purse) in
    let nodes = c.args.by.now.nodes.now in
    let need = c.args.strip.now.need in
    let i = c.loop-index.index in
    let invariant = c.loop-index.invariant in
    let does = c.in_err-found.ensures in
    let refused = c.in_err-found.field-0.0 in
    let less : i + 1 ≤ length need = omega (arith, c.loop-index-test.true, ap length c.as_slice-entry-items.ensures) in
    let left : IsLeft (length need) first last = left-most (i + 1) (length need) first last less (left-both i 1 first mid last invariant.left does.left) in
    let most = first.seen.counts.names + length need in
    refused-as c.from_residual-in_err-found.result refused
    (RendersStrip g.K.Op.OpMeaning.meanings nodes c.args.strip.now c.args.later.now c.args.ahead.now c.hold_next.new.ahead first last) c.from_residual-in_err-found.ensures.1
    (record {
      pairs = tt;
      held = tt;
      bytes = λ images list known cached right made. tt;
      right = λ images known right made.
          does.right images (invariant.left.keeps.images ∙ known) (invariant.bytes images right.list known right.known right.right made).tiles (invariant.made images known right made)
          (invariant.right images known right made);
      sized = does.sized;
      ahead = tt;
      made = λ images known right made. tt;
      permits = (
        omega (arith, does.permits.0, invariant.spent),
        omega (arith, does.permits.1, invariant.permits, invariant.index, left-few c.args.strip.now c.args.later.now i (omega (arith, less))),
      );
      keeps = left.keeps;
      over = left.over;
      valid = left.valid;
      cause = cause-kept i (mid.seen.counts.names + 1) most first.seen mid.seen last.seen.counts refused invariant.left.keeps (omega (arith, invariant.left.keeps.counts.names, less)) does.cause;
      few_names = λ one.
          let before = pairs_needed nodes (take i need) in
          let after = pairs_needed nodes (drop i need) in
          let parts : before ++ after ≡ pairs_needed nodes need =
          sym (map-append (pair_of (specs_of nodes)) (take i need) (drop i need)) ∙ ap (pairs_needed nodes) (take-append-drop i need) in
          let within : AreWithin first.seen.capacity mid.seen.pairs =
          subst (λ (o : Option ℕ). AreWithin o mid.seen.pairs) invariant.left.keeps.capacity
          (g.met.C.PairStore.within c.loop-index.cache (g.H.ChainMeaning.held c.loop-index.chain) invariant.left.over.cache_over) in
          let few : mid.seen.counts.names + 1 ≤ most_names first.seen (pairs_needed nodes need) =
          subst (λ (pairs : List Pair). mid.seen.counts.names + 1 ≤ most_names first.seen pairs) parts
          (few-names first.seen mid.seen before after c.loop-index.applied c.loop-index.reused invariant.pairs (invariant.left.keeps.other_names one)
          (g.met.C.PairStore.few_names c.loop-index.cache) within) in
          cause-kept i (mid.seen.counts.names + 1) (most_names first.seen (pairs_needed nodes need)) first.seen mid.seen last.seen.counts refused invariant.left.keeps few does.cause;
    })

pub loop-index-preserved : goal.loop-index-preserved
loop-index-preserved g c =
    let first = state g c.args.sources.now c.args.cache.now c.args.chain.now (g.K.OpKit.permits c.args.purse.now) in
    let mid = state g c.loop-index.sources c.loop-index.cache c.loop-index.chain (g.K.OpKit.permits c.loop-index.purse) in
    let last = state g c.hold_next.new.sources c.hold_next.new.cache c.hold_next.new.chain (g.K.OpKit.permits c.hold_next.new.purse) in
    let nodes = c.args.by.now.nodes.now in
    let meanings = g.K.Op.OpMeaning.meanings in
    let need = c.args.strip.now.need in
    let i = c.loop-index.index in
    let n = c.entry-item.result in
    let found : slice_get need i ≡ Some n = needed-at c.as_slice-entry-items.result.now need i n c.as_slice-entry-items.ensures c.loop-index-test.true c.entry-item.is in
    let pair = pair_of (specs_of nodes) n in
    let invariant = c.loop-index.invariant in
    let does = c.in_ok-found.ensures in
    let more : IsCountedMore c.in_ok-found.found c.loop-index.applied c.loop-index.reused c.if-found.applied c.if-found.reused = elim c.if-found.branch [
      | then-found w ↦ subst (λ (b : Bool). IsCountedMore b c.loop-index.applied c.loop-index.reused c.if-found.applied c.if-found.reused) (sym w.if-found.true) (w.applied-is, w.reused-is)
      | else-found w ↦ subst (λ (b : Bool). IsCountedMore b c.loop-index.applied c.loop-index.reused c.if-found.applied c.if-found.reused) (sym w.if-found.false) (w.applied-is, w.reused-is)
    ] in
    let capacity : mid.seen.capacity ≡ first.seen.capacity = invariant.left.keeps.capacity in
    record {
      index = index-more c.in_ok-found.found c.loop-index.applied c.loop-index.reused c.if-found.applied c.if-found.reused i more invariant.index;
      left = left-both i 1 first mid last invariant.left does.left;
      sized = does.sized;
      pairs =
          pairs-more first.seen.capacity mid.seen.pairs last.seen.pairs pair c.in_ok-found.found c.loop-index.applied c.loop-index.reused c.if-found.applied c.if-found.reused first.seen.pairs
          (pairs_needed nodes (take i need)) invariant.pairs
          (subst (λ (o : Option ℕ). last.seen.pairs ≡ recent itself itself o mid.seen.pairs pair) capacity does.recent.pairs) does.recent.there more
          ∙ ap (all_looked_up itself itself first.seen.capacity (uncounted first.seen.pairs)) (sym (pairs-take nodes need i n found));
      held = does.held;
      ahead = does.ahead;
      made = λ images known right made.
          does.made images (invariant.left.keeps.images ∙ known) (invariant.bytes images right.list known right.known right.right made).tiles (invariant.made images known right made);
      permits = permits-more c.in_ok-found.found c.loop-index.applied c.loop-index.reused c.if-found.applied c.if-found.reused
          (first.permits + length c.args.ahead.now) mid.permits last.permits (length c.loop-index.ahead) (length c.hold_next.new.ahead)
          more invariant.permits does.permits.1;
      spent = omega (arith, invariant.spent, does.permits.0);
      right = λ images known right made.
          does.right images (invariant.left.keeps.images ∙ known) (invariant.bytes images right.list known right.known right.right made).tiles (invariant.made images known right made)
          (invariant.right images known right made);
      bytes = λ images list known cached right made.
          let before = invariant.bytes images list known cached right made in
          let now = list_after meanings nodes images first.seen.capacity list (pairs_needed nodes (take i need)) in
          let is_right = right-list meanings nodes images mid.seen.cached now (invariant.right images known (record { list = list; known = cached; right = right }) made) before.cached in
          subst (λ (pairs : List Pair). IsRendered meanings nodes images first.seen last.seen list pairs c.hold_next.new.tiles) (sym (pairs-take nodes need i n found))
          (rendered-more meanings nodes images first.seen mid.seen last.seen list (pairs_needed nodes (take i need)) pair c.hold_next.new.tiles capacity
          (does.bytes images now (invariant.left.keeps.images ∙ known) before.tiles (invariant.made images known (record { list = list; known = cached; right = right }) made) before.cached is_right));
    }

pub returns : goal.returns
returns g c =
    let first = state g c.args.sources.now c.args.cache.now c.args.chain.now (g.K.OpKit.permits c.args.purse.now) in
    let last = state g c.loop-index.sources c.loop-index.cache c.loop-index.chain (g.K.OpKit.permits c.loop-index.purse) in
    let nodes = c.args.by.now.nodes.now in
    let need = c.args.strip.now.need in
    let i = c.loop-index.index in
    let invariant = c.loop-index.invariant in
    let past : length need ≤ i = omega (arith, c.loop-index-test.false, ap length c.as_slice-entry-items.ensures) in
    let all : take i need ≡ need = take_all i need past in
    let left : IsLeft (length need) first last = left-most i (length need) first last (omega (arith, c.loop-index.auto.index-end, ap length c.as_slice-entry-items.ensures)) invariant.left in
    record {
      pairs = invariant.pairs ∙ ap (λ (list : List Needed). all_looked_up itself itself first.seen.capacity (uncounted first.seen.pairs) (pairs_needed nodes list)) all;
      held = subst (λ (list : List Needed). HoldsNeed nodes list c.loop-index.tiles) all invariant.held;
      bytes = λ images list known cached right made.
          subst (λ (list' : List Needed). IsRendered g.K.Op.OpMeaning.meanings nodes images first.seen last.seen list (pairs_needed nodes list') c.loop-index.tiles) all
          (invariant.bytes images list known cached right made);
      right = λ images known right made. invariant.right images known right made;
      sized = invariant.sized;
      ahead = subst (λ (list : List Needed). AreNext nodes last.seen.pairs list c.loop-index.ahead) (needed-past c.args.strip.now c.args.later.now i past) invariant.ahead;
      made = λ images known right made. invariant.made images known right made;
      permits = omega (arith, invariant.permits);
      keeps = left.keeps;
      over = left.over;
      valid = left.valid;
      cause = tt;
      few_names = λ one. tt;
    }
