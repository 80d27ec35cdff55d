use Rattle.std.proofs.Common.{◌≡◌, [], ℕ, ◌+◌, ◌-◌, ◌^◌, ◌<◌, ◌≤◌, ◌++◌, List, take, drop, length, refl, sym, ap, ◌∙◌, subst, arith}
use Rattle.std.specs.Prelude.{slice_get, Some}
use Rattle.std.proofs.lemmas.List.{drop_all, length-map, take_all}
use Rattle.model_graphs.specs.declared.node.NodeFact.{NodeFact}
use Rattle.model_graphs.specs.Meanings.{Meanings}
use Rattle.model_states.specs.declared.strip.Strip.{Strip}
use Rattle.model_states.specs.Cache.{Pair}
use Rattle.model_states.specs.Need.{strip_of}
use Rattle.plane_rect.specs.Tile.{strip_rectangles}
use Rattle.plane_rect.specs.Rectangle.{Rectangle}
use Rattle.chain_owners.specs.declared.swap_refused.SwapRefused.TheVariants as swaps
use Rattle.strip_renders.specs.Ahead.{AreNext, MadeTiles}
use Rattle.strip_renders.specs.Moments.{RenderState, render_state}
use Rattle.strip_renders.specs.Strips.{needs_of, pairs_needed}
use Rattle.strip_patches.specs.Nodes.{image_at}
use Rattle.strip_patches.specs.Shown.{HasStripsOf, source_in}
use Rattle.render_workers.specs.Parts.{IsExcused, Leaves, LooksUp}
use Rattle.render_workers.specs.Renders.{RendersStrips}
use Rattle.strip_renders.proofs.Moments.{refused-as}
use Rattle.strip_renders.proofs.Nexts.{next-none}
use Rattle.render_workers.proofs.Joined.{excused-later, leaves-both, leaves-ended, leaves-none, looks-both, looks-none}
use Rattle.render_workers.proofs.Needs.{later-is, needs-from, pairs-from, pairs-more, pairs-parted, pairs_of}
use Rattle.render_workers.proofs.Turns.{item-found, item-limits, item-permits, item-rect, item-strip, next-past, of-one, strips-later, sums-small}
use Rattle.render_workers.proofs.strips.render_strips.Given
use Rattle.render_workers.proofs.strips.render_strips.Goals.{After-add_part, After-index-plan-index, After-loop-index}
use Rattle.render_workers.proofs.strips.render_strips.Goals as goal

module _ (g : Given.Over) where
  abbrev state : g.row.S.Denot → g.row.C.Denot → g.row.H.Denot → ℕ → RenderState
  state sources cache chain permits = render_state g.H.ChainMeaning g.S.SourceTiles g.C.PairStore sources cache chain permits

pub returns-in_err-inputs : goal.returns-in_err-inputs
returns-in_err-inputs g c =
    let first = state g c.args.sources.now c.args.cache.now c.args.chain.now (g.K.OpKit.permits c.args.purse.now) in
    let meanings = g.K.Op.OpMeaning.meanings in
    let nodes = c.args.nodes.now in
    let plan = c.args.plan.now in
    refused-as c.from_residual.result swaps.NoMemory (RendersStrips meanings nodes c.args.node plan c.args.strips.now c.args.strips.now first first) c.from_residual.ensures.1
    (record {
      looks = tt;
      request = record { rect = refl; at_level = refl; source = refl; format = refl; patch = refl };
      image = λ images known right has. tt;
      leaves = leaves-ended meanings nodes [] (pairs_of nodes plan) first first [] [] (omega arith) (leaves-none meanings nodes first [] c.requires.over);
      excused = record { each = tt; few = λ one. tt };
    })

pub loop-index-init : goal.loop-index-init
loop-index-init g c =
    let meanings = g.K.Op.OpMeaning.meanings in
    let nodes = c.args.nodes.now in
    let first = state g c.args.sources.now c.args.cache.now c.args.chain.now (g.K.OpKit.permits c.args.purse.now) in
    let none = sym c.new-ahead.ensures in
    record {
      looks = subst (λ (made : MadeTiles). LooksUp meanings nodes [] 0 0 first first [] made) none (looks-none meanings nodes first []);
      leaves = subst (λ (made : MadeTiles). Leaves meanings nodes [] first first [] made) none (leaves-none meanings nodes first [] c.requires.over);
      ahead = next-none nodes first.seen.pairs (needs_of c.args.plan.now) c.new-ahead.result c.new-ahead.ensures;
      request = record { rect = refl; at_level = refl; source = refl; format = refl; patch = refl };
      image = λ images known right has. has;
    }

-- ---- a strip's turn

module _ (g : Given.Over) (c : After-index-plan-index g) where
  abbrev meanings : Meanings g.row.K-Op.Denot
  meanings = g.K.Op.OpMeaning.meanings

  abbrev nodes : List (NodeFact g.row.K-Op.Denot)
  nodes = c.args.nodes.now

  abbrev plan : List Strip
  plan = c.args.plan.now

  abbrev i : ℕ
  i = c.loop-index.index

  abbrev strip : Strip
  strip = c.index-plan-index.result

  abbrev later : List Strip
  later = take (length plan - (i + 1)) (drop (i + 1) plan)

  abbrev request : Rectangle
  request = source_in c.args.strips.now

  -- the pairs of the strips before it, its own, and those of the others
  abbrev done : List Pair
  done = pairs_of nodes (take i plan)

  abbrev mine : List Pair
  mine = pairs_needed nodes strip.need

  abbrev rest : List Pair
  rest = pairs_of nodes later

  abbrev first : RenderState
  first = state g c.args.sources.now c.args.cache.now c.args.chain.now (g.K.OpKit.permits c.args.purse.now)

  abbrev now : RenderState
  now = state g c.loop-index.sources c.loop-index.cache c.loop-index.chain (g.K.OpKit.permits c.loop-index.purse)

  abbrev made : MadeTiles
  made = c.loop-index.ahead

  parts : pairs_of nodes plan ≡ done ++ (mine ++ rest)
  parts = pairs-parted nodes plan i strip later c.loop-index-test.true c.index-plan-index.is (later-is plan i)

  more : pairs_of nodes (take (i + 1) plan) ≡ done ++ mine
  more = pairs-more nodes plan i strip later c.loop-index-test.true c.index-plan-index.is (later-is plan i)

  -- the counts stay small
  small : (next : RenderState) (made' : MadeTiles) (applied reused : ℕ) → LooksUp meanings nodes mine applied reused now next made made'
      → c.loop-index.applied + c.loop-index.reused + (applied + reused) < 2 ^ 32
  small next made' applied reused looks =
      sums-small meanings nodes plan i strip later c.loop-index-test.true c.index-plan-index.is (later-is plan i) first now made
      c.loop-index.applied c.loop-index.reused c.loop-index.invariant.looks next made' applied reused looks c.requires.few

pub add_part-requires-clause-rect : goal.add_part-requires-clause-rect
add_part-requires-clause-rect g c κs within =
    let at = (goal.at.add_part-requires-clause-rect g c).After-index-plan-index in
    item-rect (meanings g at) (nodes g at) c.args.node (request g at) (plan g at) c.requires.plan (strip g at) (i g at) c.loop-index-test.true c.index-plan-index.is

pub add_part-requires-clause-limits : goal.add_part-requires-clause-limits
add_part-requires-clause-limits g c κs within =
    let at = (goal.at.add_part-requires-clause-limits g c).After-index-plan-index in
    item-limits (meanings g at) (nodes g at) c.args.node (request g at) (plan g at) c.requires.plan (strip g at) (i g at) c.loop-index-test.true c.index-plan-index.is c.requires.limits

pub add_part-requires-clause-strip : goal.add_part-requires-clause-strip
add_part-requires-clause-strip g c κs within =
    let at = (goal.at.add_part-requires-clause-strip g c).After-index-plan-index in
    item-strip (meanings g at) (nodes g at) c.args.node (request g at) (plan g at) c.requires.plan (strip g at) (i g at) c.loop-index-test.true c.index-plan-index.is

pub add_part-requires-clause-later : goal.add_part-requires-clause-later
add_part-requires-clause-later g c κs within =
    let at = (goal.at.add_part-requires-clause-later g c).After-index-plan-index in
    strips-later (meanings g at) (nodes g at) c.args.node (request g at) (plan g at) c.requires.plan (i g at + 1) (later g at) (later-is (plan g at) (i g at))

pub add_part-requires-clause-ahead : goal.add_part-requires-clause-ahead
add_part-requires-clause-ahead g c κs within =
    let at = (goal.at.add_part-requires-clause-ahead g c).After-index-plan-index in
    rw (sym (needs-from (nodes g at) (plan g at) (i g at) (strip g at) (later g at) c.loop-index-test.true c.index-plan-index.is (later-is (plan g at) (i g at)))) c.loop-index.invariant.ahead

pub add_part-requires-clause-over : goal.add_part-requires-clause-over
add_part-requires-clause-over g c κs within = c.loop-index.invariant.leaves.left.over

pub add_part-requires-clause-sized : goal.add_part-requires-clause-sized
add_part-requires-clause-sized g c κs within = c.loop-index.invariant.leaves.sized c.requires.sized

pub add_part-requires-clause-permits : goal.add_part-requires-clause-permits
add_part-requires-clause-permits g c κs within =
    let at = (goal.at.add_part-requires-clause-permits g c).After-index-plan-index in
    item-permits (meanings g at) (nodes g at) (plan g at) (i g at) (strip g at) (later g at) c.loop-index-test.true c.index-plan-index.is (later-is (plan g at) (i g at)) (first g at) (now g at)
    (made g at) c.loop-index.applied c.loop-index.reused c.loop-index.invariant.looks c.requires.few c.requires.permits

-- ---- after it

module _ (g : Given.Over) (c : After-add_part g) where
  abbrev next : RenderState
  next = state g c.add_part.new.sources c.add_part.new.cache c.add_part.new.chain (g.K.OpKit.permits c.add_part.new.purse)

  abbrev made' : MadeTiles
  made' = c.add_part.new.ahead

pub returns-in_err-counts : goal.returns-in_err-counts
returns-in_err-counts g c =
    let at = (goal.at.returns-in_err-counts g c).After-index-plan-index in
    let then = (goal.at.returns-in_err-counts g c).After-add_part in
    let invariant = c.loop-index.invariant in
    let refused = c.in_err-counts.field-0.0 in
    let left = subst (λ (pairs : List Pair). Leaves (meanings g at) (nodes g at) pairs (now g at) (next g then) (made g at) [])
    (pairs-from (nodes g at) (strip g at) (later g at)) c.in_err-counts.ensures.left in
    refused-as c.from_residual-in_err-counts.result refused
    (RendersStrips (meanings g at) (nodes g at) c.args.node (plan g at) c.args.strips.now c.add_part.new.strips (first g at) (next g then)) c.from_residual-in_err-counts.ensures.1
    (record {
      looks = tt;
      request = of-one c.args.strips.now c.loop-index.strips c.add_part.new.strips invariant.request c.in_err-counts.ensures.request;
      image = λ images known right has. tt;
      leaves =
          subst (λ (pairs : List Pair). Leaves (meanings g at) (nodes g at) pairs (first g at) (next g then) [] []) (sym (parts g at))
          (leaves-both (meanings g at) (nodes g at) (done g at) (mine g at ++ rest g at) (first g at) (now g at) (next g then) [] (made g at) [] invariant.leaves left);
      excused =
          subst (λ (pairs : List Pair). IsExcused pairs (first g at) (next g then) refused) (sym (parts g at))
          (excused-later (meanings g at) (nodes g at) (done g at) (mine g at) (rest g at) c.loop-index.applied c.loop-index.reused (first g at) (now g at) (next g then) [] (made g at) refused
          invariant.leaves invariant.looks (g.met.C.PairStore.within c.loop-index.cache (g.H.ChainMeaning.held c.loop-index.chain) invariant.leaves.left.over.cache_over)
          c.in_err-counts.ensures.excused);
    })

pub overflow_add-applied : goal.overflow_add-applied
overflow_add-applied g c =
    let at = (goal.at.overflow_add-applied g c).After-index-plan-index in
    let then = (goal.at.overflow_add-applied g c).After-add_part in
    omega (arith, small g at (next g then) (made' g then) c.in_ok-counts.counts.applied c.in_ok-counts.counts.reused c.in_ok-counts.ensures.looks)

pub overflow_add-reused : goal.overflow_add-reused
overflow_add-reused g c =
    let at = (goal.at.overflow_add-reused g c).After-index-plan-index in
    let then = (goal.at.overflow_add-reused g c).After-add_part in
    omega (arith, small g at (next g then) (made' g then) c.in_ok-counts.counts.applied c.in_ok-counts.counts.reused c.in_ok-counts.ensures.looks)

pub loop-index-preserved : goal.loop-index-preserved
loop-index-preserved g c =
    let at = (goal.at.loop-index-preserved g c).After-index-plan-index in
    let then = (goal.at.loop-index-preserved g c).After-add_part in
    let invariant = c.loop-index.invariant in
    let counts = c.in_ok-counts.counts in
    let does = c.in_ok-counts.ensures in
    record {
      looks =
          subst (λ (pairs : List Pair). LooksUp (meanings g at) (nodes g at) pairs (c.loop-index.applied + counts.applied) (c.loop-index.reused + counts.reused) (first g at) (next g then)
          [] (made' g then)) (sym (more g at))
          (looks-both (meanings g at) (nodes g at) (done g at) (mine g at) c.loop-index.applied c.loop-index.reused counts.applied counts.reused (first g at) (now g at) (next g then)
          [] (made g at) (made' g then) invariant.leaves invariant.looks does.looks);
      leaves =
          subst (λ (pairs : List Pair). Leaves (meanings g at) (nodes g at) pairs (first g at) (next g then) [] (made' g then)) (sym (more g at))
          (leaves-both (meanings g at) (nodes g at) (done g at) (mine g at) (first g at) (now g at) (next g then) [] (made g at) (made' g then)
          invariant.leaves does.leaves);
      ahead = subst (λ (list : List Strip). AreNext (nodes g at) (g.C.PairStore.pairs c.add_part.new.cache) (needs_of list) (made' g then)) (later-is (plan g at) (i g at)) does.ahead;
      request = of-one c.args.strips.now c.loop-index.strips c.add_part.new.strips invariant.request does.request;
      image = λ images known right has.
          let kept = invariant.leaves.right images known right tt in
          does.image images (invariant.leaves.left.keeps.images ∙ known) kept.0 kept.1 (i g at) (invariant.image images known right has)
          (subst (λ (r : Rectangle). slice_get (strip_rectangles r) (i g at) ≡ Some (strip g at).rect) (sym invariant.request.source)
          (item-found (meanings g at) (nodes g at) c.args.node (request g at) (plan g at) c.requires.plan (strip g at) (i g at) c.loop-index-test.true c.index-plan-index.is));
    }

-- ---- at the end no strip is left, and no tile is ahead

module _ (g : Given.Over) (c : After-loop-index g) (past : length c.args.plan.now ≤ c.loop-index.index) where
  none : c.loop-index.ahead ≡ []
  none =
      next-past c.args.nodes.now (g.C.PairStore.pairs c.loop-index.cache) c.loop-index.ahead
      (subst (λ (list : List Strip). AreNext c.args.nodes.now (g.C.PairStore.pairs c.loop-index.cache) (needs_of list) c.loop-index.ahead) (drop_all c.loop-index.index c.args.plan.now past)
      c.loop-index.invariant.ahead)

  ended : (P : List Pair → MadeTiles → Type 0) → P (pairs_of c.args.nodes.now (take c.loop-index.index c.args.plan.now)) c.loop-index.ahead → P (pairs_of c.args.nodes.now c.args.plan.now) []
  ended P is =
      subst (λ (list : List Strip). P (pairs_of c.args.nodes.now list) []) (take_all c.loop-index.index c.args.plan.now past)
      (subst (P (pairs_of c.args.nodes.now (take c.loop-index.index c.args.plan.now))) none is)

pub returns : goal.returns
returns g c =
    let at = (goal.at.returns g c).After-loop-index in
    let past : length c.args.plan.now ≤ c.loop-index.index = omega (arith, c.loop-index-test.false) in
    let meanings = g.K.Op.OpMeaning.meanings in
    let nodes = c.args.nodes.now in
    let first = state g c.args.sources.now c.args.cache.now c.args.chain.now (g.K.OpKit.permits c.args.purse.now) in
    let last = state g c.loop-index.sources c.loop-index.cache c.loop-index.chain (g.K.OpKit.permits c.loop-index.purse) in
    let invariant = c.loop-index.invariant in
    let rectangles = strip_rectangles (source_in c.args.strips.now) in
    let count : length c.args.plan.now ≡ length rectangles = ap length c.requires.plan ∙ length-map rectangles (strip_of meanings nodes c.args.node) in
    let all : c.loop-index.index ≡ length rectangles = omega (arith, c.loop-index-test.false, c.loop-index.auto.index-end, count) in
    record {
      looks = ended g at past (λ pairs made. LooksUp meanings nodes pairs c.loop-index.applied c.loop-index.reused first last [] made) invariant.looks;
      request = invariant.request;
      image = λ images known right has.
          subst (λ (k : ℕ). HasStripsOf (image_at meanings nodes images c.args.node) k c.loop-index.strips) all (invariant.image images known right has);
      leaves = ended g at past (λ pairs made. Leaves meanings nodes pairs first last [] made) invariant.leaves;
      excused = tt;
    }
