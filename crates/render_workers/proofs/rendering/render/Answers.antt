use Rattle.std.proofs.Common.{◌≡◌, ℕ, ◌+◌, ◌<◌, List, [], length, refl, sym, ap, ◌∙◌, subst, arith}
use Rattle.plane_rect.specs.Rectangle.{scaled}
use Rattle.model_images.specs.Level.{level}
use Rattle.model_graphs.specs.declared.node.NodeFact.{NodeFact}
use Rattle.model_graphs.specs.Facts.{specs_of}
use Rattle.model_graphs.specs.Meanings.{Meanings}
use Rattle.model_states.specs.Cache.{Pair, needed_pairs}
use Rattle.model_states.specs.declared.strip.Strip.{Strip}
use Rattle.model_states.specs.State.{image_of}
use Rattle.chain_owners.specs.Cause.{HasSwapCause}
use Rattle.chain_owners.specs.declared.swap_refused.SwapRefused.{SwapRefused}
use Rattle.node_tiles.specs.Stated.{scene_of, shape_at}
use Rattle.strip_renders.specs.Moments.{RenderState, render_state}
use Rattle.strip_renders.specs.Strips.{most_names}
use Rattle.strip_renders.proofs.Moments.{keeps-most, refused-as}
use Rattle.strip_renders.proofs.Turning.{keeps-none}
use Rattle.strip_patches.specs.Nodes.{name_at}
use Rattle.strip_patches.specs.Shown.{Shows}
use Rattle.render_workers.specs.declared.refused.RenderRefused.TheVariants as renders
use Rattle.render_workers.specs.Parts.{IsExcused, Leaves, LooksUp}
use Rattle.render_workers.specs.Refusals.{CanBeRendered, IsRefusedBy, by_swap}
use Rattle.render_workers.specs.Renders.{Renders}
use Rattle.render_workers.specs.Requests.{Request, pairs_requested, request}
use Rattle.render_workers.proofs.HandedOn.{err-again, plan-cause, some-not-none, swap-cause, true-not-false, unchanged-plan, unchanged-swap}
use Rattle.render_workers.proofs.Shown.{name-found, node-inside}
use Rattle.render_workers.proofs.rendering.render.Given
use Rattle.render_workers.proofs.rendering.render.Goals.{After-render_planned}
use Rattle.render_workers.proofs.rendering.render.Goals as goal

module _ (g : Given.Over) where
  abbrev state : g.row.S.Denot → g.row.C.Denot → g.row.H.Denot → ℕ → RenderState
  state sources cache chain permits = render_state g.H.ChainMeaning g.S.SourceTiles g.C.PairStore sources cache chain permits

pub returns-in_err-plan : goal.returns-in_err-plan
returns-in_err-plan g c =
    let meanings = g.K.Op.OpMeaning.meanings in
    let nodes = c.args.nodes.now in
    let asked = request c.args.node c.args.level c.args.rect in
    let old = state g c.args.sources.now c.args.cache.now c.args.chain.now (g.K.OpKit.permits c.args.purse.now) in
    let refused = c.in_err-plan.field-0.0 in
    let does = c.in_err-plan.ensures in
    let cause : (most : ℕ) → IsRefusedBy meanings nodes asked c.args.capacity (HasSwapCause old.seen.counts old.seen.counts most) refused =
    λ most. plan-cause meanings nodes asked c.args.capacity (HasSwapCause old.seen.counts old.seen.counts most) refused does.refused in
    refused-as c.from_residual.result refused (Renders meanings nodes asked c.args.capacity c.args.form old old) c.from_residual.ensures.1
    (record {
      unknown = λ none. err-again _ _ refused renders.UnknownNode refl (does.unknown none) refl;
      outside = λ there far. err-again _ _ refused renders.Rect refl (does.outside there far) refl;
      narrow = tt;
      unchanged = unchanged-plan old.seen old.permits refused;
      pairs = tt;
      rect = tt;
      format = tt;
      shown = λ images list known is right. tt;
      patch = λ form. tt;
      right = λ images known right. right;
      sized = c.requires.sized;
      permits = (omega arith, omega arith);
      keeps = keeps-most 0 (length (pairs_requested meanings nodes asked)) old.seen old.seen (omega arith) (keeps-none old.seen);
      sources_over = c.requires.sources_over;
      cache_over = c.requires.cache_over;
      valid = λ valid. valid;
      cause = cause (old.seen.counts.names + length (pairs_requested meanings nodes asked));
      few_names = λ one. cause (most_names old.seen (pairs_requested meanings nodes asked));
    })

pub render_planned-requires-clause-node : goal.render_planned-requires-clause-node
render_planned-requires-clause-node g c κs within =
    subst (λ (n : ℕ). n < length c.args.nodes.now) (sym c.in_ok-plan.ensures.position) (node-inside c.args.nodes.now c.args.node c.in_ok-plan.ensures.there)

-- ---- after the request was rendered, or refused by the swap

module _ (g : Given.Over) (c : After-render_planned g) where
  abbrev meanings : Meanings g.row.K-Op.Denot
  meanings = g.K.Op.OpMeaning.meanings

  abbrev nodes : List (NodeFact g.row.K-Op.Denot)
  nodes = c.args.nodes.now

  abbrev asked : Request
  asked = request c.args.node c.args.level c.args.rect

  abbrev pairs : List Pair
  pairs = pairs_requested meanings nodes asked

  abbrev old : RenderState
  old = state g c.args.sources.now c.args.cache.now c.args.chain.now (g.K.OpKit.permits c.args.purse.now)

  abbrev new : RenderState
  new = state g c.render_planned.new.sources c.render_planned.new.cache c.render_planned.new.chain (g.K.OpKit.permits c.render_planned.new.purse)

  -- what is left, by the pairs of the request
  leaves : Leaves meanings nodes pairs old new [] []
  leaves = subst (λ (list : List Strip). Leaves meanings nodes (needed_pairs (specs_of nodes) list) old new [] []) c.in_ok-plan.ensures.strips c.render_planned.ensures.leaves

  can : CanBeRendered meanings nodes asked c.args.capacity
  can = record { node = c.in_ok-plan.ensures.there; rect = c.in_ok-plan.ensures.source; narrow = c.in_ok-plan.ensures.narrow }

  -- why the swap refuses
  refused_by : (most : ℕ) (refused : SwapRefused) → HasSwapCause old.seen.counts new.seen.counts most refused
      → IsRefusedBy meanings nodes asked c.args.capacity (HasSwapCause old.seen.counts new.seen.counts most) (by_swap refused)
  refused_by most refused cause = swap-cause meanings nodes asked c.args.capacity (HasSwapCause old.seen.counts new.seen.counts most) can refused cause

pub returns-in_err-done : goal.returns-in_err-done
returns-in_err-done g c =
    let at = (goal.at.returns-in_err-done g c).After-render_planned in
    let refused = c.in_err-done.field-0.0 in
    let there = c.in_ok-plan.ensures.there in
    let source = c.in_ok-plan.ensures.source in
    let excused : IsExcused (pairs g at) (old g at) (new g at) refused =
    subst (λ (list : List Strip). IsExcused (needed_pairs (specs_of (nodes g at)) list) (old g at) (new g at) refused) c.in_ok-plan.ensures.strips c.in_err-done.ensures.excused in
    refused-as c.from_residual-in_err-done.result (by_swap refused) (Renders (meanings g at) (nodes g at) (asked g at) c.args.capacity c.args.form (old g at) (new g at))
    c.from_residual-in_err-done.ensures.1
    (record {
      unknown = λ none. absurd (true-not-false _ there none);
      outside = λ here far. absurd (some-not-none (scaled c.args.level c.args.rect) source far);
      narrow = tt;
      unchanged = unchanged-swap (old g at).seen (new g at).seen (old g at).permits (new g at).permits refused;
      pairs = tt;
      rect = tt;
      format = tt;
      shown = λ images list known is right. tt;
      patch = λ form. tt;
      right = λ images known right. ((leaves g at).right images known right tt).0;
      sized = (leaves g at).sized c.requires.sized;
      permits = (omega (arith, (leaves g at).spent), omega (arith, (leaves g at).few));
      keeps = (leaves g at).left.keeps;
      sources_over = (leaves g at).left.over.sources_over;
      cache_over = (leaves g at).left.over.cache_over;
      valid = (leaves g at).left.valid;
      cause = refused_by g at ((old g at).seen.counts.names + length (pairs g at)) refused excused.each;
      few_names = λ one. refused_by g at (most_names (old g at).seen (pairs g at)) refused (excused.few one);
    })

pub returns : goal.returns
returns g c =
    let at = (goal.at.returns g c).After-render_planned in
    let done = c.in_ok-done.done in
    let does = c.in_ok-done.ensures in
    let plan = c.in_ok-plan.ensures in
    let looks : LooksUp (meanings g at) (nodes g at) (pairs g at) done.applied done.reused (old g at) (new g at) [] [] =
    subst (λ (list : List Strip). LooksUp (meanings g at) (nodes g at) (needed_pairs (specs_of (nodes g at)) list) done.applied done.reused (old g at) (new g at) [] []) plan.strips does.looks in
    let name : name_at (nodes g at) c.in_ok-plan.plan.node ≡ c.args.node =
    ap (name_at (nodes g at)) plan.position ∙ name-found (nodes g at) c.args.node plan.there in
    record {
      unknown = λ none. absurd (true-not-false _ plan.there none);
      outside = λ here far. absurd (some-not-none (scaled c.args.level c.args.rect) plan.source far);
      narrow = plan.narrow;
      unchanged = tt;
      pairs = looks.pairs;
      rect = does.rect;
      format = does.format ∙ ap (λ (n : ℕ). (shape_at (nodes g at) n).format) plan.position;
      shown = λ images list known is right. record {
        cached = looks.cached images list known is right tt;
        shows =
            subst (λ (q : List ℕ). Shows (level (image_of (meanings g at) (scene_of (nodes g at) images) q) c.args.level) c.args.rect done.picture) name
            (does.image images known (record { list = list; known = is; right = right }));
      };
      patch = λ form. does.patch form;
      right = λ images known right. ((leaves g at).right images known right tt).0;
      sized = (leaves g at).sized c.requires.sized;
      permits = omega (arith, looks.permits);
      keeps = (leaves g at).left.keeps;
      sources_over = (leaves g at).left.over.sources_over;
      cache_over = (leaves g at).left.over.cache_over;
      valid = (leaves g at).left.valid;
      cause = tt;
      few_names = λ one. tt;
    }
