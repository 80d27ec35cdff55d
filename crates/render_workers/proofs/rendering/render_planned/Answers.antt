use Rattle.std.proofs.Common.{◌≡◌, ◌<◌, ◌^◌, ℕ, Bool, true, false, if◌then◌else◌, List, [], length, Option, Some, None, Result, Ok, Err, refl, sym, ap, ◌∙◌, subst, arith, unwrap_or, rules, tests}
use Rattle.std.specs.List.{flat_map}
use Rattle.std.proofs.lemmas.List.{length-map}
use Rattle.std.proofs.lemmas.Option.{same_Some}
use Rattle.plane_rect.specs.Rectangle.{InLimits, Rectangle, empty, enlarged, if_in_limits, in_limits, scaled}
use Rattle.plane_rect.specs.declared.rect.RectRefused.{RectRefused}
use Rattle.model_images.specs.Level.{level}
use Rattle.model_graphs.specs.Facts.{AreImagesOf, shapes_of_facts, specs_of}
use Rattle.model_graphs.specs.Shapes.{shape_of_image}
use Rattle.model_states.specs.Cache.{needed_pairs, pair_of}
use Rattle.model_states.specs.Need.{need}
use Rattle.plane_rect.specs.Tile.{strip_rectangles}
use Rattle.model_states.specs.declared.strip.Strip.{Strip}
use Rattle.model_states.proofs.NeedCounts.{request_few}
use Rattle.chain_owners.specs.declared.swap_refused.SwapRefused.{SwapRefused}
use Rattle.chain_owners.specs.declared.swap_refused.SwapRefused.TheVariants as swaps
use Rattle.node_tiles.specs.Stated.{shape_at}
use Rattle.strip_patches.specs.Nodes.{image_at}
use Rattle.strip_patches.specs.Shown.{HasStripsOf, Shows, level_in, rect_in, source_in}
use Rattle.strip_patches.proofs.Served.{member-at, shape-shown}
use Rattle.strip_renders.specs.Moments.{RenderState, render_state}
use Rattle.strip_renders.proofs.Moments.{refused-as}
use Rattle.render_workers.specs.declared.rendering.Rendered.{Rendered}
use Rattle.render_workers.specs.Parts.{IsExcused, Leaves, LooksUp}
use Rattle.render_workers.specs.Renders.{RendersPlanned}
use Rattle.render_workers.proofs.Joined.{leaves-ended, leaves-none}
use Rattle.render_workers.proofs.rendering.render_planned.Given
use Rattle.render_workers.proofs.rendering.render_planned.Goals.{After-render_strips}
use Rattle.render_workers.proofs.rendering.render_planned.Goals as goal

-- a rectangle at level 0 is in limits
scaled-limits : (level : ℕ) (r s : Rectangle) → scaled level r ≡ Some s → InLimits s
scaled-limits level r s is = from (enlarged level r) is
  where
    own : (t : Rectangle) (b : Bool) → in_limits t ≡ b → (if b then Some t else None) ≡ Some s → InLimits s
    own t true within same = subst InLimits (same_Some t s same) (search (rules, tests))
    own t false within same = absurd (cc same)

    from : (found : Result Rectangle RectRefused) → if_in_limits found ≡ Some s → InLimits s
    from (Ok t) same = own t (in_limits t) refl same
    from (Err refused) same = absurd (cc same)

pub render_strips-requires-clause-limits : goal.render_strips-requires-clause-limits
render_strips-requires-clause-limits g c κs within = scaled-limits c.args.level c.args.rect (source_in c.in_ok-strips.strips) c.in_ok-strips.ensures.source

pub render_strips-requires-clause-few : goal.render_strips-requires-clause-few
render_strips-requires-clause-few g c κs within =
    let meanings = g.K.Op.OpMeaning.meanings in
    let nodes = c.args.nodes.now in
    let node = c.args.plan.now.node in
    let source = source_in c.in_ok-strips.strips in
    let limits = scaled-limits c.args.level c.args.rect source c.in_ok-strips.ensures.source in
    let planned : c.as_slice.result.now ≡ need meanings nodes node source =
    c.as_slice.ensures ∙ c.requires.plan ∙ ap (λ (found : Option Rectangle). need meanings nodes node (unwrap_or found empty)) c.in_ok-strips.ensures.source in
    let needed = flat_map (λ (strip : Strip). strip.need) (need meanings nodes node source) in
    let few = request_few meanings g.K.Op.OpMeaning.boxed (shapes_of_facts (g.S.SourceTiles.facts c.args.sources.now)) nodes node source c.requires.stated limits in
    subst (λ (list : List Strip). length (needed_pairs (specs_of nodes) list) < 2 ^ 32) (sym planned)
    (subst (λ (n : ℕ). n < 2 ^ 32) (sym (length-map needed (pair_of (specs_of nodes)))) few)

-- ---- what it promises where it ends in this state

module _ (g : Given.Over) where
  abbrev state : g.row.S.Denot → g.row.C.Denot → g.row.H.Denot → ℕ → RenderState
  state sources cache chain permits = render_state g.H.ChainMeaning g.S.SourceTiles g.C.PairStore sources cache chain permits

pub returns-in_err-strips : goal.returns-in_err-strips
returns-in_err-strips g c =
    let old = state g c.args.sources.now c.args.cache.now c.args.chain.now (g.K.OpKit.permits c.args.purse.now) in
    let meanings = g.K.Op.OpMeaning.meanings in
    let nodes = c.args.nodes.now in
    let plan = c.args.plan.now in
    refused-as c.from_residual.result swaps.NoMemory (RendersPlanned meanings nodes plan.node plan.strips c.args.level c.args.rect c.args.form old old) c.from_residual.ensures.1
    (record {
      looks = tt;
      rect = tt;
      format = tt;
      image = λ images known right. tt;
      patch = λ asked. tt;
      leaves = leaves-ended meanings nodes [] (needed_pairs (specs_of nodes) plan.strips) old old [] [] (omega arith) (leaves-none meanings nodes old [] c.requires.over);
      excused = record { each = tt; few = λ one. tt };
    })

module _ (g : Given.Over) (c : After-render_strips g) where
  abbrev old : RenderState
  old = state g c.args.sources.now c.args.cache.now c.args.chain.now (g.K.OpKit.permits c.args.purse.now)

  abbrev new : RenderState
  new = state g c.render_strips.new.sources c.render_strips.new.cache c.render_strips.new.chain (g.K.OpKit.permits c.render_strips.new.purse)

  abbrev Does : Result Rendered SwapRefused → Type 0
  Does result = RendersPlanned g.K.Op.OpMeaning.meanings c.args.nodes.now c.args.plan.now.node c.args.plan.now.strips c.args.level c.args.rect c.args.form old new result

  -- what the strips leave, and why they are refused, by those of the plan
  leaves : Leaves g.K.Op.OpMeaning.meanings c.args.nodes.now (needed_pairs (specs_of c.args.nodes.now) c.args.plan.now.strips) old new [] []
  leaves =
      subst (λ (list : List Strip). Leaves g.K.Op.OpMeaning.meanings c.args.nodes.now (needed_pairs (specs_of c.args.nodes.now) list) old new [] []) c.as_slice.ensures
      c.render_strips.ensures.leaves

pub returns-in_err-counts : goal.returns-in_err-counts
returns-in_err-counts g c =
    let at = (goal.at.returns-in_err-counts g c).After-render_strips in
    let refused = c.in_err-counts.field-0.0 in
    refused-as c.from_residual-in_err-counts.result refused (Does g at) c.from_residual-in_err-counts.ensures.1
    (record {
      looks = tt;
      rect = tt;
      format = tt;
      image = λ images known right. tt;
      patch = λ asked. tt;
      leaves = leaves g at;
      excused = subst (λ (list : List Strip). IsExcused (needed_pairs (specs_of c.args.nodes.now) list) (old g at) (new g at) refused) c.as_slice.ensures c.in_err-counts.ensures.excused;
    })

pub returns-in_err-picture : goal.returns-in_err-picture
returns-in_err-picture g c =
    let at = (goal.at.returns-in_err-picture g c).After-render_strips in
    refused-as c.from_residual-in_err-picture.result swaps.NoMemory (Does g at) c.from_residual-in_err-picture.ensures.1
    (record {
      looks = tt;
      rect = tt;
      format = tt;
      image = λ images known right. tt;
      patch = λ asked. tt;
      leaves = leaves g at;
      excused = record { each = tt; few = λ one. tt };
    })

pub returns : goal.returns
returns g c =
    let at = (goal.at.returns g c).After-render_strips in
    let meanings = g.K.Op.OpMeaning.meanings in
    let nodes = c.args.nodes.now in
    let node = c.args.plan.now.node in
    let counts = c.in_ok-counts.counts in
    let does = c.in_ok-counts.ensures in
    let one = does.request in
    let strips = c.in_ok-strips.ensures in
    let rect_is : rect_in c.render_strips.new.strips ≡ c.args.rect = one.rect ∙ strips.rect in
    record {
      looks =
          subst (λ (list : List Strip). LooksUp meanings nodes (needed_pairs (specs_of nodes) list) counts.applied counts.reused (old g at) (new g at) [] []) c.as_slice.ensures does.looks;
      rect = c.in_ok-picture.ensures.rect ∙ rect_is;
      format = c.in_ok-picture.ensures.format ∙ one.format ∙ strips.format;
      image = λ images known right.
          let facts = g.S.SourceTiles.facts c.args.sources.now in
          let image = image_at meanings nodes images node in
          let shown : AreImagesOf facts images = rw known at (g.met.S.SourceTiles.exposed c.args.sources.now (g.H.ChainMeaning.held c.args.chain.now) c.requires.over.sources_over).shapes in
          let fact = member-at nodes node c.requires.node in
          let shape : shape_at nodes node ≡ shape_of_image image = shape-shown meanings facts nodes c.requires.stated node fact.0 fact.1 images shown in
          let has = does.image images known right (strips.none image (sym shape)) in
          let level_is : level_in c.render_strips.new.strips ≡ c.args.level = one.at_level ∙ strips.level in
          let shows = c.in_ok-picture.ensures.image image (subst (λ (s : Rectangle). HasStripsOf image (length (strip_rectangles s)) c.render_strips.new.strips) (sym one.source) has) in
          subst (λ (z : ℕ). Shows (level image z) c.args.rect c.in_ok-picture.picture) level_is
          (subst (λ (r : Rectangle). Shows (level image (level_in c.render_strips.new.strips)) r c.in_ok-picture.picture) rect_is shows);
      patch = λ asked. c.in_ok-picture.ensures.patch ∙ one.patch ∙ strips.patch asked;
      leaves = leaves g at;
      excused = tt;
    }
