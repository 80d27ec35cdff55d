use Rattle.std.proofs.Common.{◌≡◌, rules, ℕ, ◌+◌, ◌≤◌, false, true, List, Result, Err, length, refl, sym, subst, ap, ◌∙◌}
use Rattle.std.proofs.lemmas.Result.{err_from_is_err_and}
use Rattle.std.proofs.lemmas.Option.{same_Some}
use Rattle.plane_rect.specs.Rectangle.{scaled}
use Rattle.root_tiles.specs.Chains.{chain_state}
use Rattle.model_buffers.specs.Layout.{facts_of}
use Rattle.model_graphs.specs.declared.node.NodeFact.{NodeFact}
use Rattle.model_graphs.specs.Facts.{specs_of}
use Rattle.model_graphs.specs.Node.{index_of}
use Rattle.model_states.specs.Damage.{IsStated}
use Rattle.node_tiles.specs.Stated.{shape_at}
use Rattle.strip_patches.specs.Shown.{picture_format}
use Rattle.strip_patches.specs.declared.picture.Picture.{Picture}
use Rattle.commit_session.specs.declared.refused.SessionRefused.{SessionRefused}
use Rattle.model_states.specs.Edits.{has_node}
use Rattle.strip_renders.specs.Moments.{Moment}
use Rattle.render_workers.specs.declared.refused.RenderRefused.TheVariants as renders
use Rattle.render_workers.specs.Refusals.{CanBeRendered}
use Rattle.render_workers.specs.Requests.{Request, pairs_requested, request}
use Rattle.commit_session.specs.Parts.{Parts}
use Rattle.commit_session.specs.Refusals.{by_render}
use Rattle.commit_session.proofs.Handed.{IsAsked, IsLeft, IsShownBy, by-session, done-image, done-over, done-rendered, done-session, err-same, handed-buffers, handed-cache, handed-node, handed-owned, handed-sized, handed-stated, holds-unless, left-cause, left-names, left-others, left-same, left-states, ok-never, plan-unchanged, refused-over, refused-session, some-unless}
use Rattle.commit_session.proofs.Requested.{entries-same}
use Rattle.commit_session.proofs.Same.{this}
use Rattle.commit_session.proofs.state.SessionState.render.Given
use Rattle.commit_session.proofs.state.SessionState.render.Goals.{After-render, After-render-arg-4-1, After-saturating_add-self-inside-2}
use Rattle.commit_session.proofs.state.SessionState.render.Goals as goal

module _ (g : Given.Over) where
  -- ---- what is handed to the call

  module _ (c : goal.After-render-arg-4-1 g) where
    asked : IsAsked g.Op.OpMeaning.same g.Op.OpMeaning.meanings (this c.self.view_is) c.args.self.now (chain_state g.C.ChainMeaning c.args.chain.now) c.new-sources.result.buffers.now c.nodes.result.now c.unwrap-capacity.result
    asked = record {
      is = c.self.view_is;
      over = c.requires.over;
      stated = c.nodes.ensures.graph.latest.stated;
      buffers_are = c.new-sources.ensures.buffers ∙ c.latest.ensures;
      nodes_are = c.nodes.ensures.nodes;
      limit_is = same_Some c.unwrap-capacity.result _ (sym c.unwrap-capacity.ensures ∙ c.bound.ensures);
    }

  -- ---- what it answers

  module _ (c : goal.After-render g) where
    abbrev v : Parts g.row.Op.Denot
    v = this c.self.view_is

    abbrev asked_for : Request
    asked_for = request c.args.node c.args.level c.args.rect

    left : IsLeft g.Op.OpMeaning.meanings v (chain_state g.C.ChainMeaning c.args.chain.now) (chain_state g.C.ChainMeaning c.render.new.chain) c.new-sources.result.buffers.now c.nodes.result.now asked_for
        c.render.new.cache.names.entries c.render.new.cache.names.cap c.render.new.cache.capacity
    left = record {
      cache = c.render.ensures.cache_over;
      sized = c.render.ensures.sized;
      bound = c.render.ensures.keeps.capacity;
      respects = c.render.ensures.keeps.others;
      right = c.render.ensures.right;
      one_owner = c.render.ensures.keeps.one_owner;
      other_names = c.render.ensures.keeps.other_names;
      counts = c.render.ensures.keeps.counts;
      loans = c.render.ensures.keeps.loans;
      valid = c.render.ensures.valid;
    }

  module _ (c : goal.After-saturating_add-self-inside-2 g) where
    done : IsShownBy g.Op.OpMeaning.meanings (this c.self.view_is) (chain_state g.C.ChainMeaning c.args.chain.now) (chain_state g.C.ChainMeaning c.render.new.chain) c.new-sources.result.buffers.now c.nodes.result.now
        (request c.args.node c.args.level c.args.rect) c.render.new.cache.names.entries c.in_ok-done.done.picture c.unwrap-capacity.result c.in_ok-done.done.applied c.in_ok-done.done.reused
        c.saturating_add-self-inside.result c.saturating_add-self-inside-2.result
    done =
        let there : has_node (specs_of c.nodes.result.now) c.args.node ≡ true =
        holds-unless (has_node (specs_of c.nodes.result.now) c.args.node) (λ none. ok-never _ c.in_ok-done.done renders.UnknownNode refl (c.in_ok-done.ensures.unknown none)) in
        record {
          can = record {
            node = there;
            rect = some-unless (scaled c.args.level c.args.rect) (λ far. ok-never _ c.in_ok-done.done renders.Rect refl (c.in_ok-done.ensures.outside there far));
            narrow = c.in_ok-done.ensures.narrow;
          };
          pairs = c.in_ok-done.ensures.pairs;
          shown = λ images list known its are. let shows = c.in_ok-done.ensures.shown images list known its are in (shows.cached, shows.shows);
          applied_is = c.saturating_add-self-inside.ensures;
          reused_is = c.saturating_add-self-inside-2.ensures;
          needs = λ images shown stated. c.requests_need_what_renders_need.ensures g.Op.OpMeaning.meanings (facts_of (this c.self.view_is).versions.latest.layout) (this c.self.view_is).graph.latest.nodes images (request c.args.node c.args.level c.args.rect) stated shown;
        }

pub render-requires-clause-stated : goal.render-requires-clause-stated
render-requires-clause-stated g c κs within = handed-stated (asked g c)

pub render-requires-clause-sources_over : goal.render-requires-clause-sources_over
render-requires-clause-sources_over g c κs within = c.new-sources.ensures.over _ (handed-buffers (asked g c))

pub render-requires-clause-cache_over : goal.render-requires-clause-cache_over
render-requires-clause-cache_over g c κs within = handed-cache (asked g c)

pub render-requires-clause-owned : goal.render-requires-clause-owned
render-requires-clause-owned g c κs within = handed-owned (asked g c)

pub render-requires-clause-sized : goal.render-requires-clause-sized
render-requires-clause-sized g c κs within = handed-sized (asked g c)

pub returns-in_err-done : goal.returns-in_err-done
returns-in_err-done g c =
    let at = goal.at.returns-in_err-done g c in
    let asked = asked g at.After-render-arg-4-1 in
    let left = left g at.After-render in
    let lower = c.in_err-done.field-0.0 in
    let error : SessionRefused → Result Picture SessionRefused = λ e. Err e in
    let p = err_from_is_err_and c.from_residual.result c.from_residual.ensures.1 in
    rw (p.1, p.2) (record {
      rect = tt;
      format = tt;
      image = λ held of some. tt;
      patch = λ is. tt;
      rendered = tt;
      session = λ held of. tt;
      can = tt;
      stated = subst (λ (q : Parts g.row.Op.Denot). IsStated g.Op.OpMeaning.meanings q.graph.latest) c.self.view_is c.nodes.ensures.graph.latest.stated;
      unknown = λ none. ap error (ap by_render (err-same _ lower renders.UnknownNode refl (c.in_err-done.ensures.unknown (handed-node asked c.args.node false none))));
      outside = λ there far. ap error (ap by_render (err-same _ lower renders.Rect refl (c.in_err-done.ensures.outside (handed-node asked c.args.node true there) far)));
      cause = record { lower = lower; is = refl; by_cause = left-cause asked left lower c.in_err-done.ensures.few_names };
      unchanged =
          plan-unchanged lower _ _ (g.K.OpKit.permits c.args.purse.now) (g.K.OpKit.permits c.render.new.purse) _ (λ same permits. (
            left-same asked left _ _ (entries-same c.render.new.cache.names.entries (this c.self.view_is).entries (ap (λ (m : Moment). m.pairs) same) (ap (λ (m : Moment). m.cache_names) same)) refl refl,
            ap (λ (m : Moment). m.held) same,
            ap (λ (m : Moment). m.counts) same,
            permits,
          )) c.in_err-done.ensures.unchanged;
      refused_session = λ held of. refused-session asked left _ _ refl refl held of;
      states = left-states asked left _ _;
      uncounted = (ap (λ (q : Parts g.row.Op.Denot). q.applied) c.self.view_is, ap (λ (q : Parts g.row.Op.Denot). q.reused) c.self.view_is);
      permits =
          by-session asked
          (λ (xs : List (NodeFact g.row.Op.Denot)) (n : ℕ). (g.K.OpKit.permits c.render.new.purse ≤ g.K.OpKit.permits c.args.purse.now)
          × (g.K.OpKit.permits c.args.purse.now ≤ g.K.OpKit.permits c.render.new.purse + length (pairs_requested g.Op.OpMeaning.meanings xs (asked_for g at.After-render)))) c.in_err-done.ensures.permits;
      over = refused-over asked left _ _ refl refl;
      other_names = left-others asked left;
      left = left-names asked left;
    })

pub returns : goal.returns
returns g c =
    let at = goal.at.returns g c in
    let asked = asked g at.After-render-arg-4-1 in
    let left = left g at.After-render in
    let shown = done g at.After-saturating_add-self-inside-2 in
    record {
      rect = c.in_ok-done.ensures.rect;
      format =
          by-session asked
          (λ (xs : List (NodeFact g.row.Op.Denot)) (n : ℕ). picture_format c.in_ok-done.done.picture ≡ (shape_at xs (index_of (specs_of xs) c.args.node)).format) c.in_ok-done.ensures.format;
      image = done-image asked left _ _ shown;
      patch = c.in_ok-done.ensures.patch;
      rendered = done-rendered asked left _ _ shown;
      session = done-session asked left _ _ shown;
      can = by-session asked (λ (xs : List (NodeFact g.row.Op.Denot)) (n : ℕ). CanBeRendered g.Op.OpMeaning.meanings xs (asked_for g at.After-render) n) shown.can;
      stated = subst (λ (q : Parts g.row.Op.Denot). IsStated g.Op.OpMeaning.meanings q.graph.latest) c.self.view_is c.nodes.ensures.graph.latest.stated;
      unknown = λ none. absurd (ok-never _ c.in_ok-done.done renders.UnknownNode refl (c.in_ok-done.ensures.unknown (handed-node asked c.args.node false none)));
      outside = λ there far. absurd (ok-never _ c.in_ok-done.done renders.Rect refl (c.in_ok-done.ensures.outside (handed-node asked c.args.node true there) far));
      cause = tt;
      unchanged = tt;
      refused_session = λ held of. tt;
      states = left-states asked left _ _;
      uncounted = tt;
      permits = search rules;
      over = done-over asked left _ _ shown;
      other_names = left-others asked left;
      left = left-names asked left;
    }
