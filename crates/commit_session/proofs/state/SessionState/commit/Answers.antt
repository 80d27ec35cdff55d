use Rattle.std.proofs.Common.{◌≡◌, rules, refl, sym, ap, subst, ◌∙◌}
use Rattle.std.proofs.lemmas.Result.{err_from_is_err_and}
use Rattle.graph_edits.specs.declared.refused.GraphRefused.TheVariants as graphs
use Rattle.model_graphs.specs.Facts.{rectangles_of}
use Rattle.model_states.specs.Commits.{Graph, committed}
use Rattle.model_states.specs.History as history
use Rattle.model_sessions.specs.Tables.{table_shapes}
use Rattle.session_states.specs.OverChains.{AreVersionsOver}
use Rattle.graph_edits.specs.Refusals.{IsRefusalOf}
use Rattle.commit_session.specs.Parts.{Parts, working_facts}
use Rattle.commit_session.specs.Commits.{commit_step}
use Rattle.commit_session.specs.Refusals.{IsRefusedAs, by_graph}
use Rattle.commit_session.specs.Seen.{IsSessionOf}
use Rattle.commit_session.specs.declared.refused.SessionRefused.TheVariants.{NoMemory}
use Rattle.commit_session.specs.Steps.{IsCommitted}
use Rattle.commit_session.proofs.Acting.{acts-commit}
use Rattle.commit_session.proofs.Passed.{unstepped}
use Rattle.commit_session.proofs.CommitStep.{commit-refused-too}
use Rattle.commit_session.proofs.Still.{commit-here, working-still}
use Rattle.root_tiles.specs.Chains.{chain_state}
use Rattle.commit_session.proofs.Changed.{versions-over}
use Rattle.commit_session.proofs.Done.{IsMade, commit-both-made, ready}
use Rattle.commit_session.proofs.Kept.{IsKept, kept, over-here, refused-too, unshared}
use Rattle.commit_session.proofs.Same.{this}
use Rattle.commit_session.proofs.state.SessionState.commit.Given
use Rattle.commit_session.proofs.state.SessionState.commit.Goals.{After-deref-2}
use Rattle.commit_session.proofs.state.SessionState.commit.Goals as goal

module _ (g : Given.Over) where
  -- ---- the buffers couldn't be shared

  unshared_still : (c : goal.After-from_residual g) → IsKept g.Op.OpMeaning.same g.Op.OpMeaning.meanings 0 c.args.self.now c.args.self.now (chain_state g.C.ChainMeaning c.args.chain.now) (chain_state g.C.ChainMeaning c.share_working.new.chain)
  unshared_still c =
      kept g.Op.OpMeaning.same g.Op.OpMeaning.meanings _ c.args.self.now c.self.view_is (chain_state g.C.ChainMeaning c.args.chain.now) (chain_state g.C.ChainMeaning c.share_working.new.chain) c.requires
      c.in_err-shared.ensures.kept

  -- ---- the graph refused

  refused_still : (c : goal.After-from g) → IsKept g.Op.OpMeaning.same g.Op.OpMeaning.meanings 0 c.args.self.now (record (this c.self.view_is) { graph = c.commit.new.self }) (chain_state g.C.ChainMeaning c.args.chain.now) (chain_state g.C.ChainMeaning c.release.new.chain)
  refused_still c =
      unshared g.Op.OpMeaning.same g.Op.OpMeaning.meanings _ c.args.self.now c.self.view_is (chain_state g.C.ChainMeaning c.args.chain.now) (chain_state g.C.ChainMeaning c.release.new.chain) c.requires c.in_ok-shared.shared (chain_state g.C.ChainMeaning c.share_working.new.chain)
      c.in_ok-shared.ensures.kept
      c.release.ensures
      c.commit.new.self c.in-Err.ensures.unchanged

  -- ---- what is committed

  commit_is : (c : goal.After-deref-2 g) → committed g.Op.OpMeaning.same g.Op.OpMeaning.meanings c.self.inside.graph c.deref.result.now c.facts-facts.result.now (rectangles_of c.deref-2.result.now)
      ≡ committed g.Op.OpMeaning.same g.Op.OpMeaning.meanings c.args.self.now.graph c.args.self.now.pending (working_facts c.args.self.now) c.args.self.now.written
  commit_is c =
      commit-here g.Op.OpMeaning.same g.Op.OpMeaning.meanings _ c.args.self.now c.self.view_is c.working.result.now c.facts-facts.result.now c.deref.result.now (rectangles_of c.deref-2.result.now)
      c.working.ensures c.facts-facts.ensures.facts c.deref.ensures.value (ap rectangles_of c.deref-2.ensures.value)

  refusal : (c : goal.After-from g)
      → committed g.Op.OpMeaning.same g.Op.OpMeaning.meanings c.self.inside.graph c.deref.result.now c.facts-facts.result.now (rectangles_of c.deref-2.result.now)
      ≡ committed g.Op.OpMeaning.same g.Op.OpMeaning.meanings c.args.self.now.graph c.args.self.now.pending (working_facts c.args.self.now) c.args.self.now.written
      → IsRefusedAs by_graph (IsRefusalOf (committed g.Op.OpMeaning.same g.Op.OpMeaning.meanings c.args.self.now.graph c.args.self.now.pending (working_facts c.args.self.now) c.args.self.now.written)) c.from.result
  refusal c is = record { lower = c.in-Err.refused; is = c.from.ensures; by_cause = subst (λ s. IsRefusalOf s c.in-Err.refused) is c.in-Err.ensures.refused }

  -- ---- the step was made

  module _ (c : goal.After-drop-damage g)
      (is : committed g.Op.OpMeaning.same g.Op.OpMeaning.meanings c.self.inside.graph c.deref.result.now c.facts-facts.result.now (rectangles_of c.deref-2.result.now)
      ≡ committed g.Op.OpMeaning.same g.Op.OpMeaning.meanings c.args.self.now.graph c.args.self.now.pending (working_facts c.args.self.now) c.args.self.now.written) where
    step : IsMade g.Op.OpMeaning.same g.Op.OpMeaning.meanings c.args.self.now c.settle.new.self (history.committed g.Op.OpMeaning.meanings table_shapes) (chain_state g.C.ChainMeaning c.args.chain.now) (chain_state g.C.ChainMeaning c.settle.new.chain)
        × IsCommitted g.Op.OpMeaning.same g.Op.OpMeaning.meanings c.args.self.now c.settle.new.self
    step =
        commit-both-made g.Op.OpMeaning.same g.Op.OpMeaning.meanings _ c.args.self.now c.self.view_is (chain_state g.C.ChainMeaning c.args.chain.now) (chain_state g.C.ChainMeaning c.share_working.new.chain) (chain_state g.C.ChainMeaning c.commit-in-Ok.new.chain) c.requires
        c.commit-in-Ok.new.self _ (chain_state g.C.ChainMeaning c.settle.new.chain) c.settle.new.self c.commit.new.self c.in-Ok.damage.rects
        (record {
          shared = c.in_ok-shared.ensures.kept;
          put = c.commit-in-Ok.ensures.released;
          settled = c.settle.ensures.settled;
          versions_are = c.settle.ensures.versions;
          graph_is = c.settle.ensures.graph;
          sizes = c.settle.ensures.sizes;
          cached = c.settle.ensures.cached;
          cache = c.settle.ensures.cache;
          alone = c.settle.ensures.alone;
          others = c.settle.ensures.other_names;
          left = c.settle.ensures.left;
        })
        (record { local = g.Op.OpMeaning.local; dual = g.Op.OpMeaning.dual }) g.Op.OpMeaning.boxed g.Op.OpMeaning.distinguished.apart (sym is ∙ c.in-Ok.ensures.committed) c.commit-in-Ok.ensures.committed
        (rectangles_of c.deref-2.result.now) (ap rectangles_of c.deref-2.ensures.value) c.in-Ok.ensures.damages

pub returns-in_err-shared : goal.returns-in_err-shared
returns-in_err-shared g c =
    let p = err_from_is_err_and c.from_residual.result c.from_residual.ensures.1 in
    rw (p.1, p.2) (unstepped g.Op.OpMeaning.same g.Op.OpMeaning.meanings (commit_step g.Op.OpMeaning.same g.Op.OpMeaning.meanings) NoMemory c.args.self.now c.args.self.now (chain_state g.C.ChainMeaning c.args.chain.now) (chain_state g.C.ChainMeaning c.share_working.new.chain)
    (unshared_still g c) refl (record { lower = graphs.NoMemory; is = refl; by_cause = tt }) (λ held of. record { lower = graphs.NoMemory; is = refl; by_cause = tt }))

pub settle-requires : goal.settle-requires
settle-requires g c =
    let is = ready g.Op.OpMeaning.same g.Op.OpMeaning.meanings _ c.args.self.now c.self.view_is (chain_state g.C.ChainMeaning c.args.chain.now) (chain_state g.C.ChainMeaning c.share_working.new.chain) (chain_state g.C.ChainMeaning c.commit-in-Ok.new.chain)
    c.requires c.commit-in-Ok.new.self _ c.in_ok-shared.ensures.kept c.commit-in-Ok.ensures.released in
    record { cache = is.cache; alone = is.alone }

pub returns-in-Ok : goal.returns-in-Ok
returns-in-Ok g c =
    let made = step g c (commit_is g (goal.at.returns-in-Ok g c).After-deref-2) in
    record {
      made = made.1;
      number = search rules;
      unchanged = tt;
      session = made.0.session;
      action = λ held of.
          acts-commit g.Op.OpMeaning.same g.Op.OpMeaning.meanings held c.args.self.now.capacity
          (IsSessionOf g.Op.OpMeaning.same g.Op.OpMeaning.meanings c.settle.new.self (g.C.ChainMeaning.held c.settle.new.chain)) (made.0.session held of);
      same = λ held of. tt;
      refused = tt;
      refused_session = λ held of. tt;
      over = made.0.over;
      other_names = search rules;
      left = made.0.left;
    }

pub returns-in-Err : goal.returns-in-Err
returns-in-Err g c =
    let why = refusal g c (commit_is g (goal.at.returns-in-Err g c).After-deref-2) in
    unstepped g.Op.OpMeaning.same g.Op.OpMeaning.meanings (commit_step g.Op.OpMeaning.same g.Op.OpMeaning.meanings) c.from.result c.args.self.now _ (chain_state g.C.ChainMeaning c.args.chain.now) (chain_state g.C.ChainMeaning c.release.new.chain)
    (refused_still g c)
    (ap (λ (graph : Graph g.row.Op.Denot). let p : Parts g.row.Op.Denot = record (this c.self.view_is) { graph = graph } in p) c.in-Err.ensures.unchanged ∙ c.self.view_is)
    why
    (λ held of. refused-too _ _ (commit-refused-too g.Op.OpMeaning.same g.Op.OpMeaning.meanings c.args.self.now (g.C.ChainMeaning.held c.args.chain.now) held of) c.from.result why)

pub share_working-requires : goal.share_working-requires
share_working-requires g c =
    subst (λ (p : Parts g.row.Op.Denot). AreVersionsOver p.versions (g.C.ChainMeaning.held c.args.chain.now)) (sym c.self.view_is)
    (versions-over g.Op.OpMeaning.same g.Op.OpMeaning.meanings c.args.self.now (g.C.ChainMeaning.held c.args.chain.now) c.requires)

pub commit-requires : goal.commit-requires
commit-requires g c =
    let over = over-here g.Op.OpMeaning.same g.Op.OpMeaning.meanings _ c.args.self.now c.self.view_is (g.C.ChainMeaning.held c.args.chain.now) c.requires in
    record { still = working-still g.Op.OpMeaning.same g.Op.OpMeaning.meanings _ (g.C.ChainMeaning.held c.args.chain.now) over c.working.result.now c.facts-facts.result.now c.working.ensures c.facts-facts.ensures.facts }
