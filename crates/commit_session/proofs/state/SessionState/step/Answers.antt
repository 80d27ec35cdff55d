use Rattle.std.proofs.Common.{refl, ap, sym, subst, rules, tests, ◌∙◌, Err}
use Rattle.std.proofs.lemmas.Result.{err_from_is_err_and}
use Rattle.graph_edits.specs.declared.refused.GraphRefused.TheVariants as graphs
use Rattle.model_buffers.specs.Table.{Table}
use Rattle.model_sessions.specs.Sessions.{Session}
use Rattle.model_states.specs.Commits.{Graph}
use Rattle.commit_session.specs.Commits.{step_in}
use Rattle.commit_session.specs.Seen.{IsSessionOf}
use Rattle.commit_session.specs.declared.refused.SessionRefused.{SessionRefused}
use Rattle.commit_session.specs.declared.refused.SessionRefused.TheVariants.{NoMemory}
use Rattle.commit_session.proofs.Acting.{acts-step}
use Rattle.commit_session.proofs.Passed.{kept-same, unstepped}
use Rattle.session_states.specs.OverChains.{AreVersionsOver}
use Rattle.graph_edits.specs.Refusals.{IsRefusalOf}
use Rattle.model_states.specs.Directions.{stepped}
use Rattle.commit_session.specs.Parts.{Parts}
use Rattle.commit_session.specs.Refusals.{IsRefusedAs, by_graph}
use Rattle.commit_session.specs.Steps.{history_step}
use Rattle.commit_session.proofs.Nothing.{none-there}
use Rattle.commit_session.proofs.Stepped.{none-ahead, step-refused}
use Rattle.root_tiles.specs.Chains.{chain_state}
use Rattle.commit_session.proofs.Changed.{versions-over}
use Rattle.commit_session.proofs.Done.{IsMade, history-step-is, made-step, ready, step-made}
use Rattle.commit_session.proofs.Kept.{IsKept, kept, over-here, refused-too, unshared}
use Rattle.commit_session.proofs.Same.{this}
use Rattle.commit_session.proofs.state.SessionState.step.Given
use Rattle.commit_session.proofs.state.SessionState.step.Goals.{After-count_ahead}
use Rattle.commit_session.proofs.state.SessionState.step.Goals as goal

module _ (g : Given.Over) where
  -- ---- the buffers couldn't be shared

  unshared_still : (c : goal.After-from_residual g) → IsKept g.Op.OpMeaning.same g.Op.OpMeaning.meanings 0 c.args.self.now c.args.self.now (chain_state g.C.ChainMeaning c.args.chain.now) (chain_state g.C.ChainMeaning c.share_ahead.new.chain)
  unshared_still c =
      kept g.Op.OpMeaning.same g.Op.OpMeaning.meanings _ c.args.self.now c.self.view_is (chain_state g.C.ChainMeaning c.args.chain.now) (chain_state g.C.ChainMeaning c.share_ahead.new.chain) c.requires
      c.in_err-shared.ensures.kept

  -- ---- the graph refused

  refused_still : (c : goal.After-from g) → IsKept g.Op.OpMeaning.same g.Op.OpMeaning.meanings 0 c.args.self.now (record (this c.self.view_is) { graph = c.step.new.self }) (chain_state g.C.ChainMeaning c.args.chain.now) (chain_state g.C.ChainMeaning c.release.new.chain)
  refused_still c =
      unshared g.Op.OpMeaning.same g.Op.OpMeaning.meanings _ c.args.self.now c.self.view_is (chain_state g.C.ChainMeaning c.args.chain.now) (chain_state g.C.ChainMeaning c.release.new.chain) c.requires c.in_ok-shared.shared (chain_state g.C.ChainMeaning c.share_ahead.new.chain)
      c.in_ok-shared.ensures.kept
      c.release.ensures
      c.step.new.self c.in-Err.ensures.unchanged

  -- ---- the step was made

  done : (c : goal.After-drop-damage g) → IsMade g.Op.OpMeaning.same g.Op.OpMeaning.meanings c.args.self.now c.settle.new.self (history_step c.args.direction) (chain_state g.C.ChainMeaning c.args.chain.now) (chain_state g.C.ChainMeaning c.settle.new.chain)
  done c =
      step-made g.Op.OpMeaning.same g.Op.OpMeaning.meanings _ c.args.self.now c.self.view_is (chain_state g.C.ChainMeaning c.args.chain.now) (chain_state g.C.ChainMeaning c.share_ahead.new.chain) (chain_state g.C.ChainMeaning c.step-in-Ok.new.chain) c.requires
      c.step-in-Ok.new.self _ (chain_state g.C.ChainMeaning c.settle.new.chain) c.settle.new.self c.step.new.self c.in-Ok.damage.rects
      (record {
        shared = c.in_ok-shared.ensures.kept;
        put = c.step-in-Ok.ensures.released;
        settled = c.settle.ensures.settled;
        versions_are = c.settle.ensures.versions;
        graph_is = c.settle.ensures.graph;
        sizes = c.settle.ensures.sizes;
        cached = c.settle.ensures.cached;
        cache = c.settle.ensures.cache;
        alone = c.settle.ensures.alone;
        others = c.settle.ensures.other_names;
        left = c.settle.ensures.left;
      })
      (record { local = g.Op.OpMeaning.local; dual = g.Op.OpMeaning.dual }) g.Op.OpMeaning.boxed g.Op.OpMeaning.distinguished.apart c.args.direction c.in-Ok.ensures.stepped.made
      (made-step c.args.direction c.self.inside.versions c.step-in-Ok.new.self c.in_ok-shared.shared c.in_ok-shared.ensures.shared c.step-in-Ok.ensures.stepped)
      c.in-Ok.ensures.stepped.damages

-- what the graph refuses the definitions refuse
refused_session : (g : Given.Over) (c : goal.After-count_ahead g) (refused : SessionRefused) → IsRefusedAs by_graph (IsRefusalOf (stepped c.args.direction c.args.self.now.graph)) refused
    → (held : Session Table g.row.Op.Denot) → IsSessionOf g.Op.OpMeaning.same g.Op.OpMeaning.meanings c.args.self.now (g.C.ChainMeaning.held c.args.chain.now) held
    → IsRefusedAs by_graph (IsRefusalOf (history_step c.args.direction held.history)) refused
refused_session g c refused why held of =
    refused-too _ _
    (λ cause is. history-step-is c.args.direction held.history (Err cause)
    (step-refused g.Op.OpMeaning.same g.Op.OpMeaning.meanings c.args.self.now (g.C.ChainMeaning.held c.args.chain.now) held.history.workspace.retained of.retained c.args.direction cause is)) refused why

pub returns-then-count_ahead-eq0 : goal.returns-then-count_ahead-eq0
returns-then-count_ahead-eq0 g c =
    let at = (goal.at.returns-then-count_ahead-eq0 g c).After-count_ahead in
    let s0 = chain_state g.C.ChainMeaning c.args.chain.now in
    let is = ap (λ (graph : Graph g.row.Op.Denot). let p : Parts g.row.Op.Denot = record (this c.self.view_is) { graph = graph } in p) c.refused_step.ensures.unchanged ∙ c.self.view_is in
    let why = subst (λ (q : Parts g.row.Op.Denot). IsRefusedAs by_graph (IsRefusalOf (stepped c.args.direction q.graph)) c.refused_step.result) c.self.view_is c.refused_step.ensures.refused in
    unstepped g.Op.OpMeaning.same g.Op.OpMeaning.meanings (step_in c.args.direction) c.refused_step.result c.args.self.now _ s0 s0
    (kept-same g.Op.OpMeaning.same g.Op.OpMeaning.meanings c.args.self.now _ s0 is c.requires) is why (refused_session g at c.refused_step.result why)

pub returns-in_err-shared : goal.returns-in_err-shared
returns-in_err-shared g c =
    let p = err_from_is_err_and c.from_residual.result c.from_residual.ensures.1 in
    rw (p.1, p.2) (unstepped g.Op.OpMeaning.same g.Op.OpMeaning.meanings (step_in c.args.direction) NoMemory c.args.self.now c.args.self.now (chain_state g.C.ChainMeaning c.args.chain.now) (chain_state g.C.ChainMeaning c.share_ahead.new.chain)
    (unshared_still g c) refl (record { lower = graphs.NoMemory; is = refl; by_cause = tt }) (λ held of. record { lower = graphs.NoMemory; is = refl; by_cause = tt }))

pub settle-requires : goal.settle-requires
settle-requires g c =
    let is = ready g.Op.OpMeaning.same g.Op.OpMeaning.meanings _ c.args.self.now c.self.view_is (chain_state g.C.ChainMeaning c.args.chain.now) (chain_state g.C.ChainMeaning c.share_ahead.new.chain) (chain_state g.C.ChainMeaning c.step-in-Ok.new.chain)
    c.requires c.step-in-Ok.new.self _ c.in_ok-shared.ensures.kept c.step-in-Ok.ensures.released in
    record { cache = is.cache; alone = is.alone }

pub returns-in-Ok : goal.returns-in-Ok
returns-in-Ok g c =
    let made = done g c in
    record {
      made = search rules;
      number = search rules;
      unchanged = tt;
      session = made.session;
      action = λ held of.
          acts-step g.Op.OpMeaning.same g.Op.OpMeaning.meanings held c.args.self.now.capacity
          (IsSessionOf g.Op.OpMeaning.same g.Op.OpMeaning.meanings c.settle.new.self (g.C.ChainMeaning.held c.settle.new.chain)) c.args.direction (made.session held of);
      same = λ held of. tt;
      refused = tt;
      refused_session = λ held of. tt;
      over = made.over;
      other_names = search rules;
      left = made.left;
    }

pub returns-in-Err : goal.returns-in-Err
returns-in-Err g c =
    let at = (goal.at.returns-in-Err g c).After-count_ahead in
    let why = subst (λ (q : Parts g.row.Op.Denot). IsRefusedAs by_graph (IsRefusalOf (stepped c.args.direction q.graph)) c.from.result) c.self.view_is
    (record { lower = c.in-Err.refused; is = c.from.ensures; by_cause = c.in-Err.ensures.refused }) in
    unstepped g.Op.OpMeaning.same g.Op.OpMeaning.meanings (step_in c.args.direction) c.from.result c.args.self.now _ (chain_state g.C.ChainMeaning c.args.chain.now) (chain_state g.C.ChainMeaning c.release.new.chain)
    (refused_still g c)
    (ap (λ (graph : Graph g.row.Op.Denot). let p : Parts g.row.Op.Denot = record (this c.self.view_is) { graph = graph } in p) c.in-Err.ensures.unchanged ∙ c.self.view_is)
    why (refused_session g at c.from.result why)

pub share_ahead-requires-clause-over : goal.share_ahead-requires-clause-over
share_ahead-requires-clause-over g c =
    subst (λ (p : Parts g.row.Op.Denot). AreVersionsOver p.versions (g.C.ChainMeaning.held c.args.chain.now)) (sym c.self.view_is)
    (versions-over g.Op.OpMeaning.same g.Op.OpMeaning.meanings c.args.self.now (g.C.ChainMeaning.held c.args.chain.now) c.requires)

pub refused_step-requires : goal.refused_step-requires
refused_step-requires g c =
    let over = over-here g.Op.OpMeaning.same g.Op.OpMeaning.meanings _ c.args.self.now c.self.view_is (g.C.ChainMeaning.held c.args.chain.now) c.requires in
    none-ahead g.Op.OpMeaning.same g.Op.OpMeaning.meanings _ (g.C.ChainMeaning.held c.args.chain.now) over.session.history.workspace.retained over.is.retained c.args.direction
    (none-there _ c.count_ahead.result c.count_ahead.ensures (search (tests, rules)))
