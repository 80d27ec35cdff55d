-- Commits, undos and redos of a session over a chain.
use Rattle.std.specs.Prelude.{◌≡◌, ℕ, Bool, IfErr, IfOk, OnErr, OnOk, Result}
use Rattle.std.specs.Map.{values_of}
use Rattle.model_buffers.specs.Table.{Table}
use Rattle.model_graphs.specs.Meanings.{Meanings}
use Rattle.model_sessions.specs.Sessions.{Make, Session, after_action, with_state}
use Rattle.model_sessions.specs.Steps.{Commit, HistoryEdit}
use Rattle.model_sessions.specs.Tables.{table_shapes}
use Rattle.model_states.specs.Commits.{committed as commit_of}
use Rattle.model_states.specs.History.{History, committed as committed_history}
use Rattle.model_states.specs.declared.refused.StateRefused.{StateRefused}
use Rattle.root_tiles.specs.Chains.{ChainState, Leaves}
use Rattle.model_states.specs.declared.direction.Direction.{Direction}
use Rattle.model_states.specs.Directions.{stepped}
use Rattle.graph_edits.specs.Refusals.{IsRefusalOf}
use Rattle.graph_edits.specs.declared.refused.GraphRefused.{GraphRefused}
use Rattle.node_cache.specs.Stores.{AddsNoOther}
use Rattle.commit_session.specs.Parts.{Parts, session_names, working_facts}
use Rattle.commit_session.specs.Refusals.{IsRefusedAs, by_graph}
use Rattle.commit_session.specs.Seen.{IsOver, IsSessionOf}
use Rattle.commit_session.specs.Steps.{IsCommitted, IsStepped, LeadsTo, history_step, step_action}
use Rattle.commit_session.specs.declared.refused.SessionRefused.{SessionRefused}

-- A commit, an undo or a redo by its definitions: as an edit of a history, what it gives of one, what it makes of what a
-- session holds, and by which refusals of the graph it is refused.
pub record StateStep (Op : Type 0) : Type 1 where
  pub edit : HistoryEdit Op
  pub gives : History Table Op → Result (History Table Op) StateRefused
  pub made : Parts Op → Parts Op → Type 0
  pub refused : Parts Op → GraphRefused → Type 0

abbrev pub commit_step : {Op : Type 0} → (Op → Op → Bool) → Meanings Op → StateStep Op
commit_step equal meanings = record {
  edit = Commit;
  gives = committed_history meanings table_shapes;
  made = IsCommitted equal meanings;
  refused = λ parts. IsRefusalOf (commit_of equal meanings parts.graph parts.pending (working_facts parts) parts.written);
}

abbrev pub step_in : {Op : Type 0} → Direction → StateStep Op
step_in direction = record {
  edit = step_action direction;
  gives = history_step direction;
  made = IsStepped direction;
  refused = λ parts. IsRefusalOf (stepped direction parts.graph);
}

-- What a commit, an undo or a redo makes of what a session holds, and of its chain: it leads to a next state, or the session
-- is unchanged.
pub record Commits {Op : Type 0} (equal : Op → Op → Bool) (meanings : Meanings Op) (step : StateStep Op) (result : Result ℕ SessionRefused) (old new : Parts Op) (before after : ChainState) : Type 0 where
  -- the step was made, and the number of the next state is returned
  pub made : OnOk result (step.made old new)
  pub number : IfOk result (λ number. number ≡ new.graph.number)
  pub unchanged : OnErr result (new ≡ old)
  -- the session of the definitions that is held makes the step
  pub session : (held : Session Table Op) → IsSessionOf equal meanings old before.held held →
      OnOk result (LeadsTo (step.gives held.history) (λ next. IsSessionOf equal meanings new after.held (with_state equal meanings held next)))
  -- which is an action of it
  pub action : (held : Session Table Op) → IsSessionOf equal meanings old before.held held →
      OnOk result (IsSessionOf equal meanings new after.held (after_action equal meanings old.capacity held (Make step.edit)))
  -- or it is unchanged
  pub same : (held : Session Table Op) → IsSessionOf equal meanings old before.held held → OnErr result (IsSessionOf equal meanings new after.held held)
  -- the step is refused as it is by the graph, and by the definitions
  pub refused : IfErr result (IsRefusedAs by_graph (step.refused old))
  pub refused_session : (held : Session Table Op) → IsSessionOf equal meanings old before.held held → IfErr result (IsRefusedAs by_graph (IsRefusalOf (step.gives held.history)))
  -- the session is over its chain, which has no names more but those of the cached pairs
  pub over : IsOver equal meanings new after.held
  pub other_names : AddsNoOther before.counts after.counts (values_of old.entries) (values_of new.entries)
  pub left : Leaves 0 (session_names old) (session_names new) before after
