-- A commit is a step of the states that are held.
use Rattle.std.proofs.Common.{◌≡◌, ℕ, ◌+◌, Bool, List, ◌∷◌, refl, sym, ap, subst, ◌∙◌, Ok, Err}
use Rattle.pixel_formats.specs.Limits.{max_undoable}
use Rattle.chain_owners.specs.Held.{Held}
use Rattle.model_buffers.specs.Table.{Table}
use Rattle.model_graphs.specs.Facts.{shapes_of_facts}
use Rattle.model_graphs.specs.Meanings.{Meanings}
use Rattle.model_graphs.specs.Node.{Node}
use Rattle.model_states.specs.declared.refused.StateRefused.{StateRefused}
use Rattle.model_states.specs.Commits.{Graph, commit_side, committed, side_of}
use Rattle.model_states.specs.Damage.{Side}
use Rattle.model_states.specs.History as history
use Rattle.model_states.specs.History.{History}
use Rattle.model_states.specs.Rectangles.{Rectangles}
use Rattle.model_states.specs.Retained.{left_state, with_commit}
use Rattle.model_states.specs.State.{State}
use Rattle.model_states.proofs.Stated.{stated-nodes}
use Rattle.model_sessions.specs.Sessions.{Session}
use Rattle.model_sessions.specs.Tables.{table_shapes}
use Rattle.graph_commits.specs.Graphs.{AreDamagesOf}
use Rattle.model_states.specs.declared.direction.Direction.TheVariants.{Undo}
use Rattle.buffer_view.specs.BufferTables.{BufferTable}
use Rattle.session_states.specs.Versions.{Versions, after_commit}
use Rattle.commit_session.specs.Parts.{Parts, working_facts}
use Rattle.commit_session.specs.Seen.{AreOfTable, AreRetained, IsSessionOf}
use Rattle.commit_session.proofs.Commits.{commit-both, commit-refused}
use Rattle.commit_session.proofs.Held.{ahead-take, shapes-same}
use Rattle.commit_session.proofs.Led.{history_after}
use Rattle.commit_session.proofs.Stepped.{GraphStep, IsStep, States, StatesStep, change_from}

module _ {Op : Type 0} (same : Op → Op → Bool) (meanings : Meanings Op) (now : Parts Op) where
  -- nodes over the working buffers are the next state
  abbrev side : List (Node Op) → Side Op
  side nodes = side_of meanings (working_facts now) nodes

  abbrev pub state_with : Table → List (Node Op) → State Table Op
  state_with table nodes = record { table = table; nodes = nodes }

  abbrev pub states_with : States Op → Table → List (Node Op) → Rectangles → StatesStep Op
  states_with retained table nodes written = record { next = with_commit retained (state_with table nodes) written; delta = written }

  module _ (held : Held) (retained : States Op) (are : AreRetained same meanings now held retained) (table : Table) (of : AreOfTable now.versions.working held table)
      (nodes : List (Node Op)) (written : Rectangles) where
    abbrev made : GraphStep Op
    made = commit_side same meanings now.graph (side nodes) written

    -- it is a step
    commit-step : AreDamagesOf same meanings (change_from same meanings now held made.next written) made.delta
        → IsStep same meanings now held made.next (after_commit now.versions) made.delta retained (states_with retained table nodes written)
    commit-step promise = record {
      number = refl;
      working = of;
      states = record {
        number = ap (λ (n : ℕ). n + 1) are.number;
        latest = record { facts = refl; nodes = stated-nodes meanings (shapes_of_facts (working_facts now)) nodes; table = of };
        undoable = ahead-take same meanings held Undo max_undoable (side nodes) (left_state now.graph made.delta ∷ now.graph.undoable)
            (now.versions.latest ∷ now.versions.undoable) (left_state retained written ∷ retained.undoable) (are.latest, refl, are.undoable);
        redoable = tt;
      };
      stated = promise.stated;
      change = change_from same meanings now held made.next written;
      damages = refl;
      each = λ name. refl;
    }

    pub commit-led : (next : Graph Op) (delta : Rectangles) (versions : Versions BufferTable) → (let final : GraphStep Op = record { next = next; delta = delta } in final ≡ made)
        → versions ≡ after_commit now.versions → AreDamagesOf same meanings (change_from same meanings now held next written) delta
        → IsStep same meanings now held next versions delta retained (states_with retained table nodes written)
    commit-led next delta versions is versions_are promise =
        subst (λ (s : GraphStep Op). IsStep same meanings now held s.next versions s.delta retained (states_with retained table nodes written)) (sym is)
        (subst (λ (v : Versions BufferTable). IsStep same meanings now held made.next v made.delta retained (states_with retained table nodes written)) (sym versions_are)
        (commit-step (subst (λ (s : GraphStep Op). AreDamagesOf same meanings (change_from same meanings now held s.next written) s.delta) is promise)))

  -- ---- of a session

  -- nodes that a session's commit makes
  pub record CommitLeads (held : Held) (next : Graph Op) (versions : Versions BufferTable) (delta : Rectangles) (past : History Table Op) : Type 0 where
    pub stepped : StatesStep Op
    pub is : history.committed meanings table_shapes past ≡ Ok (history_after same meanings past stepped)
    pub step : IsStep same meanings now held next versions delta past.workspace.retained stepped
    pub written : stepped.delta ≡ now.written

  module _ (h0 : Held) (session : Session Table Op) (of : IsSessionOf same meanings now h0 session) where
    abbrev past : History Table Op
    past = session.history

    pub commit-leads : (held : Held) (are : AreRetained same meanings now held past.workspace.retained) (working : AreOfTable now.versions.working held past.workspace.working)
        (next : Graph Op) (delta : Rectangles) (versions : Versions BufferTable)
        → committed same meanings now.graph now.pending (working_facts now) now.written ≡ Ok (record { next = next; delta = delta })
        → versions ≡ after_commit now.versions → AreDamagesOf same meanings (change_from same meanings now held next now.written) delta
        → CommitLeads held next versions delta past
    commit-leads held are working next delta versions is versions_are promise =
        let final : GraphStep Op = record { next = next; delta = delta } in
        let both =
        commit-both same meanings now.graph (working_facts now) past now.pending of.retained.number (shapes-same now.versions.working h0 past.workspace.working of.working)
        of.retained.latest.nodes of.pending final
        (ap (committed same meanings now.graph now.pending (working_facts now)) of.written ∙ is) in
        record {
          stepped = states_with past.workspace.retained past.workspace.working both.nodes past.workspace.written;
          is = both.both.history_is;
          step = commit-led held past.workspace.retained are past.workspace.working working both.nodes past.workspace.written next delta versions both.both.graph_is versions_are
              (subst (λ (w : Rectangles). AreDamagesOf same meanings (change_from same meanings now held next w) delta) (sym of.written) promise);
          written = of.written;
        }

    pub commit-refused-too : (why : StateRefused) → committed same meanings now.graph now.pending (working_facts now) now.written ≡ Err why
        → history.committed meanings table_shapes past ≡ Err why
    commit-refused-too why is =
        commit-refused same meanings now.graph (working_facts now) past now.pending of.retained.number (shapes-same now.versions.working h0 past.workspace.working of.working)
        of.retained.latest.nodes of.pending why
        (ap (committed same meanings now.graph now.pending (working_facts now)) of.written ∙ is)
