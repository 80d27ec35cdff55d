-- Sessions that a refused step leaves as they were, and why it is refused.
use Rattle.std.proofs.Common.{◌≡◌, ℕ, Bool, [], ◌++◌, refl, sym, ap, subst, ◌∙◌, Option, Result, Err}
use Rattle.chain_owners.specs.Held.{Held}
use Rattle.chain_owners.proofs.Ownership.{times-append}
use Rattle.model_buffers.specs.Table.{Table}
use Rattle.model_graphs.specs.Meanings.{Meanings}
use Rattle.model_states.specs.Commits.{Graph}
use Rattle.model_states.specs.declared.refused.StateRefused.{StateRefused}
use Rattle.model_sessions.specs.Sessions.{Session}
use Rattle.root_tiles.specs.Chains.{ChainState, Leaves}
use Rattle.graph_edits.specs.declared.refused.GraphRefused.{GraphRefused}
use Rattle.graph_edits.specs.declared.refused.GraphRefused.TheVariants as graphs
use Rattle.graph_edits.specs.Refusals.{IsRefusalOf}
use Rattle.buffer_view.specs.BufferTables.{BufferTable, buffers_names, table_of}
use Rattle.session_states.specs.OverChains.{AreVersionsOver, IsReleased, IsShared, tables_of, versions_names}
use Rattle.session_states.specs.Versions.{Versions}
use Rattle.session_states.proofs.Names.{leaves-both}
use Rattle.session_states.proofs.Released.{one-released}
use Rattle.commit_session.specs.declared.refused.SessionRefused.{SessionRefused}
use Rattle.commit_session.specs.Parts.{Parts, session_names}
use Rattle.commit_session.specs.Refusals.{IsRefusedAs, by_graph}
use Rattle.commit_session.specs.Seen.{IsOver, IsSessionOf}
use Rattle.commit_session.proofs.Changed.{final-left, over-shown, shown-again}
use Rattle.commit_session.proofs.Working.{AreShownAgain}

-- ---- buffers that were shared for a step, and released again

module _ (now : Versions BufferTable) (shared : BufferTable) (s0 s1 s2 : ChainState) (share : IsShared now (buffers_names shared) s0 s1)
    (release : Leaves 0 (buffers_names shared) [] s1 s2) where
  unshared-all : IsReleased (buffers_names shared ++ versions_names now) now s1 s2
  unshared-all =
      one-released (buffers_names shared ++ versions_names now) shared now s1 s2 release share.owned (times-append (buffers_names shared) (versions_names now))
      share.over.over

  unshared-left : Leaves 0 (versions_names now) (versions_names now) s0 s2
  unshared-left = leaves-both (versions_names now) (buffers_names shared ++ versions_names now) (versions_names now) s0 s1 s2 share.left unshared-all.left

-- ---- sessions that are the same of the definitions

module _ {Op : Type 0} (same : Op → Op → Bool) (meanings : Meanings Op) where
  -- what a call leaves that changes nothing of the session of the definitions
  pub record IsKept (added : ℕ) (now new : Parts Op) (s0 s1 : ChainState) : Type 0 where
    pub session : (session : Session Table Op) → IsSessionOf same meanings now s0.held session → IsSessionOf same meanings new s1.held session
    pub over : IsOver same meanings new s1.held
    pub left : Leaves added (session_names now) (session_names new) s0 s1

  module _ (v now : Parts Op) (is : v ≡ now) where
    pub over-here : (held : Held) → IsOver same meanings now held → IsOver same meanings v held
    over-here held requires = subst (λ (p : Parts Op). IsOver same meanings p held) (sym is) requires

    module _ (s0 s1 : ChainState) (requires : IsOver same meanings now s0.held) where
      -- the buffers show what they showed
      pub read-parts : (added : ℕ) (edited : Versions BufferTable) → edited ≡ record v.versions { working = edited.working }
          → Leaves added (versions_names v.versions) (versions_names edited) s0 s1 → edited.working.layout ≡ v.versions.working.layout
          → tables_of edited s1.held ≡ tables_of v.versions s0.held → AreVersionsOver edited s1.held → IsKept added now (record v { versions = edited }) s0 s1
      read-parts added edited states leaves layout shown versions =
          let first : table_of edited.working s1.held ≡ table_of v.versions.working s0.held = ap (λ (t : Versions (Option Table)). t.working) shown in
          let again : AreShownAgain v.versions.working edited.working s0.held s1.held = record { layout = layout; table = first } in
          let tables : tables_of edited s1.held ≡ record (tables_of v.versions s0.held) { working = table_of edited.working s1.held } =
          shown ∙ ap (λ (t : Option Table). let all : Versions (Option Table) = record (tables_of v.versions s0.held) { working = t } in all) (sym first) in
          record {
            session = shown-again same meanings v now is s0 s1 requires added edited states leaves tables versions again;
            over = over-shown same meanings v now is s0 s1 requires added edited states leaves tables versions again;
            left = final-left same meanings v now is s0 s1 requires added edited states leaves tables versions v.written;
          }

      -- they couldn't be shared
      pub kept : IsShared v.versions [] s0 s1 → IsKept 0 now now s0 s1
      kept share = subst (λ (p : Parts Op). IsKept 0 now p s0 s1) is (read-parts 0 v.versions refl share.left refl share.tables share.over)

      -- they were shared and released again, and the graph is unchanged
      pub unshared : (shared : BufferTable) (s : ChainState) → IsShared v.versions (buffers_names shared) s0 s → Leaves 0 (buffers_names shared) [] s s1
          → (graph : Graph Op) → graph ≡ v.graph → IsKept 0 now (record v { graph = graph }) s0 s1
      unshared shared s share release graph unchanged =
          let again = unshared-all v.versions shared s0 s s1 share release in
          let leaves = unshared-left v.versions shared s0 s s1 share release in
          let all : IsKept 0 now v s0 s1 = read-parts 0 v.versions refl leaves refl (again.tables ∙ share.tables) again.over in
          subst (λ (g : Graph Op). IsKept 0 now (record v { graph = g }) s0 s1) (sym unchanged) all

-- ---- why a step is refused

module _ {A B : Type 0} (r : Result A StateRefused) (s : Result B StateRefused) (then : (why : StateRefused) → r ≡ Err why → s ≡ Err why) where
  refusal-too : (lower : GraphRefused) → IsRefusalOf r lower → IsRefusalOf s lower
  refusal-too (graphs.State why) is = then why is
  refusal-too graphs.NoMemory is = tt

  -- a refusal of the one result is one of the other
  pub refused-too : (refused : SessionRefused) → IsRefusedAs by_graph (IsRefusalOf r) refused → IsRefusedAs by_graph (IsRefusalOf s) refused
  refused-too refused is = record { lower = is.lower; is = is.is; by_cause = refusal-too is.lower is.by_cause }
