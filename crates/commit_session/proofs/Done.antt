-- Sessions after a commit, an undo or a redo.
use Rattle.std.proofs.Common.{◌≡◌, ℕ, Bool, List, ◌∷◌, ◌++◌, refl, sym, ap, subst, ◌∙◌, Some, Result, Ok}
use Rattle.std.specs.Prelude.{slice_get}
use Rattle.std.specs.Map.{values_of}
use Rattle.std.specs.Option.{option_map}
use Rattle.std.specs.Result.{result_unwrap_or}
use Rattle.model_buffers.specs.Table.{Table}
use Rattle.model_graphs.specs.Laws.{Distinguishes, IsBoxed, KeepsLaws}
use Rattle.model_graphs.specs.Meanings.{Meanings}
use Rattle.model_states.specs.declared.refused.StateRefused.{StateRefused}
use Rattle.model_states.specs.Cache.{Cached, all_voided, by_pair, itself}
use Rattle.model_states.specs.Commits.{Graph, change_to, committed}
use Rattle.model_states.specs.Damage.{damage}
use Rattle.model_states.specs.History as history
use Rattle.model_states.specs.History.{History, appended}
use Rattle.model_states.specs.Rectangles.{Rectangles}
use Rattle.model_states.specs.Workspace.{settled_step}
use Rattle.model_sessions.specs.Sessions.{IsSession, Session, with_state}
use Rattle.model_sessions.specs.Steps.{Commit, HistoryEdit, IsProper, after_step}
use Rattle.model_sessions.specs.Tables.{table_shapes}
use Rattle.chain_owners.specs.Owners.{Owns}
use Rattle.root_tiles.specs.Chains.{ChainState, Leaves}
use Rattle.node_cache.specs.NodeNames.{IsNodeCache, cached_in, sizes_in}
use Rattle.node_cache.specs.Stores.{AddsNoOther, HaveOneOwner, by_sized}
use Rattle.model_states.specs.declared.direction.Direction.{Direction}
use Rattle.model_states.specs.declared.direction.Direction.TheVariants.{Undo, Redo}
use Rattle.model_states.specs.Directions.{stepped}
use Rattle.graph_commits.specs.Graphs.{AreDamagesOf}
use Rattle.buffer_view.specs.BufferTables.{BufferTable}
use Rattle.session_states.specs.OverChains.{AreAllOver, IsReleased, IsShared, versions_names}
use Rattle.session_states.specs.Versions.{Versions, after_commit, all_versions, versions_after, versions_ahead}
use Rattle.session_states.proofs.Returned.{first-is}
use Rattle.commit_session.specs.Parts.{Parts, cached_pairs, session_names, working_facts}
use Rattle.commit_session.specs.Seen.{AreOfTable, AreRetained, IsOver, IsSessionOf}
use Rattle.commit_session.specs.Steps.{IsCommitted, IsSettled, LeadsTo, history_step, step_action}
use Rattle.commit_session.proofs.CommitStep.{CommitLeads, commit-leads}
use Rattle.commit_session.proofs.Led.{IsAfter, history_after, leads-to, or-before, session-led, valid-led}
use Rattle.commit_session.proofs.Kept.{over-here}
use Rattle.commit_session.proofs.Moved.{retained-moved, working-moved}
use Rattle.commit_session.proofs.Stepped.{DamagesOf, GraphStep, IsStep, Leads, StatesStep, change_from, parts_with, step-leads}
use Rattle.commit_session.proofs.Through.{alone-ready, cache-ready, cached-ready, left-through, over-through, owned-through, sizes-ready, tables-through}
use Rattle.commit_session.proofs.Voided.{voids-leave}

-- ---- a step of a history

pub history-step-is : {Op : Type 0} (direction : Direction) (past : History Table Op) (result : Result (StatesStep Op) StateRefused)
    → stepped direction past.workspace.retained ≡ result → history_step direction past ≡ appended past (settled_step result)
history-step-is {Op} Undo past result is = ap (λ (r : Result (StatesStep Op) StateRefused). appended past (settled_step r)) is
history-step-is {Op} Redo past result is = ap (λ (r : Result (StatesStep Op) StateRefused). appended past (settled_step r)) is

proper-step : (Op : Type 0) (direction : Direction) → IsProper (step_action {Op = Op} direction)
proper-step Op Undo = tt
proper-step Op Redo = tt

action-is : {Op : Type 0} (meanings : Meanings Op) (direction : Direction) (past : History Table Op)
    → after_step meanings past (step_action direction) ≡ result_unwrap_or (history_step direction past) past
action-is meanings Undo past = refl
action-is meanings Redo past = refl

module _ {Op : Type 0} (same : Op → Op → Bool) (meanings : Meanings Op) where
  -- The buffers were shared, then put in their place, and the cached pairs voided: over these chains.
  pub record IsThrough (now new : Parts Op) (next : Graph Op) (versions : Versions BufferTable) (delta : Rectangles) (more : List ℕ) (s0 s1 s2 s3 : ChainState) : Type 0 where
    pub shared : IsShared now.versions more s0 s1
    pub put : IsReleased (more ++ versions_names now.versions) versions s1 s2
    pub settled : IsSettled delta (parts_with same meanings now s1.held next versions) new
    pub versions_are : new.versions ≡ versions
    pub graph_is : new.graph ≡ next
    pub sizes : sizes_in new.entries s3.held ≡ all_voided by_sized (sizes_in now.entries s2.held) delta
    pub cached : cached_in new.entries s3.held ≡ option_map (λ (l : List Cached). all_voided by_pair l delta) (cached_in now.entries s2.held)
    pub cache : IsNodeCache new.entries new.most new.capacity s3.held
    pub alone : HaveOneOwner s3.held (values_of new.entries)
    pub others : AddsNoOther s2.counts s3.counts (values_of now.entries) (values_of new.entries)
    pub left : Leaves 0 (values_of now.entries) (values_of new.entries) s2 s3

  module _ (now new : Parts Op) (next : Graph Op) (versions : Versions BufferTable) (delta : Rectangles) (more : List ℕ) (s0 s1 s2 s3 : ChainState)
      (through : IsThrough now new next versions delta more s0 s1 s2 s3) (over : IsOver same meanings now s0.held) where
    abbrev between : List ℕ
    between = more ++ versions_names now.versions

    -- ---- over the chain

    done-left : Leaves 0 (session_names now) (session_names new) s0 s3
    done-left =
        subst (λ (v : Versions BufferTable). Leaves 0 (session_names now) (versions_names v ++ values_of new.entries) s0 s3) (sym through.versions_are)
        (left-through now.versions versions now.entries new.entries between s0 s1 s2 over.owned through.shared.left through.put.left s3 through.left through.put.over)

    is-after : IsAfter same meanings now new next versions delta s0.held s1.held s2.held s3.held
    is-after = record {
      settled = through.settled;
      versions_are = through.versions_are;
      graph_is = through.graph_is;
      tables = tables-through now.versions versions now.entries new.entries between s0 s1 s2 over.owned through.shared.left through.put.left s3 through.left through.put.over
          ∙ through.put.tables;
      bytes = cached-ready now.versions versions now.entries new.entries between s0 s1 s2 over.owned through.shared.left through.put.left;
      sizes = sizes-ready now.versions versions now.entries new.entries between s0 s1 s2 over.owned through.shared.left through.put.left;
      bytes_after = through.cached;
      sizes_after = through.sizes;
    }

    -- ---- of the definitions

    module _ (session : Session Table Op) (of : IsSessionOf same meanings now s0.held session) where
      shared-states : AreRetained same meanings now s1.held session.history.workspace.retained
      shared-states =
          retained-moved s0.held s1.held now.versions through.shared.tables same meanings now now.graph session.history.workspace.retained now refl refl of.retained

      shared-working : AreOfTable now.versions.working s1.held session.history.workspace.working
      shared-working = working-moved s0.held s1.held now.versions through.shared.tables session.history.workspace.working of.working

      -- a step of its states
      pub done-session : (stepped : StatesStep Op) → IsStep same meanings now s1.held next versions delta session.history.workspace.retained stepped
          → IsSessionOf same meanings new s3.held (with_state same meanings session (history_after same meanings session.history stepped))
      done-session stepped step = session-led same meanings now new next versions delta s0.held s1.held s2.held s3.held is-after session of stepped step

      -- a step of its history
      pub done-leads : (result : Result (History Table Op) StateRefused) (stepped : StatesStep Op)
          → IsStep same meanings now s1.held next versions delta session.history.workspace.retained stepped
          → result ≡ Ok (history_after same meanings session.history stepped)
          → LeadsTo result (λ (next : History Table Op). IsSessionOf same meanings new s3.held (with_state same meanings session next))
      done-leads result stepped step is =
          leads-to result (history_after same meanings session.history stepped)
          (λ (next : History Table Op). IsSessionOf same meanings new s3.held (with_state same meanings session next)) is (done-session stepped step)

    module _ (laws : KeepsLaws meanings) (boxed : IsBoxed meanings) (apart : Distinguishes same) where
      done-over : (action : HistoryEdit Op) (stepped : StatesStep Op) → IsStep same meanings now s1.held next versions delta over.session.history.workspace.retained stepped
          → IsProper action → after_step meanings over.session.history action ≡ history_after same meanings over.session.history stepped
          → IsOver same meanings new s3.held
      done-over action stepped step proper is = record {
        owned = subst (λ (v : Versions BufferTable). Owns s3.held (versions_names v ++ values_of new.entries)) (sym through.versions_are)
            (owned-through now.versions versions now.entries new.entries between s0 s1 s2 over.owned through.shared.left through.put.left s3 through.left through.put.over);
        alone = through.alone;
        over = subst (λ (v : Versions BufferTable). AreAllOver (all_versions v) s3.held) (sym through.versions_are)
            (over-through now.versions versions now.entries new.entries between s0 s1 s2 over.owned through.shared.left through.put.left s3 through.left through.put.over);
        cache = through.cache;
        session = with_state same meanings over.session (history_after same meanings over.session.history stepped);
        is = done-session over.session over.is stepped step;
        valid = subst (λ (n : ℕ). IsSession meanings n (with_state same meanings over.session (history_after same meanings over.session.history stepped))) (sym through.settled.capacity)
            (valid-led same meanings laws boxed apart now.capacity over.session stepped step.number action over.valid proper is);
      }

    -- ---- what isn't counted or cached

    -- a result of this graph is one of the new session's
    graph-same : (r : Result (GraphStep Op) StateRefused) → r ≡ Ok (record { next = next; delta = delta }) → r ≡ Ok (record { next = new.graph; delta = delta })
    graph-same r is =
        is ∙ ap (λ (g : Graph Op). let step : GraphStep Op = record { next = g; delta = delta } in Ok step) (sym through.graph_is)

    done-settled : IsSettled delta now new
    done-settled = record {
      pending = through.settled.pending;
      written = through.settled.written;
      pairs = through.settled.pairs;
      capacity = through.settled.capacity;
      applied = through.settled.applied;
      reused = through.settled.reused;
    }

    -- ---- a commit

    module _ (is : committed same meanings now.graph now.pending (working_facts now) now.written ≡ Ok (record { next = next; delta = delta }))
        (versions_are : versions ≡ after_commit now.versions) (promise : AreDamagesOf same meanings (change_from same meanings now s1.held next now.written) delta) where
      commit-of : (session : Session Table Op) → IsSessionOf same meanings now s0.held session → CommitLeads same meanings now s1.held next versions delta session.history
      commit-of session of =
          commit-leads same meanings now s0.held session of s1.held (shared-states session of) (shared-working session of) next delta versions is versions_are promise

      commit-session : (session : Session Table Op) → IsSessionOf same meanings now s0.held session
          → LeadsTo (history.committed meanings table_shapes session.history) (λ (next : History Table Op). IsSessionOf same meanings new s3.held (with_state same meanings session next))
      commit-session session of =
          let leads = commit-of session of in done-leads session of (history.committed meanings table_shapes session.history) leads.stepped leads.step leads.is

      commit-over : KeepsLaws meanings → IsBoxed meanings → Distinguishes same → IsOver same meanings new s3.held
      commit-over laws boxed apart =
          let leads = commit-of over.session over.is in
          done-over laws boxed apart Commit leads.stepped leads.step tt
          (or-before (history.committed meanings table_shapes over.session.history) (history_after same meanings over.session.history leads.stepped) over.session.history leads.is)

      commit-done : IsCommitted same meanings now new
      commit-done =
          let leads = commit-of over.session over.is in
          record {
            damages = delta;
            graph = graph-same (committed same meanings now.graph now.pending (working_facts now) now.written) is;
            versions = through.versions_are ∙ versions_are;
            settled = done-settled;
            voided = through.settled.pairs
                ∙ voids-leave same meanings delta leads.step.change leads.step.damages (damage same meanings (change_to now.graph new.graph.latest now.written))
                (λ name. leads.step.each name
                ∙ ap (λ (w : Rectangles). damage same meanings (change_from same meanings now s1.held next w) name) leads.written
                ∙ ap (λ (g : Graph Op). damage same meanings (change_from same meanings now s1.held g now.written) name) (sym through.graph_is))
                itself (cached_pairs now);
          }

    -- ---- an undo or a redo

    module _ (direction : Direction) (is : stepped direction now.graph ≡ Ok (record { next = next; delta = delta }))
        (made : (first : BufferTable) (rest : List BufferTable) → versions_ahead direction now.versions ≡ first ∷ rest → versions ≡ versions_after direction now.versions first rest)
        (promise : DamagesOf same meanings now s1.held direction next delta) where
      step-of : (session : Session Table Op) → IsSessionOf same meanings now s0.held session
          → Leads same meanings now s1.held next versions delta session.history.workspace.retained (stepped direction session.history.workspace.retained)
      step-of session of = step-leads same meanings now s1.held session.history.workspace.retained (shared-states session of) direction next versions delta is made promise

      stepped-is : (session : Session Table Op) (of : IsSessionOf same meanings now s0.held session)
          → history_step direction session.history ≡ Ok (history_after same meanings session.history (step-of session of).stepped)
      stepped-is session of = history-step-is direction session.history _ (step-of session of).is

      step-session : (session : Session Table Op) → IsSessionOf same meanings now s0.held session
          → LeadsTo (history_step direction session.history) (λ (next : History Table Op). IsSessionOf same meanings new s3.held (with_state same meanings session next))
      step-session session of =
          let leads = step-of session of in done-leads session of (history_step direction session.history) leads.stepped leads.step (stepped-is session of)

      step-over : KeepsLaws meanings → IsBoxed meanings → Distinguishes same → IsOver same meanings new s3.held
      step-over laws boxed apart =
          let leads = step-of over.session over.is in
          let past = over.session.history in
          done-over laws boxed apart (step_action direction) leads.stepped leads.step (proper-step Op direction)
          (action-is meanings direction past
          ∙ or-before (history_step direction past) (history_after same meanings past leads.stepped) past (stepped-is over.session over.is))

-- ---- what a step leaves

module _ {Op : Type 0} (same : Op → Op → Bool) (meanings : Meanings Op) where
  -- The session is one of the definitions' next history.
  pub record IsMade (now new : Parts Op) (step : History Table Op → Result (History Table Op) StateRefused) (s0 s3 : ChainState) : Type 0 where
    pub session : (session : Session Table Op) → IsSessionOf same meanings now s0.held session
        → LeadsTo (step session.history) (λ (next : History Table Op). IsSessionOf same meanings new s3.held (with_state same meanings session next))
    pub over : IsOver same meanings new s3.held
    pub left : Leaves 0 (session_names now) (session_names new) s0 s3

  -- what is asked where the cached pairs are voided
  pub record IsReady (now : Parts Op) (s2 : ChainState) : Type 0 where
    pub cache : IsNodeCache now.entries now.most now.capacity s2.held
    pub alone : HaveOneOwner s2.held (values_of now.entries)

  module _ (v now : Parts Op) (here : v ≡ now) (s0 s1 s2 : ChainState) (requires : IsOver same meanings now s0.held) (versions : Versions BufferTable) (more : List ℕ) where
    over : IsOver same meanings v s0.held
    over = over-here same meanings v now here s0.held requires

    pub ready : IsShared v.versions more s0 s1 → IsReleased (more ++ versions_names v.versions) versions s1 s2 → IsReady v s2
    ready share put =
        let between = more ++ versions_names v.versions in
        record {
          cache = cache-ready v.versions versions v.entries v.entries between s0 s1 s2 over.owned share.left put.left v.most v.capacity over.cache;
          alone = alone-ready v.versions versions v.entries v.entries between s0 s1 s2 over.owned share.left put.left over.alone;
        }

    module _ (s3 : ChainState) (new : Parts Op) (next : Graph Op) (delta : Rectangles) (through : IsThrough same meanings v new next versions delta more s0 s1 s2 s3)
        (laws : KeepsLaws meanings) (boxed : IsBoxed meanings) (apart : Distinguishes same) where
      left : Leaves 0 (session_names v) (session_names new) s0 s3
      left = done-left same meanings v new next versions delta more s0 s1 s2 s3 through over

      -- a commit of its edits, by the facts of its buffers and its rectangles
      module _ (is : committed same meanings now.graph now.pending (working_facts now) now.written ≡ Ok (record { next = next; delta = delta }))
          (made : versions ≡ after_commit v.versions) (written : Rectangles) (written_is : written ≡ v.written)
          (damages : AreDamagesOf same meanings (change_from same meanings v s1.held next written) delta) where
        commit_is : committed same meanings v.graph v.pending (working_facts v) v.written ≡ Ok (record { next = next; delta = delta })
        commit_is = ap (λ (p : Parts Op). committed same meanings p.graph p.pending (working_facts p) p.written) here ∙ is

        promise : AreDamagesOf same meanings (change_from same meanings v s1.held next v.written) delta
        promise = subst (λ (w : Rectangles). AreDamagesOf same meanings (change_from same meanings v s1.held next w) delta) written_is damages

        commit-stepped : IsMade now new (history.committed meanings table_shapes) s0 s3
        commit-stepped =
            subst (λ (p : Parts Op). IsMade p new (history.committed meanings table_shapes) s0 s3) here
            (record {
              session = commit-session same meanings v new next versions delta more s0 s1 s2 s3 through over commit_is made promise;
              over = commit-over same meanings v new next versions delta more s0 s1 s2 s3 through over commit_is made promise laws boxed apart;
              left = left;
            })

        commit-made : IsCommitted same meanings now new
        commit-made = subst (λ (p : Parts Op). IsCommitted same meanings p new) here (commit-done same meanings v new next versions delta more s0 s1 s2 s3 through over commit_is made promise)

        pub commit-both-made : IsMade now new (history.committed meanings table_shapes) s0 s3 × IsCommitted same meanings now new
        commit-both-made = (commit-stepped, commit-made)

      pub step-made : (direction : Direction) → stepped direction v.graph ≡ Ok (record { next = next; delta = delta })
          → ((first : BufferTable) (rest : List BufferTable) → versions_ahead direction v.versions ≡ first ∷ rest → versions ≡ versions_after direction v.versions first rest)
          → DamagesOf same meanings v s1.held direction next delta → IsMade now new (history_step direction) s0 s3
      step-made direction is made promise =
          subst (λ (p : Parts Op). IsMade p new (history_step direction) s0 s3) here
          (record {
            session = step-session same meanings v new next versions delta more s0 s1 s2 s3 through over direction is made promise;
            over = step-over same meanings v new next versions delta more s0 s1 s2 s3 through over direction is made promise laws boxed apart;
            left = left;
          })

-- ---- the states to which buffers go

pub made-step : (direction : Direction) (now final : Versions BufferTable) (shared : BufferTable) → slice_get (versions_ahead direction now) 0 ≡ Some shared
    → ((rest : List BufferTable) → versions_ahead direction now ≡ shared ∷ rest → final ≡ versions_after direction now shared rest)
    → (first : BufferTable) (rest : List BufferTable) → versions_ahead direction now ≡ first ∷ rest → final ≡ versions_after direction now first rest
made-step direction now final shared there made first rest is =
    let same : first ≡ shared = first-is (versions_ahead direction now) rest first shared is there in
    subst (λ (b : BufferTable). final ≡ versions_after direction now b rest) (sym same) (made rest (is ∙ ap (λ (b : BufferTable). b ∷ rest) same))
