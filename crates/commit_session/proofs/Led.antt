-- Sessions after a step that leads to another state.
use Rattle.std.proofs.Common.{◌≡◌, ℕ, ◌+◌, Bool, false, cond, List, sym, ap, subst, ◌∙◌, Result, Ok, arith}
use Rattle.std.specs.Prelude.{◌==◌}
use Rattle.std.specs.Option.{option_map}
use Rattle.std.specs.Result.{result_unwrap_or}
use Rattle.std.proofs.lemmas.Bool.{ne_eqb}
use Rattle.chain_owners.specs.Held.{Held}
use Rattle.model_buffers.specs.Table.{Table}
use Rattle.model_graphs.specs.Laws.{Distinguishes, IsBoxed, KeepsLaws}
use Rattle.model_graphs.specs.Meanings.{Meanings}
use Rattle.model_states.specs.declared.refused.StateRefused.{StateRefused}
use Rattle.model_states.specs.Cache.{Cached, all_voided, by_pair, without_damaged}
use Rattle.model_states.specs.Commits.{Graph}
use Rattle.model_states.specs.Damage.{Change, Side, damage}
use Rattle.model_states.specs.History.{History, number_of, with_step}
use Rattle.model_states.specs.Rectangles.{Rectangles}
use Rattle.model_states.specs.Workspace.{settled}
use Rattle.model_sessions.specs.Histories.{change_to, side_of_state}
use Rattle.model_sessions.specs.Sessions.{IsSession, Make, Session, with_history, with_state}
use Rattle.model_sessions.specs.Steps.{HistoryEdit, IsProper, after_step}
use Rattle.model_sessions.proofs.Actions.{action_keeps}
use Rattle.node_cache.specs.NodeNames.{cached_in, sizes_in}
use Rattle.node_cache.specs.Stores.{by_sized}
use Rattle.buffer_view.specs.BufferTables.{BufferTable}
use Rattle.session_states.specs.OverChains.{tables_of}
use Rattle.session_states.specs.Versions.{Versions}
use Rattle.commit_session.specs.Parts.{Parts}
use Rattle.commit_session.specs.Seen.{AreCached, AreOfTable, IsSessionOf}
use Rattle.commit_session.specs.Steps.{IsSettled, LeadsTo}
use Rattle.commit_session.proofs.Held.{side-same}
use Rattle.commit_session.proofs.Moved.{retained-moved, working-moved}
use Rattle.commit_session.proofs.Stepped.{IsStep, StatesStep, change_from, parts_with}
use Rattle.commit_session.proofs.Voided.{cached-voided}

module _ {Op : Type 0} (same : Op → Op → Bool) (meanings : Meanings Op) where
  -- the history that a step of its states leads to
  abbrev pub history_after : History Table Op → StatesStep Op → History Table Op
  history_after history stepped = with_step history (record { next = settled stepped.next; delta = stepped.delta })

  -- what was edited is gone, and the damaged pairs were voided over these two chains
  pub record IsAfter (now new : Parts Op) (next : Graph Op) (versions : Versions BufferTable) (delta : Rectangles) (h0 h1 h2 h3 : Held) : Type 0 where
    pub settled : IsSettled delta (parts_with same meanings now h1 next versions) new
    pub versions_are : new.versions ≡ versions
    pub graph_is : new.graph ≡ next
    pub tables : tables_of versions h3 ≡ tables_of versions h1
    pub bytes : cached_in now.entries h2 ≡ cached_in now.entries h0
    pub sizes : sizes_in now.entries h2 ≡ sizes_in now.entries h0
    pub bytes_after : cached_in new.entries h3 ≡ option_map (λ (l : List Cached). all_voided by_pair l delta) (cached_in now.entries h2)
    pub sizes_after : sizes_in new.entries h3 ≡ all_voided by_sized (sizes_in now.entries h2) delta

  module _ (now new : Parts Op) (next : Graph Op) (versions : Versions BufferTable) (delta : Rectangles) (h0 h1 h2 h3 : Held) (after : IsAfter now new next versions delta h0 h1 h2 h3)
      (session : Session Table Op) (of : IsSessionOf same meanings now h0 session) (stepped : StatesStep Op)
      (step : IsStep same meanings now h1 next versions delta session.history.workspace.retained stepped) where
    abbrev history : History Table Op
    history = history_after session.history stepped

    change-same : change_to meanings session.history history ≡ change_from same meanings now h1 next stepped.delta
    change-same =
        let old = side-same meanings now.graph.latest now.versions.latest h0 session.history.workspace.retained.latest of.retained.latest step.stated.old in
        let new = side-same meanings next.latest versions.latest h1 stepped.next.latest step.states.latest step.stated.new in
        let last = side_of_state meanings stepped.next.latest in
        ap (λ (side : Side Op). let change : Change Op = record { old = side; new = last; rectangles = stepped.delta } in change) old
        ∙ ap (λ (side : Side Op). let change : Change Op = record { old = now.graph.latest; new = side; rectangles = stepped.delta } in change) new

    each-same : (name : List ℕ) → damage same meanings step.change name ≡ damage same meanings (change_to meanings session.history history) name
    each-same name = step.each name ∙ ap (λ (change : Change Op). damage same meanings change name) (sym change-same)

    cached : AreCached new.entries h3 (without_damaged by_pair (damage same meanings (change_to meanings session.history history)) session.cached.list)
    cached =
        cached-voided same meanings delta step.change step.damages (damage same meanings (change_to meanings session.history history)) each-same
        now.entries new.entries h0 h2 h3 after.bytes after.sizes after.settled.pairs after.sizes_after after.bytes_after session.cached.list of.cached

    pub session-led : IsSessionOf same meanings new h3 (with_state same meanings session history)
    session-led = record {
      working = subst (λ (v : Versions BufferTable). AreOfTable v.working h3 stepped.next.latest.table) (sym after.versions_are)
          (working-moved h1 h3 versions after.tables stepped.next.latest.table step.working);
      pending = sym after.settled.pending;
      written = sym after.settled.written;
      retained = retained-moved h1 h3 versions after.tables same meanings now next stepped.next new after.versions_are after.graph_is step.states;
      cached = cached;
      applied = of.applied ∙ sym after.settled.applied;
      reused = of.reused ∙ sym after.settled.reused;
    }

  -- ---- what holds of it

  module _ (laws : KeepsLaws meanings) (boxed : IsBoxed meanings) (apart : Distinguishes same) (capacity : ℕ) (session : Session Table Op) (stepped : StatesStep Op)
      (number : stepped.next.number ≡ session.history.workspace.retained.number + 1) where
    pub valid-led : (action : HistoryEdit Op) → IsSession meanings capacity session → IsProper action
        → after_step meanings session.history action ≡ history_after session.history stepped
        → IsSession meanings capacity (with_state same meanings session (history_after session.history stepped))
    valid-led action valid proper is =
        let next = history_after session.history stepped in
        let more : (number_of next == number_of session.history) ≡ false =
        ne_eqb (number_of next) (number_of session.history) (λ e. absurd (omega (arith, e, number))) in
        subst (λ (b : Bool). IsSession meanings capacity (cond b (record session { history = next }) (with_state same meanings session next))) more
        (subst (λ (h : History Table Op). IsSession meanings capacity (with_history same meanings session h)) is
        (action_keeps same meanings laws boxed apart capacity session (Make action) valid proper))

-- ---- results of steps of histories

pub leads-to : {Next : Type 0} (r : Result Next StateRefused) (next : Next) (P : Next → Type 0) → r ≡ Ok next → P next → LeadsTo r P
leads-to {Next} r next P is p = subst (λ (s : Result Next StateRefused). LeadsTo s P) (sym is) p

pub or-before : {Next : Type 0} (r : Result Next StateRefused) (next before : Next) → r ≡ Ok next → result_unwrap_or r before ≡ next
or-before {Next} r next before is = ap (λ (s : Result Next StateRefused). result_unwrap_or s before) is
