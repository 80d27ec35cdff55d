-- The buffers of the last state are among those that are edited.
use Rattle.std.proofs.Common.{◌≡◌, ℕ, Bool, List, refl, sym, ap, ◌∙◌, subst, Option, Some, None}
use Rattle.std.specs.Option.{option_map}
use Rattle.chain_owners.specs.Held.{Held}
use Rattle.model_buffers.specs.Layout.{View, fact_in, facts_of, find}
use Rattle.model_buffers.specs.Table.{Table, layout_of, root_of}
use Rattle.model_graphs.specs.declared.buffer.BufferFact.{BufferFact}
use Rattle.model_graphs.specs.declared.node.NodeEdit.{NodeEdit}
use Rattle.model_graphs.specs.Facts.{Facts, fact_of}
use Rattle.model_graphs.specs.Meanings.{Meanings}
use Rattle.model_states.specs.Commits.{Graph, committed}
use Rattle.model_states.specs.Rectangles.{Rectangles}
use Rattle.model_sessions.specs.Histories.{last_state}
use Rattle.model_sessions.specs.Tables.{Continues, table_facts}
use Rattle.model_sessions.proofs.Sources.{fact-found, neighbors}
use Rattle.graph_commits.specs.Graphs.{AreStillThere}
use Rattle.buffer_view.specs.BufferTables.{BufferTable}
use Rattle.commit_session.specs.Parts.{Parts, working_facts}
use Rattle.commit_session.specs.Seen.{IsOver}

-- the root of a buffer that is known
root-known : (table : Table) (name : List ℕ) (fact : BufferFact) → fact_of (table_facts table) name ≡ Some fact → root_of table name ≡ Some fact.root
root-known table name fact found = by (find table.buffers name) refl (sym (fact-found table name) ∙ found)
  where
    by : (o : Option View) → find table.buffers name ≡ o → option_map (fact_in (layout_of table) name) o ≡ Some fact → root_of table name ≡ Some fact.root
    by None e none = absurd (cc)
    by (Some view) e is =
        let same : fact_in (layout_of table) name view ≡ fact = cc in
        ap (option_map (λ (view : View). view.root)) e ∙ ap (λ (f : BufferFact). Some f.root) same

-- what is known of a buffer that has a root
record IsKnown (table : Table) (name : List ℕ) : Type 0 where
  fact : BufferFact
  found : fact_of (table_facts table) name ≡ Some fact

known-root : (table : Table) (name root : List ℕ) → root_of table name ≡ Some root → IsKnown table name
known-root table name root on = by (find table.buffers name) refl on
  where
    by : (o : Option View) → find table.buffers name ≡ o → option_map (λ (view : View). view.root) o ≡ Some root → IsKnown table name
    by None e none = absurd (cc)
    by (Some view) e is = record {
      fact = fact_in (layout_of table) name view;
      found = fact-found table name ∙ ap (option_map (fact_in (layout_of table) name)) e;
    }

pub still-there : (table next : Table) (written : Rectangles) → Continues table written next → AreStillThere (table_facts table) (table_facts next)
still-there table next written continued = λ name a found.
    let on = continued name a.root (root-known table name a found) in
    let again = known-root next name a.root on.0 in
    (again.fact, again.found, (neighbors table next written continued).steady name a again.fact found again.found)

-- ---- what a commit is handed

module _ {Op : Type 0} (same : Op → Op → Bool) (meanings : Meanings Op) (now : Parts Op) (held : Held) (over : IsOver same meanings now held)
    (working : BufferTable) (facts : Facts) (working_is : working ≡ now.versions.working) (facts_are : facts ≡ facts_of working.layout) where
  -- the facts are those of the working buffers
  working-facts : facts ≡ working_facts now
  working-facts = facts_are ∙ ap (λ (b : BufferTable). facts_of b.layout) working_is

  -- and each buffer of the last state is among them
  pub working-still : AreStillThere now.graph.latest.buffers facts
  working-still =
      let history = over.session.history in
      let latest = over.is.retained.latest in
      let old : table_facts (last_state history).table ≡ now.graph.latest.buffers = ap facts_of latest.table.layout ∙ sym latest.facts in
      let new : table_facts history.workspace.working ≡ facts = ap facts_of over.is.working.layout ∙ sym working-facts in
      subst (λ (f : Facts). AreStillThere now.graph.latest.buffers f) new
      (subst (λ (f : Facts). AreStillThere f (table_facts history.workspace.working)) old
      (still-there (last_state history).table history.workspace.working history.workspace.written over.valid.history.continued))

-- the same commit, of edits, facts and rectangles that are these
module _ {Op : Type 0} (same : Op → Op → Bool) (meanings : Meanings Op) (graph : Graph Op) (edits edits' : List (NodeEdit Op)) (facts facts' : Facts) (written written' : Rectangles)
    (edits_are : edits ≡ edits') (facts_are : facts ≡ facts') (written_is : written ≡ written') where
  commit-same : committed same meanings graph edits facts written ≡ committed same meanings graph edits' facts' written'
  commit-same =
      ap (λ (es : List (NodeEdit Op)). committed same meanings graph es facts written) edits_are
      ∙ ap (λ (f : Facts). committed same meanings graph edits' f written) facts_are
      ∙ ap (λ (w : Rectangles). committed same meanings graph edits' facts' w) written_is

-- so a commit of the edits, facts and rectangles of a session is the session's
module _ {Op : Type 0} (same : Op → Op → Bool) (meanings : Meanings Op) (v now : Parts Op) (is : v ≡ now) (working : BufferTable) (facts : Facts) (edits : List (NodeEdit Op)) (written : Rectangles)
    (working_is : working ≡ v.versions.working) (facts_are : facts ≡ facts_of working.layout) (edits_are : edits ≡ v.pending) (written_is : written ≡ v.written) where
  pub commit-here : committed same meanings v.graph edits facts written ≡ committed same meanings now.graph now.pending (working_facts now) now.written
  commit-here =
      commit-same same meanings v.graph edits v.pending facts (working_facts v) written v.written edits_are
      (facts_are ∙ ap (λ (b : BufferTable). facts_of b.layout) working_is) written_is
      ∙ ap (λ (p : Parts Op). committed same meanings p.graph p.pending (working_facts p) p.written) is
