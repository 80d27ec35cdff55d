-- Edits and reads of what is edited, as the definitions have them.
use Rattle.std.proofs.Common.{◌≡◌, ℕ, Bool, cond, List, [], ◌∷◌, ◌++◌, map, refl, sym, ap, subst, ◌∙◌, Option, Some, None}
use Rattle.std.specs.Prelude.{IfSome}
use Rattle.std.specs.List.{AllByRecursion}
use Rattle.std.specs.Option.{option_map}
use Rattle.std.proofs.lemmas.Bool.{eq-eqb}
use Rattle.plane_rect.specs.Rectangle.{Rectangle}
use Rattle.chain_owners.specs.Held.{Held}
use Rattle.model_buffers.specs.declared.edit.BufferEdit.{BufferEdit}
use Rattle.model_buffers.specs.BufferEdit.{Refusal, edit_refused, layout_with, written_by}
use Rattle.model_buffers.specs.Edits.{table_with, unless_refused}
use Rattle.model_buffers.specs.Layout.{TableLayout}
use Rattle.model_buffers.specs.Table.{Table, layout_of}
use Rattle.model_buffers.proofs.ShapeLaws.{layout-with}
use Rattle.model_graphs.specs.declared.node.NodeEdit.{NodeEdit}
use Rattle.model_graphs.specs.Laws.{Distinguishes, IsBoxed, KeepsLaws}
use Rattle.model_graphs.specs.Meanings.{Meanings}
use Rattle.model_states.specs.Cache.{Cached}
use Rattle.model_states.specs.History.{History, number_of}
use Rattle.model_states.specs.Rectangles.{Rectangles}
use Rattle.model_states.specs.Retained.{Retained}
use Rattle.model_states.specs.State.{State}
use Rattle.model_states.specs.Workspace.{Workspace}
use Rattle.model_sessions.specs.Sessions.{IsSession, Make, Session, with_state}
use Rattle.model_sessions.specs.Steps.{EditBuffer, EditNode, HistoryEdit, IsProper, after_edit, after_step, with_edit, with_working}
use Rattle.model_sessions.proofs.Actions.{action_keeps}
use Rattle.node_cache.specs.NodeNames.{Entries, cached_in, sizes_in}
use Rattle.model_states.specs.declared.direction.Direction.TheVariants.{Undo, Redo}
use Rattle.buffer_view.specs.BufferTables.{BufferTable, table_of}
use Rattle.session_states.specs.OverChains.{tables_of}
use Rattle.session_states.specs.Versions.{Versions}
use Rattle.commit_session.specs.Parts.{Parts}
use Rattle.commit_session.specs.Seen.{AreCached, AreOfTable, AreRetained, IsSessionOf}
use Rattle.commit_session.specs.Steps.{after_writing}
use Rattle.commit_session.proofs.Held.{IsSame, ahead-again, state-again}

-- An edit was carried out on buffers.
pub record IsEdited (edit : BufferEdit) (before after : BufferTable) (old new : Held) : Type 0 where
  pub carried_out : edit_refused before.layout edit ≡ None
  pub layout : after.layout ≡ layout_with before.layout edit
  pub table : table_of after new ≡ option_map (λ table. table_with table edit) (table_of before old)

-- Buffers show what they showed.
pub record AreShownAgain (before after : BufferTable) (old new : Held) : Type 0 where
  pub layout : after.layout ≡ before.layout
  pub table : table_of after new ≡ table_of before old

-- ---- tables

-- the table of buffers that an edit was made of
pub table-edited : (edit : BufferEdit) (before after : BufferTable) (old new : Held) (table : Table) → IsEdited edit before after old new → AreOfTable before old table
    → AreOfTable after new (table_with table edit)
table-edited edit before after old new table edited of = record {
  layout = layout-with table edit ∙ ap (λ (l : TableLayout). layout_with l edit) of.layout ∙ sym edited.layout;
  images = subst (λ (o : Option Table). IfSome o (λ (known : Table). known ≡ table_with table edit)) (sym edited.table) (by (table_of before old) of.images);
}
  where
    by : (o : Option Table) → IfSome o (λ (known : Table). known ≡ table) → IfSome (option_map (λ (t : Table). table_with t edit) o) (λ (known : Table). known ≡ table_with table edit)
    by None is = tt
    by (Some known) is = ap (λ (t : Table). table_with t edit) is

pub table-shown : (before after : BufferTable) (old new : Held) (table : Table) → AreShownAgain before after old new → AreOfTable before old table → AreOfTable after new table
table-shown before after old new table again of = record {
  layout = of.layout ∙ sym again.layout;
  images = subst (λ (o : Option Table). IfSome o (λ (known : Table). known ≡ table)) (sym again.table) of.images;
}

-- ---- states that are as before

-- each of a list of values is seen alike
pub maps-same : {X Y : Type 0} (f g : X → Y) (xs : List X) → map f xs ≡ map g xs → AllByRecursion (λ (x : X). f x ≡ g x) xs
maps-same f g [] is = tt
maps-same f g (x ∷ xs) is = (cc, maps-same f g xs (cc))

module _ {Op : Type 0} (same : Op → Op → Bool) (meanings : Meanings Op) (parts : Parts Op) (edited : BufferTable) (written : Rectangles) (old new : Held) where
  -- the same with other buffers that are edited
  abbrev pub with_edited : Parts Op
  with_edited = record parts {
    versions = record { working = edited; latest = parts.versions.latest; undoable = parts.versions.undoable; redoable = parts.versions.redoable };
    written = written;
  }

  module _ (tables : tables_of with_edited.versions new ≡ record (tables_of parts.versions old) { working = table_of edited new }) where
    pub retained-again : (session : Session Table Op) → AreRetained same meanings parts old session.history.workspace.retained
        → AreRetained same meanings with_edited new session.history.workspace.retained
    retained-again session are =
        let retained = session.history.workspace.retained in
        let latest : IsSame old new parts.versions.latest = ap (λ (v : Versions (Option Table)). v.latest) tables in
        let undoable = maps-same (λ (b : BufferTable). table_of b new) (λ (b : BufferTable). table_of b old) parts.versions.undoable
        (ap (λ (v : Versions (Option Table)). v.undoable) tables) in
        let redoable = maps-same (λ (b : BufferTable). table_of b new) (λ (b : BufferTable). table_of b old) parts.versions.redoable
        (ap (λ (v : Versions (Option Table)). v.redoable) tables) in
        record {
          number = are.number;
          latest = state-again old new parts.graph.latest parts.versions.latest retained.latest latest are.latest;
          undoable = ahead-again old new same meanings Undo parts.graph.latest parts.graph.undoable parts.versions.undoable retained.undoable undoable are.undoable;
          redoable = ahead-again old new same meanings Redo parts.graph.latest parts.graph.redoable parts.versions.redoable retained.redoable redoable are.redoable;
        }

module _ (entries : Entries) (old new : Held) (bytes : cached_in entries new ≡ cached_in entries old) (sizes : sizes_in entries new ≡ sizes_in entries old) where
  pub are-cached-again : (list : List Cached) → AreCached entries old list → AreCached entries new list
  are-cached-again list are = record {
    pairs = are.pairs;
    sizes = are.sizes ∙ sym sizes;
    bytes = subst (λ (o : Option (List Cached)). IfSome o (λ (known : List Cached). known ≡ list)) (sym bytes) are.bytes;
  }

-- ---- the workspace after an edit

record IsWorkspace {Op : Type 0} (space next : Workspace Table Op Rectangles) (table : Table) (o : Option (List ℕ × Rectangle)) : Type 0 where
  pub working : next.working ≡ table
  pub written : next.written ≡ after_writing space.written o
  pub pending : next.pending ≡ space.pending
  pub retained : next.retained ≡ space.retained

workspace-working : {Op : Type 0} (space : Workspace Table Op Rectangles) (table : Table) (o : Option (List ℕ × Rectangle)) → IsWorkspace space (with_working space table o) table o
workspace-working space table None = record { working = refl; written = refl; pending = refl; retained = refl }
workspace-working space table (Some entry) = record { working = refl; written = refl; pending = refl; retained = refl }

workspace-after : {Op : Type 0} (space : Workspace Table Op Rectangles) (edit : BufferEdit) → edit_refused (layout_of space.working) edit ≡ None
    → IsWorkspace space (after_edit space edit) (table_with space.working edit) (written_by (layout_of space.working) edit)
workspace-after space edit none =
    let o = written_by (layout_of space.working) edit in
    subst (λ (next : Workspace Table _ Rectangles). IsWorkspace space next (table_with space.working edit) o)
    (sym (ap (with_edit space edit) (ap (λ (r : Refusal). unless_refused r (table_with space.working edit)) none)))
    (workspace-working space (table_with space.working edit) o)

-- ---- sessions

module _ {Op : Type 0} (same : Op → Op → Bool) (meanings : Meanings Op) (parts : Parts Op) (edited : BufferTable) (old new : Held)
    (tables : tables_of (with_edited same meanings parts edited parts.written old new).versions new ≡ record (tables_of parts.versions old) { working = table_of edited new })
    (bytes : cached_in parts.entries new ≡ cached_in parts.entries old) (sizes : sizes_in parts.entries new ≡ sizes_in parts.entries old)
    (session : Session Table Op) (is : IsSessionOf same meanings parts old session) where
  -- what is edited is shown again
  pub session-shown : AreShownAgain parts.versions.working edited old new → IsSessionOf same meanings (with_edited same meanings parts edited parts.written old new) new session
  session-shown again = record {
    working = table-shown parts.versions.working edited old new session.history.workspace.working again is.working;
    pending = is.pending;
    written = is.written;
    retained = retained-again same meanings parts edited parts.written old new tables session is.retained;
    cached = are-cached-again parts.entries old new bytes sizes session.cached.list is.cached;
    applied = is.applied;
    reused = is.reused;
  }

  -- an edit was made of it
  pub session-edited : (edit : BufferEdit) (written : Rectangles) → IsEdited edit parts.versions.working edited old new
      → written ≡ after_writing parts.written (written_by parts.versions.working.layout edit)
      → IsSessionOf same meanings (with_edited same meanings parts edited written old new) new (record session { history = after_step meanings session.history (EditBuffer edit) })
  session-edited edit written made recorded =
      let space = session.history.workspace in
      let table = space.working in
      let none : edit_refused (layout_of table) edit ≡ None = ap (λ (l : TableLayout). edit_refused l edit) is.working.layout ∙ made.carried_out in
      let after = workspace-after space edit none in
      let next = after_edit space edit in
      record {
        working = subst (λ (t : Table). AreOfTable edited new t) (sym after.working) (table-edited edit parts.versions.working edited old new table made is.working);
        pending = after.pending ∙ is.pending;
        written = after.written ∙ ap (λ (w : Rectangles). after_writing w (written_by (layout_of table) edit)) is.written
            ∙ ap (λ (l : TableLayout). after_writing parts.written (written_by l edit)) is.working.layout ∙ sym recorded;
        retained = subst (λ (r : Retained (State Table Op) Rectangles). AreRetained same meanings (with_edited same meanings parts edited written old new) new r) (sym after.retained)
            (retained-again same meanings parts edited written old new tables session is.retained);
        cached = are-cached-again parts.entries old new bytes sizes session.cached.list is.cached;
        applied = is.applied;
        reused = is.reused;
      }

-- a node's edit is pending after the others
pub session-pending : {Op : Type 0} (same : Op → Op → Bool) (meanings : Meanings Op) (parts : Parts Op) (edit : NodeEdit Op) (held : Held) (session : Session Table Op)
    → IsSessionOf same meanings parts held session
    → IsSessionOf same meanings (record parts { pending = parts.pending ++ edit ∷ [] }) held (record session { history = after_step meanings session.history (EditNode edit) })
session-pending {Op} same meanings parts edit held session is = record {
  working = is.working;
  pending = ap (λ (es : List (NodeEdit Op)). es ++ edit ∷ []) is.pending;
  written = is.written;
  retained = record { number = is.retained.number; latest = is.retained.latest; undoable = is.retained.undoable; redoable = is.retained.redoable };
  cached = is.cached;
  applied = is.applied;
  reused = is.reused;
}

-- ---- what holds of sessions

module _ {Op : Type 0} (same : Op → Op → Bool) (meanings : Meanings Op) (laws : KeepsLaws meanings) (boxed : IsBoxed meanings) (apart : Distinguishes same) where
  -- a step that appends no state
  pub valid-edited : (capacity : ℕ) (session : Session Table Op) (step : HistoryEdit Op) → IsSession meanings capacity session → IsProper step
      → number_of (after_step meanings session.history step) ≡ number_of session.history
      → IsSession meanings capacity (record session { history = after_step meanings session.history step })
  valid-edited capacity session step valid proper number =
      let next = after_step meanings session.history step in
      subst (λ (b : Bool). IsSession meanings capacity (cond b (record session { history = next }) (with_state same meanings session next)))
      (eq-eqb (number_of next) (number_of session.history) number)
      (action_keeps same meanings laws boxed apart capacity session (Make step) valid proper)

  pub edit-number : (history : History Table Op) (edit : BufferEdit) → edit_refused (layout_of history.workspace.working) edit ≡ None
      → number_of (after_step meanings history (EditBuffer edit)) ≡ number_of history
  edit-number history edit none = ap (λ (r : Retained (State Table Op) Rectangles). r.number) (workspace-after history.workspace edit none).retained
