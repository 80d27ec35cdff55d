-- Sessions of which the buffers that are edited were handed to a call.
use Rattle.std.proofs.Common.{◌≡◌, ℕ, Bool, List, [], ◌∷◌, ◌++◌, refl, sym, ap, subst, ◌∙◌, Option, Some, None, arith}
use Rattle.std.specs.Map.{values_of}
use Rattle.std.specs.Prelude.{IfSome}
use Rattle.std.specs.Option.{option_map}
use Rattle.chain_owners.specs.Held.{Held}
use Rattle.chain_owners.specs.Owners.{Owns}
use Rattle.chain_owners.proofs.Ownership.{owns-fewer, respects-same, times-append}
use Rattle.root_tiles.specs.Chains.{ChainState, Leaves}
use Rattle.chain_owners.proofs.Growing.{grows-same}
use Rattle.model_buffers.specs.declared.edit.BufferEdit.{BufferEdit}
use Rattle.model_buffers.specs.BufferEdit.{IsProperEdit, edit_refused, layout_with, written_by}
use Rattle.model_buffers.specs.declared.edit.BufferEdit.TheVariants.{Copy, Create, Duplicate, Fill, Put, Sub}
use Rattle.model_buffers.specs.Layout.{TableLayout}
use Rattle.model_buffers.specs.Table.{Table}
use Rattle.model_graphs.specs.declared.node.NodeEdit.{NodeEdit}
use Rattle.model_graphs.specs.Laws.{Distinguishes, IsBoxed, KeepsLaws}
use Rattle.model_graphs.specs.Meanings.{Meanings}
use Rattle.model_states.specs.Cache.{Cached}
use Rattle.model_states.specs.Rectangles.{Rectangles}
use Rattle.model_sessions.specs.Sessions.{IsSession, Session}
use Rattle.model_sessions.specs.Steps.{EditBuffer, EditNode, after_step}
use Rattle.node_cache.specs.NodeNames.{IsNodeCache, cached_in}
use Rattle.buffer_view.specs.BufferTables.{BufferTable, empty_table, table_of}
use Rattle.session_states.specs.OverChains.{AreVersionsOver, tables_of, versions_names}
use Rattle.session_states.specs.Versions.{Versions, new_versions}
use Rattle.commit_session.specs.Parts.{Parts, new_parts, session_names}
use Rattle.commit_session.specs.Seen.{IsOver, IsSessionOf}
use Rattle.commit_session.specs.Steps.{after_writing}
use Rattle.commit_session.proofs.Cached.{alone-again, cache-again, cached-again, session-left, session-owned, sizes-again}
use Rattle.commit_session.proofs.Working.{AreShownAgain, IsEdited, edit-number, session-edited, session-pending, session-shown, valid-edited, with_edited}
use Rattle.model_sessions.proofs.Actions.{first_session}
use Rattle.model_sessions.specs.Sessions.{new_session}

-- a chain that wasn't handed on
pub leaves-nothing : (names : List ℕ) (state : ChainState) → Leaves 0 names names state state
leaves-nothing names state = record { others = respects-same state.held names; counts = grows-same state.counts; loans = refl; valid = λ is. is }

module _ {Op : Type 0} (same : Op → Op → Bool) (meanings : Meanings Op) where
  -- what the versions of buffers ask
  pub versions-over : (parts : Parts Op) (held : Held) → IsOver same meanings parts held → AreVersionsOver parts.versions held
  versions-over parts held over = record {
    owned =
        owns-fewer held (session_names parts) (versions_names parts.versions)
        (λ q. omega (arith, times-append (versions_names parts.versions) (values_of parts.entries) q)) over.owned;
    over = over.over;
  }

  module _ (v now : Parts Op) (is : v ≡ now) (s0 s1 : ChainState) (requires : IsOver same meanings now s0.held) (added : ℕ) (edited : Versions BufferTable)
      (states : edited ≡ record v.versions { working = edited.working }) (leaves : Leaves added (versions_names v.versions) (versions_names edited) s0 s1)
      (tables : tables_of edited s1.held ≡ record (tables_of v.versions s0.held) { working = table_of edited.working s1.held })
      (versions : AreVersionsOver edited s1.held) where
    over : IsOver same meanings v s0.held
    over = subst (λ (p : Parts Op). IsOver same meanings p s0.held) (sym is) requires

    -- the session with these versions
    abbrev pub final : Rectangles → Parts Op
    final written = record v { versions = edited; written = written }

    final-is : (written : Rectangles) → with_edited same meanings v edited.working written s0.held s1.held ≡ final written
    final-is written = ap (λ (vs : Versions BufferTable). let p : Parts Op = record v { versions = vs; written = written } in p) (sym states)

    owned : Owns s0.held (versions_names v.versions ++ values_of v.entries)
    owned = over.owned

    tables-is : tables_of (record v.versions { working = edited.working }) s1.held ≡ record (tables_of v.versions s0.held) { working = table_of edited.working s1.held }
    tables-is = ap (λ (vs : Versions BufferTable). tables_of vs s1.held) (sym states) ∙ tables

    bytes : cached_in v.entries s1.held ≡ cached_in v.entries s0.held
    bytes = cached-again added (versions_names v.versions) (versions_names edited) s0 s1 leaves v.entries owned

    pub final-left : (written : Rectangles) → Leaves added (session_names now) (session_names (final written)) s0 s1
    final-left written =
        subst (λ (p : Parts Op). Leaves added (session_names p) (session_names (final written)) s0 s1) is
        (session-left added (versions_names v.versions) (versions_names edited) s0 s1 leaves v.entries owned)

    pub shown-again : AreShownAgain v.versions.working edited.working s0.held s1.held → (session : Session Table Op) → IsSessionOf same meanings now s0.held session
        → IsSessionOf same meanings (final v.written) s1.held session
    shown-again again session of =
        subst (λ (p : Parts Op). IsSessionOf same meanings p s1.held session) (final-is v.written)
        (session-shown same meanings v edited.working s0.held s1.held tables-is bytes
        (sizes-again added (versions_names v.versions) (versions_names edited) s0 s1 leaves v.entries owned)
        session (subst (λ (p : Parts Op). IsSessionOf same meanings p s0.held session) (sym is) of) again)

    pub edited-now : (edit : BufferEdit) (written : Rectangles) → IsEdited edit v.versions.working edited.working s0.held s1.held
        → written ≡ after_writing v.written (written_by v.versions.working.layout edit)
        → (session : Session Table Op) → IsSessionOf same meanings now s0.held session
        → IsSessionOf same meanings (final written) s1.held (record session { history = after_step meanings session.history (EditBuffer edit) })
    edited-now edit written made recorded session of =
        subst (λ (p : Parts Op). IsSessionOf same meanings p s1.held (record session { history = after_step meanings session.history (EditBuffer edit) })) (final-is written)
        (session-edited same meanings v edited.working s0.held s1.held tables-is bytes
        (sizes-again added (versions_names v.versions) (versions_names edited) s0 s1 leaves v.entries owned)
        session (subst (λ (p : Parts Op). IsSessionOf same meanings p s0.held session) (sym is) of) edit written made recorded)

    pub over-shown : AreShownAgain v.versions.working edited.working s0.held s1.held → IsOver same meanings (final v.written) s1.held
    over-shown again = record {
      owned = session-owned added (versions_names v.versions) (versions_names edited) s0 s1 leaves v.entries owned;
      alone = alone-again added (versions_names v.versions) (versions_names edited) s0 s1 leaves v.entries owned over.alone;
      over = versions.over;
      cache = cache-again added (versions_names v.versions) (versions_names edited) s0 s1 leaves v.entries owned v.most v.capacity over.cache;
      session = requires.session;
      is = shown-again again requires.session requires.is;
      valid = subst (λ (p : Parts Op). IsSession meanings p.capacity requires.session) (sym is) requires.valid;
    }

    pub over-edited : KeepsLaws meanings → IsBoxed meanings → Distinguishes same → (edit : BufferEdit) (written : Rectangles) → IsProperEdit edit
        → IsEdited edit v.versions.working edited.working s0.held s1.held
        → written ≡ after_writing v.written (written_by v.versions.working.layout edit) → IsOver same meanings (final written) s1.held
    over-edited laws boxed apart edit written proper made recorded = record {
      owned = session-owned added (versions_names v.versions) (versions_names edited) s0 s1 leaves v.entries owned;
      alone = alone-again added (versions_names v.versions) (versions_names edited) s0 s1 leaves v.entries owned over.alone;
      over = versions.over;
      cache = cache-again added (versions_names v.versions) (versions_names edited) s0 s1 leaves v.entries owned v.most v.capacity over.cache;
      session = record requires.session { history = after_step meanings requires.session.history (EditBuffer edit) };
      is = edited-now edit written made recorded requires.session requires.is;
      valid =
          valid-edited same meanings laws boxed apart v.capacity requires.session (EditBuffer edit)
          (subst (λ (p : Parts Op). IsSession meanings p.capacity requires.session) (sym is) requires.valid) proper
          (edit-number same meanings laws boxed apart requires.session.history edit
          (ap (λ (l : TableLayout). edit_refused l edit) (requires.is.working.layout ∙ ap (λ (p : Parts Op). p.versions.working.layout) (sym is)) ∙ made.carried_out));
    }

  -- ---- a node's edit

  pub over-pending : KeepsLaws meanings → IsBoxed meanings → Distinguishes same → (parts : Parts Op) (edit : NodeEdit Op) (held : Held) → IsOver same meanings parts held
      → IsOver same meanings (record parts { pending = parts.pending ++ edit ∷ [] }) held
  over-pending laws boxed apart parts edit held over = record {
    owned = over.owned;
    alone = over.alone;
    over = over.over;
    cache = over.cache;
    session = record over.session { history = after_step meanings over.session.history (EditNode edit) };
    is = session-pending same meanings parts edit held over.session over.is;
    valid = valid-edited same meanings laws boxed apart parts.capacity over.session (EditNode edit) over.valid tt refl;
  }

  -- ---- the first session

  pub session-first : (capacity : ℕ) (held : Held) → IsSessionOf same meanings (new_parts capacity) held new_session
  session-first capacity held = record {
    working = record { layout = refl; images = tables held.content };
    pending = refl;
    written = refl;
    retained = record {
      number = refl;
      latest = record { facts = refl; nodes = refl; table = record { layout = refl; images = tables held.content } };
      undoable = tt;
      redoable = tt;
    };
    cached = record { pairs = refl; sizes = refl; bytes = lists held.content };
    applied = omega arith;
    reused = omega arith;
  }
    where
      none : Table
      none = record { roots = []; buffers = [] }

      tables : {X : Type 0} (o : Option X) → IfSome (option_map (λ (x : X). none) o) (λ (known : Table). known ≡ none)
      tables None = tt
      tables (Some x) = refl

      lists : {X : Type 0} (o : Option X) → IfSome (option_map (λ (x : X). let l : List Cached = [] in l) o) (λ (known : List Cached). known ≡ [])
      lists None = tt
      lists (Some x) = refl

  pub over-first : KeepsLaws meanings → IsBoxed meanings → Distinguishes same → (capacity : ℕ) (held : Held) → IsNodeCache [] capacity capacity held
      → AreVersionsOver (new_versions empty_table) held → IsOver same meanings (new_parts capacity) held
  over-first laws boxed apart capacity held cache versions = record {
    owned = versions.owned;
    alone = record { one = λ q some. absurd (omega (arith, some)) };
    over = versions.over;
    cache = cache;
    session = new_session;
    is = session-first capacity held;
    valid = first_session same meanings laws boxed apart capacity;
  }

-- ---- what edits write

-- an edit writes the same by the layout that it makes
pub written-still : (layout : TableLayout) (edit : BufferEdit) → written_by (layout_with layout edit) edit ≡ written_by layout edit
written-still layout (Create name format extent) = refl
written-still layout (Sub name parent r) = refl
written-still layout (Duplicate name from) = refl
written-still layout (Fill name r samples) = refl
written-still layout (Put name r raw) = refl
written-still layout (Copy from to r dx dy) = refl

pub recorded-is : (edit : BufferEdit) (before after : BufferTable) (shown : BufferTable) (old new : Held) (written recorded : Rectangles) → IsEdited edit before after old new → shown ≡ after
    → recorded ≡ after_writing written (written_by shown.layout edit) → recorded ≡ after_writing written (written_by before.layout edit)
recorded-is edit before after shown old new written recorded made same is =
    is ∙ ap (λ (b : BufferTable). after_writing written (written_by b.layout edit)) same
    ∙ ap (λ (l : TableLayout). after_writing written (written_by l edit)) made.layout
    ∙ ap (after_writing written) (written-still before.layout edit)

-- ---- answers by their cases
