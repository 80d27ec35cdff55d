-- Sessions of the definitions that are held over a chain.
use Rattle.std.specs.Prelude.{◌≡◌, ⊤, Bool, List, [], ◌∷◌, IfSome, map}
use Rattle.std.specs.Map.{values_of}
use Rattle.chain_owners.specs.Held.{Held}
use Rattle.chain_owners.specs.Owners.{Owns}
use Rattle.model_buffers.specs.Table.{Table, layout_of}
use Rattle.model_graphs.specs.Facts.{specs_of}
use Rattle.model_graphs.specs.Meanings.{Meanings}
use Rattle.model_states.specs.Cache.{Cached, by_pair, pairs_of}
use Rattle.model_states.specs.Damage.{Side, damage_list}
use Rattle.model_states.specs.History.{Committed}
use Rattle.model_states.specs.Rectangles.{Rectangles}
use Rattle.model_states.specs.Retained.{Retained, Separated}
use Rattle.model_states.specs.State.{State}
use Rattle.model_sessions.specs.Sessions.{IsSession, Session, counts_of}
use Rattle.model_states.specs.declared.direction.Direction.{Direction}
use Rattle.model_states.specs.declared.direction.Direction.TheVariants.{Undo, Redo}
use Rattle.model_states.specs.Directions.{commit_between}
use Rattle.node_cache.specs.NodeNames.{Entries, IsNodeCache, cached_in, pairs_in, sizes_in}
use Rattle.node_cache.specs.Stores.{HaveOneOwner, sized_of}
use Rattle.buffer_view.specs.BufferTables.{BufferTable, table_of}
use Rattle.session_states.specs.OverChains.{AreAllOver}
use Rattle.session_states.specs.Versions.{all_versions}
use Rattle.commit_session.specs.Parts.{Parts, known_of, session_names}

-- Buffers over a chain are those of a table: they have its layout, and its images where the chain exposes its bytes.
pub record AreOfTable (buffers : BufferTable) (held : Held) (table : Table) : Type 0 where
  pub layout : layout_of table ≡ buffers.layout
  pub images : IfSome (table_of buffers held) (λ known. known ≡ table)

-- Nodes over buffers are those of a state.
pub record AreOfState {Op : Type 0} (side : Side Op) (buffers : BufferTable) (held : Held) (state : State Table Op) : Type 0 where
  pub facts : side.buffers ≡ known_of buffers
  pub nodes : specs_of side.nodes ≡ state.nodes
  pub table : AreOfTable buffers held state.table

-- States ahead of one in a direction, the next first, with what separates each from the one before it: of a graph the
-- damage of the nodes, of a history the rectangles of roots from which this damage is.
abbrev pub AreStatesAhead : {Op : Type 0} → Direction → (Op → Op → Bool) → Meanings Op → Side Op → List (Separated (Side Op) Rectangles) → List BufferTable → Held → List (Committed Table Op) → Type 0
AreStatesAhead direction same meanings latest [] [] held [] = ⊤
AreStatesAhead direction same meanings latest [] [] held (state ∷ states) = ⊥
AreStatesAhead direction same meanings latest [] (buffers ∷ more) held states = ⊥
AreStatesAhead direction same meanings latest (step ∷ steps) [] held states = ⊥
AreStatesAhead direction same meanings latest (step ∷ steps) (buffers ∷ more) held [] = ⊥
AreStatesAhead direction same meanings latest (step ∷ steps) (buffers ∷ more) held (state ∷ states) =
    AreOfState step.state buffers held state.state
    × (step.delta ≡ damage_list same meanings (commit_between direction latest step.state state.delta))
    × AreStatesAhead direction same meanings step.state steps more held states

-- The states that a graph and versions of buffers retain are those of a history.
pub record AreRetained {Op : Type 0} (same : Op → Op → Bool) (meanings : Meanings Op) (parts : Parts Op) (held : Held) (retained : Retained (State Table Op) Rectangles) : Type 0 where
  pub number : retained.number ≡ parts.graph.number
  pub latest : AreOfState parts.graph.latest parts.versions.latest held retained.latest
  pub undoable : AreStatesAhead Undo same meanings parts.graph.latest parts.graph.undoable parts.versions.undoable held retained.undoable
  pub redoable : AreStatesAhead Redo same meanings parts.graph.latest parts.graph.redoable parts.versions.redoable held retained.redoable

-- Names of cached tiles are those of a list: of its pairs, of as many bytes, and of these where the chain exposes them.
pub record AreCached (entries : Entries) (held : Held) (list : List Cached) : Type 0 where
  pub pairs : pairs_of by_pair list ≡ pairs_in entries
  pub sizes : map sized_of list ≡ sizes_in entries held
  pub bytes : IfSome (cached_in entries held) (λ known. known ≡ list)

-- A session of the definitions is the one that is held: all of it that isn't a sample, and each sample where the chain
-- exposes its bytes. What is held says nothing of the states that are no longer retained.
pub record IsSessionOf {Op : Type 0} (same : Op → Op → Bool) (meanings : Meanings Op) (parts : Parts Op) (held : Held) (session : Session Table Op) : Type 0 where
  pub working : AreOfTable parts.versions.working held session.history.workspace.working
  pub pending : session.history.workspace.pending ≡ parts.pending
  pub written : session.history.workspace.written ≡ parts.written
  pub retained : AreRetained same meanings parts held session.history.workspace.retained
  pub cached : AreCached parts.entries held session.cached.list
  pub applied : (counts_of session).applied ≡ parts.applied
  pub reused : (counts_of session).reused ≡ parts.reused

-- What a session asks of a chain, and what holds of it at every moment: it owns all its names, and those of cached tiles
-- alone; each table of buffers and the cache have what they ask; and what is held is a session of the definitions, of
-- which all holds that holds of these.
pub record IsOver {Op : Type 0} (same : Op → Op → Bool) (meanings : Meanings Op) (parts : Parts Op) (held : Held) : Type 0 where
  pub owned : Owns held (session_names parts)
  pub alone : HaveOneOwner held (values_of parts.entries)
  pub over : AreAllOver (all_versions parts.versions) held
  pub cache : IsNodeCache parts.entries parts.most parts.capacity held
  pub session : Session Table Op
  pub is : IsSessionOf same meanings parts held session
  pub valid : IsSession meanings parts.capacity session
