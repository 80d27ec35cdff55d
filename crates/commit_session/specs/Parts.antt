-- What a session holds over a chain, without any sample.
use Rattle.std.specs.Prelude.{ℕ, List, [], ◌++◌}
use Rattle.std.specs.Map.{values_of}
use Rattle.model_buffers.specs.Layout.{facts_of}
use Rattle.model_graphs.specs.declared.node.NodeEdit.{NodeEdit}
use Rattle.model_graphs.specs.Facts.{Facts}
use Rattle.model_states.specs.Cache.{Pair}
use Rattle.model_states.specs.Commits.{Graph, new_graph}
use Rattle.model_states.specs.Rectangles.{Rectangles}
use Rattle.node_cache.specs.NodeNames.{Entries, pairs_in}
use Rattle.buffer_view.specs.BufferTables.{BufferTable, empty_table}
use Rattle.session_states.specs.OverChains.{versions_names}
use Rattle.session_states.specs.Versions.{Versions, new_versions}

-- The buffers as they are edited and those of the retained states; the pending edits of nodes; the rectangles that were
-- written since the last state; the nodes of the retained states, with their damages; the names of cached tiles by their
-- pairs, and how many there may be; and how many pairs were applied and reused.
pub record Parts (Op : Type 0) : Type 0 where
  pub versions : Versions BufferTable
  pub pending : List (NodeEdit Op)
  pub written : Rectangles
  pub graph : Graph Op
  pub entries : Entries
  pub most : ℕ
  pub capacity : ℕ
  pub applied : ℕ
  pub reused : ℕ

-- a session without buffers, nodes and pairs
abbrev pub new_parts : {Op : Type 0} → ℕ → Parts Op
new_parts capacity = record {
  versions = new_versions empty_table;
  pending = [];
  written = [];
  graph = new_graph;
  entries = [];
  most = capacity;
  capacity = capacity;
  applied = 0;
  reused = 0;
}

-- the names of a chain that it holds, each as often as it is held
abbrev pub session_names : {Op : Type 0} → Parts Op → List ℕ
session_names parts = versions_names parts.versions ++ values_of parts.entries

-- the pairs that it has cached, the most recent first
abbrev pub cached_pairs : {Op : Type 0} → Parts Op → List Pair
cached_pairs parts = pairs_in parts.entries

-- what is known of a table of buffers without its samples
abbrev pub known_of : BufferTable → Facts
known_of buffers = facts_of buffers.layout

-- what is known of the buffers that are edited
abbrev pub working_facts : {Op : Type 0} → Parts Op → Facts
working_facts parts = known_of parts.versions.working
