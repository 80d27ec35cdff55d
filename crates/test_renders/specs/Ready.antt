-- What calls on buffers, on nodes over them and on cached tiles of these ask of one another.
use Rattle.std.specs.Prelude.{ℕ, ◌++◌, List}
use Rattle.chain_owners.specs.Held.{Held}
use Rattle.chain_owners.specs.Owners.{Owns}
use Rattle.chain_owners.specs.declared.chain_meaning.ChainMeaning.{Ghosts as Chains}
use Rattle.model_graphs.specs.declared.node.NodeFact.{NodeFact}
use Rattle.model_graphs.specs.Facts.{Facts, shapes_of_facts}
use Rattle.model_graphs.specs.Meanings.{Meanings}
use Rattle.model_states.specs.Valid.{AreStated}
use Rattle.model_buffers.specs.Layout.{facts_of}
use Rattle.model_operations.specs.Meanings.{int_meanings}
use Rattle.node_cache.specs.Stores.{Sized}
use Rattle.node_cache.specs.declared.pair_store.PairStore.{Ghosts as Stores}
use Rattle.op_contracts.specs.declared.source_tiles.SourceTiles.{Ghosts as Sources}
use Rattle.buffer_view.specs.BufferTables.{AreBuffersOver, BufferTable, buffers_names}
use Rattle.strip_renders.specs.Strips.{AreSizedPairs}
use Rattle.test_renders.specs.declared.canvas.Canvas.{Canvas}

-- A source of tiles and a cache over one chain: what either asks of it holds, and it owns the names of both.
pub record AreOver (source_over cache_over : Type 0) (source_names cache_names : List ℕ) (held : Held) : Type 0 where
  pub source : source_over
  pub cache : cache_over
  pub owned : Owns held (source_names ++ cache_names)

-- Nodes are stated over the source's buffers, and each cached pair is one of theirs, with as many bytes as a tile of its
-- node has.
pub record AreReady {Op : Type 0} (meanings : Meanings Op) (facts : Facts) (nodes : List (NodeFact Op)) (sizes : List Sized) : Type 0 where
  pub stated : AreStated meanings (shapes_of_facts facts) nodes
  pub sized : AreSizedPairs nodes sizes

-- a canvas' source of tiles and its cache are over a chain
abbrev pub IsOver : {H S P : Type 0} → Chains H → Sources S H → Stores P H → Canvas S P → H → Type 0
IsOver h s p canvas chain = AreOver (s.is_over canvas.sources (h.held chain)) (p.is_over canvas.cache (h.held chain))
    (s.names canvas.sources) (p.names canvas.cache) (h.held chain)

-- a canvas' nodes and its cached pairs are ready to be rendered over a chain
abbrev pub IsReady : {H S P : Type 0} → Chains H → Sources S H → Stores P H → Canvas S P → H → Type 0
IsReady h s p canvas chain = AreReady int_meanings (s.facts canvas.sources) canvas.graph.latest.nodes (p.sizes canvas.cache (h.held chain))

-- the same as `IsOver` of a canvas over buffers
abbrev pub AreBuffersAndCacheOver : {H P : Type 0} → Chains H → Stores P H → Canvas BufferTable P → H → Type 0
AreBuffersAndCacheOver h p canvas chain = AreOver (AreBuffersOver canvas.sources (h.held chain)) (p.is_over canvas.cache (h.held chain))
    (buffers_names canvas.sources) (p.names canvas.cache) (h.held chain)

-- the same as `IsReady` of a canvas over buffers
abbrev pub IsReadyOverBuffers : {H P : Type 0} → Chains H → Stores P H → Canvas BufferTable P → H → Type 0
IsReadyOverBuffers h p canvas chain = AreReady int_meanings (facts_of canvas.sources.layout) canvas.graph.latest.nodes (p.sizes canvas.cache (h.held chain))
