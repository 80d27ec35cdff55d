-- What calls of a render leave of a source of tiles, of a cache and of their chain.
use Rattle.std.specs.Prelude.{◌≡◌, ℕ, ◌++◌, IfErr, List, Option, Result}
use Rattle.std.specs.Borrow.{GName}
use Rattle.chain_owners.specs.Counts.{Counts, Grows}
use Rattle.chain_owners.specs.Held.{Held}
use Rattle.chain_owners.specs.Owners.{Owns, Respects}
use Rattle.chain_owners.specs.declared.chain_meaning.ChainMeaning.{Ghosts as Chains}
use Rattle.model_graphs.specs.Evaluation.{Buffers}
use Rattle.model_graphs.specs.Facts.{Facts}
use Rattle.model_states.specs.Cache.{Cached, Pair}
use Rattle.chain_owners.specs.Cause.{HasSwapCause}
use Rattle.chain_owners.specs.declared.swap_refused.SwapRefused.{SwapRefused}
use Rattle.op_contracts.specs.declared.source_tiles.SourceTiles.{Ghosts as Sources}
use Rattle.node_cache.specs.Stores.{AddsNoOther, HaveOneOwner, Sized}
use Rattle.node_cache.specs.declared.pair_store.PairStore.{Ghosts as Stores}
use Rattle.node_tiles.specs.Reads.{Reads, Seen, seen as source_seen}

-- What a source of tiles is seen as over a chain, what a cache is seen as over it, and what the chain is seen as.
pub record Moment : Type 0 where
  pub facts : Facts
  pub images : Option Buffers
  pub source_names : List ℕ
  pub pairs : List Pair
  pub sizes : List Sized
  pub cached : Option (List Cached)
  pub capacity : Option ℕ
  pub cache_names : List ℕ
  pub held : Held
  pub counts : Counts
  pub loans : List GName

-- what these are seen as, by what their types mean
abbrev pub moment : {H S C : Type 0} → Chains H → Sources S H → Stores C H → S → C → H → Moment
moment h s c sources cache chain = record {
  facts = s.facts sources;
  images = s.images sources (h.held chain);
  source_names = s.names sources;
  pairs = c.pairs cache;
  sizes = c.sizes cache (h.held chain);
  cached = c.cached cache (h.held chain);
  capacity = c.capacity cache;
  cache_names = c.names cache;
  held = h.held chain;
  counts = h.counts chain;
  loans = h.loans chain;
}

-- the names of both, each as often as they hold it
abbrev pub names_of : Moment → List ℕ
names_of now = now.source_names ++ now.cache_names

-- ---- states

-- The state of what a render is lent: what is seen of the source, the cache and the chain, and how many permits are left;
-- what the source and the cache ask of the chain, and whether that is valid.
pub record RenderState : Type 1 where
  pub seen : Moment
  pub permits : ℕ
  pub sources_over : Type 0
  pub cache_over : Type 0
  pub valid : Type 0

-- the state of these objects, by what their types mean, with so many permits
abbrev pub render_state : {H S C : Type 0} → Chains H → Sources S H → Stores C H → S → C → H → ℕ → RenderState
render_state h s c sources cache chain permits = record {
  seen = moment h s c sources cache chain;
  permits = permits;
  sources_over = s.is_over sources (h.held chain);
  cache_over = c.is_over cache (h.held chain);
  valid = h.is_valid chain;
}

-- A source of tiles and a cache are over a chain: it has what either asks of it, and it owns the names that they hold.
pub record AreOver (now : RenderState) : Type 0 where
  pub sources_over : now.sources_over
  pub cache_over : now.cache_over
  pub owned : Owns now.seen.held (names_of now.seen)

-- The state of a source of tiles alone: what is seen of it and of its chain, what it asks of the chain, and whether that
-- is valid.
pub record SourceState : Type 1 where
  pub seen : Seen
  pub over : Type 0
  pub valid : Type 0

abbrev pub source_state : {H S : Type 0} → Chains H → Sources S H → S → H → SourceState
source_state h s sources chain = record {
  seen = source_seen (s.facts sources) (s.images sources (h.held chain)) (s.names sources) (h.held chain) (h.counts chain) (h.loans chain);
  over = s.is_over sources (h.held chain);
  valid = h.is_valid chain;
}

-- ---- what is left

-- What a read of tiles leaves, whatever it answers, and why it is refused.
pub record ReadsTiles {T : Type 0} (old new : SourceState) (result : Result T SwapRefused) : Type 0 where
  -- tiles were read, and nothing else was done
  pub reads : Reads old.seen new.seen
  -- the source is over the chain again
  pub over : new.over
  -- a valid chain is valid again
  pub valid : old.valid → new.valid
  -- the swap refuses by the names of the chain
  pub cause : IfErr result (HasSwapCause old.seen.counts new.seen.counts old.seen.counts.names)

-- What is left whatever a render answers: the buffers, their images and the names that the source holds are unchanged,
-- so are the cache's capacity, the loans and all owners but the cache, of which the source is one, and the chain has so
-- many names more at most. Where each cached name had one owner it has again, and no name more isn't the cache's.
pub record Keeps (added : ℕ) (old new : Moment) : Type 0 where
  pub facts : new.facts ≡ old.facts
  pub images : new.images ≡ old.images
  pub source_names : new.source_names ≡ old.source_names
  pub capacity : new.capacity ≡ old.capacity
  pub others : Respects old.held new.held old.cache_names new.cache_names
  pub one_owner : HaveOneOwner old.held old.cache_names → HaveOneOwner new.held new.cache_names
  pub other_names : HaveOneOwner old.held old.cache_names → AddsNoOther old.counts new.counts old.cache_names new.cache_names
  pub counts : Grows added old.counts new.counts
  pub loans : new.loans ≡ old.loans

-- What a step leaves that looks up so many pairs at most, whatever it answers.
pub record IsLeft (count : ℕ) (old new : RenderState) : Type 0 where
  -- what a render keeps
  pub keeps : Keeps count old.seen new.seen
  -- the source and the cache are over the chain again
  pub over : AreOver new
  -- a valid chain is valid again
  pub valid : old.valid → new.valid
