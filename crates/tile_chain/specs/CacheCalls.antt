-- What calls that move the tiles of a cache leave of it and of the tiles below, and why they are refused.
use Rattle.std.specs.Prelude.{◌≡◌, ℕ, List}
use Rattle.std.specs.FinMap as map
use Rattle.lru.specs.LruCache.{LruCache}
use Rattle.chain_owners.specs.Counts.{Continues}
use Rattle.chain_owners.specs.Held.{Held}
use Rattle.chain_owners.specs.declared.chain_meaning.ChainMeaning.{Ghosts as Chains}
use Rattle.chain_owners.specs.Cause.{HasSwapCause}
use Rattle.chain_owners.specs.declared.swap_refused.SwapRefused.{SwapRefused}
use Rattle.chain_contracts.specs.Tiles.{ReportsRoom, emptied}
use Rattle.tile_chain.specs.Overlay.{overlay}

-- tiles in memory under their names
abbrev pub CachedTiles : Type 0
CachedTiles = LruCache ℕ (List ℕ)

-- what a cache with these tiles in memory holds over the tiles below
abbrev pub held_over : {H : Type 0} → Chains H → CachedTiles → H → Held
held_over h tiles below = overlay tiles.entries (h.held below)

-- Tiles moved between memory and the tiles below, and nothing else was done: the cache holds what it held, under the
-- same capacity, the counts below continue, the loans are unchanged, and what is below is valid where it was.
pub record MovesTiles {H : Type 0} (h : Chains H) (old new : CachedTiles) (before after : H) : Type 0 where
  pub held : held_over h new after ≡ held_over h old before
  pub capacity : new.cap ≡ old.cap
  pub continues : Continues (h.counts before) (h.counts after)
  pub loans : h.loans after ≡ h.loans before
  pub valid : h.is_valid before → h.is_valid after

-- Why a call that moves tiles of a cache, which had these in memory, is refused: the swap's count of I/O errors rose, or
-- the cache's names can fill the store even if none of their tiles has to stay in memory. It may run out of memory at any
-- time. Where what is below is valid, a refusal for room reports its two numbers.
pub record CannotMove {H : Type 0} (h : Chains H) (tiles : CachedTiles) (before after : H) (refused : SwapRefused) : Type 0 where
  pub cause : HasSwapCause (emptied (h.counts before)) (h.counts after) (map.len (held_over h tiles before).lengths) refused
  pub full : h.is_valid before → ReportsRoom (held_over h tiles before) (h.store after) refused
