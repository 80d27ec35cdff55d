-- What a look-up of one needed pair does to a cache.
use Rattle.std.specs.Prelude.{◌≡◌, ℕ, Bool, true, false, IfSome, List, length, None, Some, is_some}
use Rattle.std.specs.Option.{option_map}
use Rattle.model_states.specs.Cache.{Cached, Pair, after_keep, after_look, by_pair, find_pair, itself, recent}
use Rattle.node_cache.specs.Stores.{Sized, by_sized}
use Rattle.strip_renders.specs.Moments.{Moment}

-- a pair with the length of its tile, and with its bytes
abbrev pub sized : Pair → List ℕ → Sized
sized pair tile = record { pair = pair; length = length tile }

abbrev pub with_tile : Pair → List ℕ → Cached
with_tile pair tile = record { pair = pair; bytes = tile }

-- the cached pairs are unchanged
pub record HasSameCache (old new : Moment) : Type 0 where
  pub pairs : new.pairs ≡ old.pairs
  pub sizes : new.sizes ≡ old.sizes
  pub cached : new.cached ≡ old.cached

-- A pair that wasn't there went to the front with this tile.
pub record IsKept (old new : Moment) (pair : Pair) (tile : List ℕ) : Type 0 where
  pub absent : find_pair itself old.pairs pair ≡ None
  pub pairs : new.pairs ≡ after_keep old.capacity old.pairs pair
  pub sizes : new.sizes ≡ after_keep old.capacity old.sizes (sized pair tile)
  pub cached : new.cached ≡ option_map (λ list. after_keep old.capacity list (with_tile pair tile)) old.cached

-- A pair that was there went to the front; the tile is its own.
pub record IsMoved (old new : Moment) (pair : Pair) (tile : List ℕ) : Type 0 where
  pub there : is_some (find_pair itself old.pairs pair) ≡ true
  pub pairs : new.pairs ≡ after_look itself old.pairs pair
  pub sizes : new.sizes ≡ after_look by_sized old.sizes pair
  pub cached : new.cached ≡ option_map (λ list. after_look by_pair list pair) old.cached
  pub own : IfSome old.cached (λ list. Some tile ≡ option_map (λ (c : Cached). c.bytes) (find_pair by_pair list pair))

-- a pair was looked up, and it was there or not
abbrev pub IsLookedUp : Moment → Moment → Pair → List ℕ → Bool → Type 0
IsLookedUp old new pair tile true = IsMoved old new pair tile
IsLookedUp old new pair tile false = IsKept old new pair tile

-- A pair was looked up, as a list of pairs has it: it is at the front, and it was found where it was there.
pub record IsRecent (old new : Moment) (pair : Pair) (found : Bool) : Type 0 where
  pub pairs : new.pairs ≡ recent itself itself old.capacity old.pairs pair
  pub there : found ≡ is_some (find_pair itself old.pairs pair)
