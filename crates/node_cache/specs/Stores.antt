-- Stores of cached tiles, as their callers see them.
use Rattle.std.specs.Prelude.{◌≡◌, ℕ, ◌+◌, ◌<◌, ◌≤◌, List, map, length, Option, IfSome, IsSome, is_some}
use Rattle.std.specs.Option.{option_map}
use Rattle.plane_rect.specs.Tile.{Tile}
use Rattle.chain_owners.specs.Counts.{Counts}
use Rattle.chain_owners.specs.Held.{Held, owners_of}
use Rattle.chain_owners.specs.Owners.{Owns, Unchanged, times}
use Rattle.model_states.specs.Cache.{Cached, Pair, by_pair, find_pair, itself, pairs_of}

-- a pair, and how many bytes its tile has
pub record Sized : Type 0 where
  pub pair : Pair
  pub length : ℕ

abbrev pub by_sized : Sized → Pair
by_sized sized = sized.pair

-- a cached tile without its bytes
abbrev pub sized_of : Cached → Sized
sized_of cached = record { pair = cached.pair; length = length cached.bytes }

-- the pair of a tile of the node of a name
abbrev pub pair_at : List ℕ → Tile → Pair
pair_at node tile = record { node = node; tile = tile }

-- the same with so many bytes, and with these
abbrev pub sized_at : List ℕ → Tile → ℕ → Sized
sized_at node tile len = record { pair = pair_at node tile; length = len }

abbrev pub cached_at : List ℕ → Tile → List ℕ → Cached
cached_at node tile bytes = record { pair = pair_at node tile; bytes = bytes }

-- the pairs of names and tiles
abbrev pub pairs_at : List (List ℕ × Tile) → List Pair
pairs_at list = map (λ (e : List ℕ × Tile). pair_at e.0 e.1) list

-- no more pairs than a capacity, where there is one
abbrev pub AreWithin : Option ℕ → List Pair → Type 0
AreWithin capacity pairs = IfSome capacity (λ most. length pairs ≤ most)

-- What a look for a pair finds: a tile exactly where the pair is there. It has so many bytes, and those of the
-- pair where these are known.
pub record Finds (pairs : List Pair) (cached : Option (List Cached)) (pair : Pair) (len : ℕ) (found : Option (List ℕ)) : Type 0 where
  pub there : is_some found ≡ is_some (find_pair itself pairs pair)
  pub length : IfSome found (λ tile. length tile ≡ len)
  pub bytes : IfSome cached (λ list. found ≡ option_map (λ (c : Cached). c.bytes) (find_pair by_pair list pair))

-- Lengths and bytes are those of the pairs, and bytes are known where the chain exposes its own.
pub record AreExposed (pairs : List Pair) (sizes : List Sized) (held : Held) (cached : Option (List Cached)) : Type 0 where
  pub of_pairs : pairs_of by_sized sizes ≡ pairs
  pub lengths : IfSome cached (λ list. map sized_of list ≡ sizes)
  pub known : IsSome held.content → IsSome cached

-- What a value asks of a chain depends on nothing of the chain but that it owns the names which it holds,
-- and their bytes.
abbrev pub IsFramedCondition : List ℕ → (Held → Type 0) → Type 0
IsFramedCondition names condition =
    (old new : Held) → condition old → is_some new.content ≡ is_some old.content
    → ((name : ℕ) → 0 < times names name → Unchanged old new name) → Owns new names → condition new

-- Each of these names has one owner, so that it goes when that owner gives it up.
pub record HaveOneOwner (held : Held) (names : List ℕ) : Type 0 where
  pub one : (name : ℕ) → 0 < times names name → owners_of held name ≡ 1

-- The chain has no more names beside those of the value that held these names and holds those now.
pub record AddsNoOther (old new : Counts) (before after : List ℕ) : Type 0 where
  pub names : new.names + length before ≤ old.names + length after

-- Where each name that a value held had one owner, each that it holds now has one.
abbrev pub KeepsOneOwner : Held → Held → List ℕ → List ℕ → Type 0
KeepsOneOwner old new before after = HaveOneOwner old before → HaveOneOwner new after

-- Where each had one owner, the chain has no more names beside those of the value.
abbrev pub AddsOnlyOwn : Held → Counts → Counts → List ℕ → List ℕ → Type 0
AddsOnlyOwn held old new before after = HaveOneOwner held before → AddsNoOther old new before after
