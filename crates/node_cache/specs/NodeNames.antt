-- The pairs of a cache whose tiles are in a chain, each with the name of its tile there.
use Rattle.std.specs.Prelude.{◌≡◌, ℕ, ◌<◌, ◌≤◌, true, List, [], map, length, Option, Some, IfSome, IsSomeAnd, is_some}
use Rattle.std.specs.Option.{option_and_then, option_map, unwrap_or}
use Rattle.std.specs.List.{IsDistinct}
use Rattle.std.specs.Map.{keys_of, values_of}
use Rattle.tile_cow.specs.Tile.{IsTileLength}
use Rattle.chain_owners.specs.Counts.{Counts, Grows}
use Rattle.chain_owners.specs.Held.{Held, bytes_of, length_of}
use Rattle.chain_owners.specs.Owners.{Owns, Respects, Unchanged, times}
use Rattle.model_states.specs.Cache.{Cached, Pair}
use Rattle.node_cache.specs.declared.pair_key.PairKey.{PairKey}
use Rattle.node_cache.specs.Keys.{pair_of, same_key}
use Rattle.node_cache.specs.Stores.{AddsOnlyOwn, KeepsOneOwner, Sized}

-- keys with names, the most recent first
abbrev pub Entry : Type 0
Entry = PairKey × ℕ

abbrev pub Entries : Type 0
Entries = List Entry

-- the pair of an entry, whatever its value
abbrev pub entry_pair : {V : Type 0} → PairKey × V → Pair
entry_pair e = pair_of e.0

-- with its length and its bytes over what a chain holds
abbrev pub entry_size : Held → PairKey × ℕ → Sized
entry_size held e = record { pair = pair_of e.0; length = unwrap_or (length_of held e.1) 0 }

abbrev pub entry_bytes : Held → PairKey × ℕ → Cached
entry_bytes held e = record { pair = pair_of e.0; bytes = unwrap_or (bytes_of held e.1) [] }

-- the list of pairs, with their lengths, and with their bytes where the chain exposes these
abbrev pub pairs_in : {V : Type 0} → List (PairKey × V) → List Pair
pairs_in {V} entries = map (entry_pair {V = V}) entries

abbrev pub sizes_in : Entries → Held → List Sized
sizes_in entries held = map (entry_size held) entries

abbrev pub cached_in : Entries → Held → Option (List Cached)
cached_in entries held = option_map (λ _. map (entry_bytes held) entries) held.content

-- A name of a tile: it has the length of one, and as many bytes where these are exposed.
pub record IsTileName (held : Held) (name : ℕ) : Type 0 where
  pub len : ℕ
  pub there : length_of held name ≡ Some len
  pub size : IsTileLength len
  pub bytes : is_some held.content ≡ true → IsSomeAnd (bytes_of held name) (λ bytes. length bytes ≡ len)

-- each of these is a name of a tile
pub record AreTileNames (held : Held) (names : List ℕ) : Type 0 where
  pub named : (name : ℕ) → 0 < times names name → IsTileName held name

-- What a cache of so many pairs at most asks of a chain, and what holds of it at every moment.
pub record IsNodeCache (entries : Entries) (most capacity : ℕ) (held : Held) : Type 0 where
  pub distinct : IsDistinct same_key (keys_of entries)
  pub fits : length entries ≤ capacity
  pub some : 0 < capacity
  pub same : most ≡ capacity
  pub owned : Owns held (values_of entries)
  pub tiles : AreTileNames held (values_of entries)

-- Names were given up, and nothing else was done: of those that were held before the ones after it are left.
pub record GivesUp (old new : Held) (first last : Counts) (before after : List ℕ) : Type 0 where
  pub fewer : (name : ℕ) → times after name ≤ times before name
  pub others : Respects old new before after
  pub unchanged : (name : ℕ) → 0 < times after name → Unchanged old new name
  pub grows : Grows 0 first last
  pub one_owner : KeepsOneOwner old new before after
  pub other_names : AddsOnlyOwn old first last before after

-- What a look finds of a name: nothing without a name, else a tile of so many bytes, which are the name's where the
-- chain exposes them.
pub record IsFoundIn (held : Held) (name : Option ℕ) (len : ℕ) (found : Option (List ℕ)) : Type 0 where
  pub there : is_some found ≡ is_some name
  pub length : IfSome found (λ tile. length tile ≡ len)
  pub bytes : is_some held.content ≡ true → found ≡ option_and_then (bytes_of held) name
