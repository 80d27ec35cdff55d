-- The keys of cached tiles.
use Rattle.std.specs.Prelude.{ℕ, Bool, ◌&&◌, not, List, filter}
use Rattle.std.specs.Str.{bytes_eq}
use Rattle.plane_rect.specs.Rectangle.{Rectangle}
use Rattle.model_states.specs.Cache.{Pair, same_pair}
use Rattle.plane_rect.specs.Tile.{meets}
use Rattle.node_cache.specs.declared.pair_key.PairKey.{PairKey}

-- the pair of a key
abbrev pub pair_of : PairKey → Pair
pair_of key = record { node = key.node; tile = key.at }

-- two keys are those of one pair
abbrev pub same_key : PairKey → PairKey → Bool
same_key a b = same_pair (pair_of a) (pair_of b)

-- a void of a node's tiles that meet a rectangle takes the pair of this key out
abbrev pub is_voided : List ℕ → Rectangle → PairKey → Bool
is_voided node rectangle key = bytes_eq node key.node && meets key.at rectangle

-- the entries that it leaves
abbrev pub entries_left : {V : Type 0} → List ℕ → Rectangle → List (PairKey × V) → List (PairKey × V)
entries_left node rectangle entries = filter (λ e. not (is_voided node rectangle e.0)) entries
