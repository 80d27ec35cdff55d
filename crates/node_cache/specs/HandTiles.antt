-- The pairs of a cache that keeps its tiles itself. Its laws are here and not among the proofs, since the cache is
-- declared with them.
use Rattle.std.specs.Prelude.{◌≡◌, ℕ, ◌-◌, ◌^◌, ◌≤◌, List, [], ◌∷◌, map, length, Some, None}
use Rattle.std.specs.List.{IsDistinct}
use Rattle.std.specs.Map.{keys_of}
use Rattle.std.proofs.Common.{refl, ap, inr, arith}
use Rattle.chain_owners.specs.Held.{Held}
use Rattle.chain_owners.specs.Owners.{IsFramed, Owns}
use Rattle.model_states.specs.Cache.{Cached, Pair}
use Rattle.node_cache.specs.declared.pair_key.PairKey.{PairKey}
use Rattle.node_cache.specs.Keys.{pair_of, same_key}
use Rattle.node_cache.specs.NodeNames.{pairs_in}
use Rattle.node_cache.specs.Stores.{AreExposed, AreWithin, IsFramedCondition, Sized, by_sized, sized_of}

-- keys with the bytes of tiles, the most recent first
abbrev pub HandEntry : Type 0
HandEntry = PairKey × List ℕ

abbrev pub HandEntries : Type 0
HandEntries = List HandEntry

-- a pair with its length, and with its bytes
abbrev pub hand_size : HandEntry → Sized
hand_size e = record { pair = pair_of e.0; length = length e.1 }

abbrev pub hand_bytes : HandEntry → Cached
hand_bytes e = record { pair = pair_of e.0; bytes = e.1 }

-- What holds of it at every moment: its map never drops a pair by itself.
pub record IsHandCache (entries : HandEntries) (most : ℕ) : Type 0 where
  pub distinct : IsDistinct same_key (keys_of entries)
  pub unbounded : most ≡ 2 ^ 64 - 1

sizes-pairs : (es : HandEntries) → map by_sized (map hand_size es) ≡ pairs_in es
sizes-pairs [] = refl
sizes-pairs (e ∷ es) = ap (λ (rest : List Pair). pair_of e.0 ∷ rest) (sizes-pairs es)

bytes-sizes : (es : HandEntries) → map sized_of (map hand_bytes es) ≡ map hand_size es
bytes-sizes [] = refl
bytes-sizes (e ∷ es) = ap (λ (rest : List Sized). hand_size e ∷ rest) (bytes-sizes es)

pub hand_framed : {X : Type 0} (x : X) → IsFramed [] (λ _. x)
hand_framed x = λ old new known same. refl

pub hand_framed_condition : (P : Type 0) → IsFramedCondition [] (λ _. P)
hand_framed_condition P = λ old new is known same owned. is

pub hand_owned : (held : Held) → Owns held []
hand_owned held = record { counted = λ q. inr (omega arith) }

pub hand_exposed : (es : HandEntries) (held : Held) → AreExposed (pairs_in es) (map hand_size es) held (Some (map hand_bytes es))
hand_exposed es held = record { of_pairs = sizes-pairs es; lengths = bytes-sizes es; known = λ _. refl }

pub hand_within : (pairs : List Pair) → AreWithin None pairs
hand_within pairs = tt

pub hand_few_names : (pairs : List Pair) → length {A = ℕ} [] ≤ length pairs
hand_few_names pairs = omega arith
