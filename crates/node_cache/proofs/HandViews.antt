-- What callers see of a cache that keeps its tiles itself, after each of its calls.
use Rattle.std.proofs.Common.{◌≡◌, ℕ, zero, suc, ◌-◌, ◌^◌, ◌<◌, ◌≤◌, false, List, [], ◌∷◌, map, take, length, Option, Some, None, is_some, option_map, refl, sym, ap, subst, ◌∙◌, arith}
use Rattle.std.specs.Prelude.{IfSome}
use Rattle.std.specs.Option.{option_map_or}
use Rattle.std.specs.List.{AllByRecursion, IsDistinct}
use Rattle.std.specs.Map.{keys_of, lookup, lookup_entry, remove_entry}
use Rattle.std.proofs.lemmas.List.{take_all}
use Rattle.lru.specs.LruCache.{LruCache, lru_cache, put_entries}
use Rattle.model_states.specs.Cache.{Cached, by_pair, find_pair, itself}
use Rattle.node_cache.specs.declared.pair_key.PairKey.{PairKey}
use Rattle.node_cache.specs.HandTiles.{HandEntries, HandEntry, IsHandCache, hand_bytes, hand_size}
use Rattle.node_cache.specs.Keys.{pair_of, same_key}
use Rattle.node_cache.specs.NodeNames.{entry_pair, pairs_in}
use Rattle.node_cache.specs.Stores.{Finds, Sized, by_sized}
use Rattle.node_cache.proofs.Lists.{entry-lookup, find-made, no-entry}

module _ (k : PairKey) (es : HandEntries) where
  there : (o : Option HandEntry) → is_some (option_map (λ (e : HandEntry). e.1) o) ≡ is_some (option_map (entry_pair {V = List ℕ}) o)
  there None = refl
  there (Some e) = refl

  lengths : (len : ℕ) (o : Option HandEntry) → IfSome (option_map hand_size o) (λ sized. sized.length ≡ len)
      → IfSome (option_map (λ (e : HandEntry). e.1) o) (λ tile. length tile ≡ len)
  lengths len None is = tt
  lengths len (Some e) is = is

  bytes : (o : Option HandEntry) → option_map (λ (e : HandEntry). e.1) o ≡ option_map (λ (c : Cached). c.bytes) (option_map hand_bytes o)
  bytes None = refl
  bytes (Some e) = refl

  pub hand-finds : (len : ℕ) (found : Option (List ℕ)) → IfSome (find_pair by_sized (map hand_size es) (pair_of k)) (λ sized. sized.length ≡ len)
      → found ≡ lookup (same_key k) es → Finds (pairs_in es) (Some (map hand_bytes es)) (pair_of k) len found
  hand-finds len found sized is =
      let at : found ≡ option_map (λ (e : HandEntry). e.1) (lookup_entry (same_key k) es) = is ∙ sym (entry-lookup k es) in
      record {
        there = ap is_some at ∙ there (lookup_entry (same_key k) es) ∙ ap is_some (sym (find-made itself (entry_pair {V = List ℕ}) (λ e. refl) k es));
        length = subst (λ o. IfSome o (λ (tile : List ℕ). length tile ≡ len)) (sym at)
            (lengths len (lookup_entry (same_key k) es)
            (subst (λ o. IfSome o (λ (s : Sized). s.length ≡ len)) (find-made by_sized hand_size (λ e. refl) k es) sized));
        bytes = at ∙ bytes (lookup_entry (same_key k) es)
            ∙ sym (ap (option_map (λ (c : Cached). c.bytes)) (find-made by_pair hand_bytes (λ e. refl) k es));
      }

  no-value : (o : Option HandEntry) → option_map (entry_pair {V = List ℕ}) o ≡ None → option_map (λ (e : HandEntry). e.1) o ≡ None
  no-value None is = refl
  no-value (Some e) is = absurd (cc)

  pub hand-no-pair : find_pair itself (pairs_in es) (pair_of k) ≡ None → lookup (same_key k) es ≡ None
  hand-no-pair none =
      sym (entry-lookup k es)
      ∙ no-value (lookup_entry (same_key k) es) (sym (find-made itself (entry_pair {V = List ℕ}) (λ e. refl) k es) ∙ none)

  pub hand-put : (tile : List ℕ) (most : ℕ) → lookup (same_key k) es ≡ None → length es < 2 ^ 63 → most ≡ 2 ^ 64 - 1
      → put_entries same_key (lru_cache es most) k tile ≡ (k, tile) ∷ es
  hand-put tile most none few unbounded =
      ap (λ o. option_map_or (λ (e : HandEntry). (e.0, tile) ∷ remove_entry (same_key k) es) o ((k, tile) ∷ take (most - 1) es)) (no-entry k es none)
      ∙ ap (λ (rest : HandEntries). (k, tile) ∷ rest) (take_all (most - 1) es (omega (arith, few, unbounded)))

-- a list that is longer than what it is cut to loses its last, and is cut to the same
taken-twice : (es : HandEntries) (n m : ℕ) → n ≤ m → take n (take m es) ≡ take n es
taken-twice es zero m le = refl
taken-twice es (suc n) zero le = absurd (omega (arith, le))
taken-twice [] (suc n) (suc m) le = refl
taken-twice (e ∷ es) (suc n) (suc m) le = ap (λ (rest : HandEntries). e ∷ rest) (taken-twice es n m (omega (arith, le)))

pub trimmed : (es now : HandEntries) (n : ℕ) → n < length es → now ≡ take (length es - 1) es → take n now ≡ take n es
trimmed es now n lt is = ap (take n) is ∙ taken-twice es n (length es - 1) (omega (arith, lt))

pub trimmed-all : (es now : HandEntries) (n : ℕ) → length now ≤ n → take n now ≡ take n es → now ≡ take n es
trimmed-all es now n le is = sym (take_all n now le) ∙ is

all-taken : (P : PairKey → Type 0) (n : ℕ) (es : HandEntries) → AllByRecursion P (keys_of es) → AllByRecursion P (keys_of (take n es))
all-taken P zero es all = tt
all-taken P (suc n) [] all = tt
all-taken P (suc n) (e ∷ es) all = (all.0, all-taken P n es all.1)

distinct-taken : (n : ℕ) (es : HandEntries) → IsDistinct same_key (keys_of es) → IsDistinct same_key (keys_of (take n es))
unfolding IsDistinct
distinct-taken zero es is = tt
distinct-taken (suc n) [] is = tt
distinct-taken (suc n) (e ∷ es) is = (all-taken (λ b. same_key e.0 b ≡ false) n es is.0, distinct-taken n es is.1)

pub hand-popped : (es : HandEntries) (most : ℕ) (new : LruCache PairKey (List ℕ)) → new ≡ lru_cache (take (length es - 1) es) most
    → IsHandCache es most → IsHandCache new.entries new.cap
hand-popped es most new is over = subst (λ (n : LruCache PairKey (List ℕ)). IsHandCache n.entries n.cap) (sym is)
    (record { distinct = distinct-taken (length es - 1) es over.distinct; unbounded = over.unbounded })

pub hand-empty : (most : ℕ) → most ≡ 2 ^ 64 - 1 → IsHandCache [] most
unfolding IsDistinct
hand-empty most is = record { distinct = tt; unbounded = is }
