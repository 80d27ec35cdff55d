-- What holds of each cache whose tiles are in a chain. These laws are here and not among the proofs, since the
-- cache is declared with them.
use Rattle.std.specs.Prelude.{◌≡◌, ℕ, ◌<◌, ◌≤◌, true, List, [], ◌∷◌, map, length, Option, Some, None, IfSome, IsSome, IsSomeAnd, is_some}
use Rattle.std.specs.Option.{option_map, unwrap_or}
use Rattle.std.specs.List.{IsDistinct, AllByRecursion}
use Rattle.std.specs.Map.{keys_of, values_of}
use Rattle.std.proofs.Common.{refl, sym, ap, ap₂, subst, ◌∙◌, false, true≢false, arith}
use Rattle.chain_owners.specs.Held.{Held, bytes_of, length_of}
use Rattle.chain_owners.specs.Owners.{IsFramed, Unchanged, times}
use Rattle.chain_owners.specs.Values.{Named}
use Rattle.chain_owners.proofs.Ownership.{times-here}
use Rattle.model_states.specs.Cache.{Cached, HasDistinctPairs, Pair, itself, same_pair}
use Rattle.node_cache.specs.declared.pair_key.PairKey.{PairKey}
use Rattle.node_cache.specs.Keys.{pair_of, same_key}
use Rattle.node_cache.specs.NodeNames.{AreTileNames, Entries, IsNodeCache, IsTileName, cached_in, entry_bytes, pairs_in, sizes_in}
use Rattle.node_cache.specs.Stores.{AreExposed, AreWithin, IsFramedCondition, Sized, by_sized, sized_of}

-- names that are unchanged
abbrev pub AreUnchanged : Held → Held → List ℕ → Type 0
AreUnchanged old new names = (name : ℕ) → 0 < times names name → Unchanged old new name

pub here : (e : PairKey × ℕ) (es : Entries) → 0 < times (values_of (e ∷ es)) e.1
here e es = omega (arith, times-here (values_of es) e.1)

pub later : (e : PairKey × ℕ) (es : Entries) (name : ℕ) → 0 < times (values_of es) name → 0 < times (values_of (e ∷ es)) name
later e es name some = omega arith

pub sizes-unchanged : (es : Entries) (old new : Held) → AreUnchanged old new (values_of es) → sizes_in es new ≡ sizes_in es old
sizes-unchanged [] old new same = refl
sizes-unchanged (e ∷ es) old new same = ap₂ {B = List Sized} (λ x xs. x ∷ xs)
    (ap (λ o. let sized : Sized = record { pair = pair_of e.0; length = unwrap_or o 0 } in sized) (same e.1 (here e es)).length)
    (sizes-unchanged es old new (λ name some. same name (later e es name some)))

pub bytes-unchanged : (es : Entries) (old new : Held) → AreUnchanged old new (values_of es) → map (entry_bytes new) es ≡ map (entry_bytes old) es
bytes-unchanged [] old new same = refl
bytes-unchanged (e ∷ es) old new same = ap₂ {B = List Cached} (λ x xs. x ∷ xs)
    (ap (λ o. let cached : Cached = record { pair = pair_of e.0; bytes = unwrap_or o [] } in cached) (same e.1 (here e es)).bytes)
    (bytes-unchanged es old new (λ name some. same name (later e es name some)))

-- what is known of a map says nothing of it but that it is there
pub known-constant : {X Y : Type 0} (o p : Option X) (y : Y) → is_some p ≡ is_some o → option_map (λ _. y) p ≡ option_map (λ _. y) o
known-constant None None y same = refl
known-constant None (Some x) y same = absurd (true≢false same)
known-constant (Some x) None y same = absurd (true≢false (sym same))
known-constant (Some x) (Some z) y same = refl

pub cached-unchanged : (es : Entries) (old new : Held) → is_some new.content ≡ is_some old.content → AreUnchanged old new (values_of es)
    → cached_in es new ≡ cached_in es old
cached-unchanged es old new known same =
    ap (λ list. option_map (λ _. list) new.content) (bytes-unchanged es old new same)
    ∙ known-constant old.content new.content (map (entry_bytes old) es) known

pub node_framed : (es : Entries) → IsFramed (values_of es) (cached_in es)
node_framed es = λ old new known same. cached-unchanged es old new known same

pub node_framed_sizes : (es : Entries) → IsFramed (values_of es) (sizes_in es)
node_framed_sizes es = λ old new known same. sizes-unchanged es old new same

pub tile_name-unchanged : (old new : Held) (name : ℕ) → is_some new.content ≡ is_some old.content → Unchanged old new name
    → IsTileName old name → IsTileName new name
tile_name-unchanged old new name known same is = record {
  len = is.len;
  there = same.length ∙ is.there;
  size = is.size;
  bytes = λ exposed. subst (λ o. IsSomeAnd o (λ (bytes : List ℕ). length bytes ≡ is.len)) (sym same.bytes) (is.bytes (sym known ∙ exposed));
}

pub node_framed_condition : (es : Entries) (most capacity : ℕ) → IsFramedCondition (values_of es) (IsNodeCache es most capacity)
node_framed_condition es most capacity = λ old new is known same owned. record {
  distinct = is.distinct;
  fits = is.fits;
  some = is.some;
  same = is.same;
  owned = owned;
  tiles = record { named = λ name some. tile_name-unchanged old new name known (same name some) (is.tiles.named name some) };
}

-- ---- what is exposed

sizes-pairs : (es : Entries) (held : Held) → map by_sized (sizes_in es held) ≡ pairs_in es
sizes-pairs [] held = refl
sizes-pairs (e ∷ es) held = ap (λ (rest : List Pair). pair_of e.0 ∷ rest) (sizes-pairs es held)

one-length : (b : Option (List ℕ)) (l : Option ℕ) (len : ℕ) → l ≡ Some len → IsSomeAnd b (λ bytes. length bytes ≡ len)
    → length (unwrap_or b []) ≡ unwrap_or l 0
one-length None l len there is = absurd is
one-length (Some bytes) l len there is = is ∙ sym (ap (λ o. unwrap_or o 0) there)

bytes-sizes : (es : Entries) (held : Held) → is_some held.content ≡ true → AreTileNames held (values_of es)
    → map sized_of (map (entry_bytes held) es) ≡ sizes_in es held
bytes-sizes [] held exposed are = refl
bytes-sizes (e ∷ es) held exposed are =
    let is = are.named e.1 (here e es) in
    ap₂ {B = List Sized} (λ x xs. x ∷ xs)
    (ap (λ n. let sized : Sized = record { pair = pair_of e.0; length = n } in sized)
    (one-length (bytes_of held e.1) (length_of held e.1) is.len is.there (is.bytes exposed)))
    (bytes-sizes es held exposed (record { named = λ name some. are.named name (later e es name some) }))

lengths-known : (es : Entries) (held : Held) (o : Option (Named (List ℕ))) → held.content ≡ o → AreTileNames held (values_of es)
    → IfSome (option_map (λ _. map (entry_bytes held) es) o) (λ list. map sized_of list ≡ sizes_in es held)
lengths-known es held None is are = tt
lengths-known es held (Some content) is are = bytes-sizes es held (ap is_some is) are

still-known : {X Y : Type 0} (o : Option X) (y : Y) → IsSome o → IsSome (option_map (λ _. y) o)
still-known None y is = is
still-known (Some x) y is = is

pub node_exposed : (es : Entries) (most capacity : ℕ) (held : Held) → IsNodeCache es most capacity held
    → AreExposed (pairs_in es) (sizes_in es held) held (cached_in es held)
node_exposed es most capacity held is = record {
  of_pairs = sizes-pairs es held;
  lengths = lengths-known es held held.content refl is.tiles;
  known = still-known held.content (map (entry_bytes held) es);
}

-- ---- distinct pairs

all-keys : {V : Type 0} (k : PairKey) (es : List (PairKey × V)) → AllByRecursion (λ b. same_key k b ≡ false) (keys_of es)
    → AllByRecursion (λ b. same_pair (pair_of k) b ≡ false) (map itself (pairs_in es))
all-keys k [] all = tt
all-keys k (e ∷ es) all = (all.0, all-keys k es all.1)

pub pairs_distinct : {V : Type 0} (es : List (PairKey × V)) → IsDistinct same_key (keys_of es) → HasDistinctPairs itself (pairs_in es)
unfolding IsDistinct
pairs_distinct [] is = tt
pairs_distinct (e ∷ es) is = (all-keys e.0 es is.0, pairs_distinct es is.1)

-- ---- lengths

pub pairs-length : {V : Type 0} (es : List (PairKey × V)) → length (pairs_in es) ≡ length es
pairs-length [] = refl
pairs-length (e ∷ es) = omega (arith, pairs-length es)

pub names-length : (es : Entries) → length (values_of es) ≡ length (pairs_in es)
names-length [] = refl
names-length (e ∷ es) = omega (arith, names-length es)

pub node_within : (es : Entries) (most capacity : ℕ) (held : Held) → IsNodeCache es most capacity held → AreWithin (Some capacity) (pairs_in es)
node_within es most capacity held is = omega (arith, pairs-length es, is.fits)

pub node_few_names : (es : Entries) → length (values_of es) ≤ length (pairs_in es)
node_few_names es = omega (arith, names-length es)
