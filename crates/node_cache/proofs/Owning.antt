-- Names that a cache makes and gives up.
use Rattle.std.proofs.Common.{◌≡◌, ◌≢◌, ℕ, zero, suc, ◌+◌, ◌-◌, ◌<◌, ◌≤◌, Bool, true, false, cond, List, [], ◌∷◌, ◌++◌, length, take, Option, Some, None, is_some, IsSomeAnd, option_map, inl, inr, refl, sym, ap, subst, ◌∙◌, arith, true≢false}
use Rattle.std.specs.Prelude.{IsSome, slice_get}
use Rattle.std.specs.Option.{option_and_then, option_map_or, unwrap_or}
use Rattle.std.specs.FinMap as map
use Rattle.std.specs.FinMap.{len-remove}
use Rattle.std.specs.List.{IsDistinct}
use Rattle.std.specs.Map.{keys_of, lookup, lookup_entry, remove_entry, values_of}
use Rattle.std.specs.Ordering.{nat_cmp}
use Rattle.std.proofs.lemmas.Bool.{cases_eq, cases_lt}
use Rattle.std.proofs.lemmas.Cmp.{nat_cmp_total}
use Rattle.lru.specs.LruCache.{displaced, lru_cache, promoted, put_entries}
use Rattle.tile_cow.specs.Tile.{IsTileLength}
use Rattle.chain_owners.specs.Counts.{AreCounts, Counts, Grows}
use Rattle.chain_owners.specs.Held.{Held, bytes_of, disowned, length_of, owners_of, with_name, without_name}
use Rattle.chain_owners.specs.Owners.{Owns, Respects, Unchanged, times}
use Rattle.chain_owners.specs.Room.{Room}
use Rattle.chain_owners.specs.Values.{Named}
use Rattle.chain_owners.proofs.Growing.{grows-both, grows-same}
use Rattle.chain_owners.proofs.Names.{get_elsewhere, get_here, get_left}
use Rattle.chain_owners.proofs.Ownership.{disowned-last, disowned-respects, new_name-respects, others-own, others-unchanged, owns-fewer, put-unchanged, respects-beside, respects-both, respects-same, times-append, times-elsewhere, times-here, unchanged-both, unchanged-same}
use Rattle.node_cache.specs.declared.pair_key.PairKey.{PairKey}
use Rattle.node_cache.specs.Keys.{same_key}
use Rattle.node_cache.specs.NodeNames.{AreTileNames, Entries, GivesUp, IsNodeCache, IsTileName}
use Rattle.node_cache.specs.NodeLaws.{node_framed_condition, tile_name-unchanged}
use Rattle.node_cache.specs.Stores.{AddsOnlyOwn, HaveOneOwner, KeepsOneOwner}
use Rattle.node_cache.proofs.Lists.{entry-lookup, no-entry}

-- ---- how often entries hold a name

module _ (test : PairKey → Bool) where
  pub times-removed : (es : Entries) (e : PairKey × ℕ) (q : ℕ) → lookup_entry test es ≡ Some e
      → times (values_of es) q ≡ times (e.1 ∷ values_of (remove_entry test es)) q
  times-removed [] e q found = absurd (cc)
  times-removed (x ∷ es) e q found = by (test x.0) found (times-removed es e q)
    where
      by : (b : Bool) → cond b (Some x) (lookup_entry test es) ≡ Some e
          → (lookup_entry test es ≡ Some e → times (values_of es) q ≡ times (e.1 ∷ values_of (remove_entry test es)) q)
          → times (x.1 ∷ values_of es) q ≡ times (e.1 ∷ values_of (cond b es (x ∷ remove_entry test es))) q
      by true here rest = let same : x ≡ e = cc in ap (λ (y : PairKey × ℕ). times (y.1 ∷ values_of es) q) same
      by false later rest = let is = rest later in omega (arith, is)

  pub length-removed : (es : Entries) (e : PairKey × ℕ) → lookup_entry test es ≡ Some e
      → length (values_of es) ≡ length (e.1 ∷ values_of (remove_entry test es))
  length-removed [] e found = absurd (cc)
  length-removed (x ∷ es) e found = by (test x.0) found (length-removed es e)
    where
      by : (b : Bool) → cond b (Some x) (lookup_entry test es) ≡ Some e
          → (lookup_entry test es ≡ Some e → length (values_of es) ≡ length (e.1 ∷ values_of (remove_entry test es)))
          → length (x.1 ∷ values_of es) ≡ length (e.1 ∷ values_of (cond b es (x ∷ remove_entry test es)))
      by true here rest = refl
      by false later rest = let is = rest later in omega (arith, is)

  pub times-promoted : (es : Entries) (q : ℕ) → times (values_of (promoted test es)) q ≡ times (values_of es) q
  times-promoted es q = by (lookup_entry test es) refl
    where
      by : (o : Option (PairKey × ℕ)) → lookup_entry test es ≡ o
          → times (values_of (option_map_or (λ (e : PairKey × ℕ). e ∷ remove_entry test es) o es)) q ≡ times (values_of es) q
      by None none = refl
      by (Some e) found = sym (times-removed es e q found)

  pub length-promoted : (es : Entries) → length (values_of (promoted test es)) ≡ length (values_of es)
  length-promoted es = by (lookup_entry test es) refl
    where
      by : (o : Option (PairKey × ℕ)) → lookup_entry test es ≡ o
          → length (values_of (option_map_or (λ (e : PairKey × ℕ). e ∷ remove_entry test es) o es)) ≡ length (values_of es)
      by None none = refl
      by (Some e) found = sym (length-removed es e found)

-- ---- giving up

pub gives_up-none : (held : Held) (counts : Counts) (names : List ℕ) → GivesUp held held counts counts names names
gives_up-none held counts names = record {
  fewer = λ q. omega arith;
  others = respects-same held names;
  unchanged = λ q some. unchanged-same held q;
  grows = grows-same counts;
  one_owner = λ one. one;
  other_names = λ one. record { names = omega arith };
}

pub gives_up-then : (a b c : Held) (first second last : Counts) (before between after : List ℕ)
    → GivesUp a b first second before between → GivesUp b c second last between after → GivesUp a c first last before after
gives_up-then a b c first second last before between after one two = record {
  fewer = λ q. omega (arith, one.fewer q, two.fewer q);
  others = respects-both a b before between one.others c after two.others;
  unchanged = λ q some. unchanged-both a b c q (one.unchanged q (omega (arith, two.fewer q))) (two.unchanged q some);
  grows = grows-both 0 0 first second last one.grows two.grows;
  one_owner = λ owner. two.one_owner (one.one_owner owner);
  other_names = λ owner. record { names = omega (arith, (one.other_names owner).names, (two.other_names (one.one_owner owner)).names) };
}

module _ (held new : Held) (first last : Counts) (before after before' after' : List ℕ) (same : (q : ℕ) → times before' q ≡ times before q)
    (same' : (q : ℕ) → times after' q ≡ times after q) (count : length before' ≡ length before) (count' : length after' ≡ length after) where
  one-owner-order : HaveOneOwner held before' → HaveOneOwner held before
  one-owner-order one = record { one = λ q some. one.one q (omega (arith, same q)) }

  -- the order of the names doesn't count
  pub gives_up-order : GivesUp held new first last before after → GivesUp held new first last before' after'
  gives_up-order is = record {
    fewer = λ q. omega (arith, is.fewer q, same q, same' q);
    others = respects-beside held new before after is.others before' after' [] (λ q. omega (arith, same q)) (λ q. omega (arith, same' q));
    unchanged = λ q some. is.unchanged q (omega (arith, same' q));
    grows = is.grows;
    one_owner = λ one. record { one = λ q some. (is.one_owner (one-owner-order one)).one q (omega (arith, same' q)) };
    other_names = λ one. record { names = omega (arith, (is.other_names (one-owner-order one)).names, count, count') };
  }

-- ---- one name

some-names : (m : Named ℕ) (k len : ℕ) → map.get m k ≡ Some len → 0 < map.len m
some-names m k len there = elim (cases_lt 0 (map.len m)) [
  | inl some ↦ some
  | inr none ↦
      let empty : map.get m k ≡ None = ap (λ (n : Named ℕ). map.get n k) (map.empty_of_len m (omega arith)) ∙ map.get-empty nat_cmp k in
      absurd (cc)
]

-- a name that goes is one name fewer
fewer-names : (held : Held) (k len : ℕ) → length_of held k ≡ Some len → map.len (without_name held k).lengths + 1 ≡ map.len held.lengths
fewer-names held k len there =
    let counted : map.len (without_name held k).lengths ≡ map.len held.lengths - 1 =
    len-remove nat_cmp_total held.lengths k ∙ ap (λ o. cond (is_some o) (map.len held.lengths - 1) (map.len held.lengths)) there in
    let some = some-names held.lengths k len there in
    omega (arith, counted, some)

owners-left : (held : Held) (k q : ℕ) → q ≢ k → owners_of (without_name held k) q ≡ owners_of held q
owners-left held k q ne = ap (λ o. unwrap_or o 0) (get_left held.owners k q ne)

module _ (held : Held) (k len : ℕ) (rest : List ℕ) (owns : Owns held (k ∷ rest)) (there : length_of held k ≡ Some len) where
  own : Owns held (k ∷ [])
  own = owns-fewer held (k ∷ rest) (k ∷ []) (λ q. omega arith) owns

  one-left : HaveOneOwner held (k ∷ rest) → owners_of held k ≡ 1
  one-left one = one.one k (omega (arith, times-here rest k))

  gone : HaveOneOwner held (k ∷ rest) → disowned held k ≡ without_name held k
  gone one = disowned-last held k (omega (arith, one-left one))

  -- a name that is owned once isn't held twice
  apart : HaveOneOwner held (k ∷ rest) → (q : ℕ) → 0 < times rest q → q ≢ k
  apart one q some same = elim (owns.counted k) [
    | inl is ↦ absurd (omega (arith, is, one-left one))
    | inr le ↦ absurd (omega (arith, le, one-left one, times-here rest k, subst (λ p. 0 < times rest p) same some))
  ]

  pub gives_up-one : (new : Held) (first last : Counts) (store store' : Option Room) → new ≡ disowned held k → Grows 0 first last
      → AreCounts first held store → AreCounts last new store' → GivesUp held new first last (k ∷ rest) rest
  gives_up-one new first last store store' is grows counts counts' = record {
    fewer = λ q. omega arith;
    others = subst (λ (h : Held). Respects held h (k ∷ rest) rest) (sym is) (disowned-respects held rest k owns);
    unchanged = λ q some. subst (λ (h : Held). Unchanged held h q) (sym is)
        (others-unchanged held (disowned held k) (k ∷ []) [] (disowned-respects held [] k own) rest owns q some);
    grows = grows;
    one_owner = λ one. record {
      one = λ q some. ap (λ (h : Held). owners_of h q) (is ∙ gone one) ∙ owners-left held k q (apart one q some)
          ∙ one.one q (omega arith);
    };
    other_names = λ one. record {
      names = omega (arith, counts.names, counts'.names, ap (λ (h : Held). map.len h.lengths) (is ∙ gone one), fewer-names held k len there);
    };
  }

-- ---- what a cache asks of a chain, after names were given up

owns-all : (old new : Held) (before after : List ℕ) → Respects old new before after → Owns old before → Owns new after
owns-all old new before after respects owns =
    owns-fewer new (after ++ []) after (λ q. omega (arith, times-append after [] q))
    (others-own old new before after respects []
    (owns-fewer old before (before ++ []) (λ q. omega (arith, times-append before [] q)) owns))

pub cache-left : (es es' : Entries) (most most' capacity : ℕ) (old new : Held) (first last : Counts)
    → GivesUp old new first last (values_of es) (values_of es') → IsNodeCache es most capacity old → most' ≡ most
    → IsDistinct same_key (keys_of es') → length es' ≤ most' → IsNodeCache es' most' capacity new
cache-left es es' most most' capacity old new first last given is kept distinct fits = record {
  distinct = distinct;
  fits = omega (arith, fits, kept, is.same);
  some = is.some;
  same = kept ∙ is.same;
  owned = owns-all old new (values_of es) (values_of es') given.others is.owned;
  tiles = record {
    named = λ q some. tile_name-unchanged old new q given.others.exposed (given.unchanged q some) (is.tiles.named q (omega (arith, given.fewer q)));
  };
}

-- ---- a pair that is found

module _ (k : PairKey) where
  pub looked-up : (es : Entries) (name : ℕ) → lookup (same_key k) es ≡ Some name → 0 < times (values_of es) name
  looked-up [] name found = absurd (cc)
  looked-up (e ∷ es) name found = by (same_key k e.0) found (looked-up es name)
    where
      by : (b : Bool) → cond b (Some e.1) (lookup (same_key k) es) ≡ Some name
          → (lookup (same_key k) es ≡ Some name → 0 < times (values_of es) name) → 0 < times (e.1 ∷ values_of es) name
      by true found rest = let same : e.1 ≡ name = cc in subst (λ q. 0 < times (e.1 ∷ values_of es) q) same (omega (arith, times-here (values_of es) e.1))
      by false found rest = let is = rest found in omega (arith, is)

  found-entry : (es : Entries) (name : ℕ) → lookup (same_key k) es ≡ Some name → (e : PairKey × ℕ) × (lookup_entry (same_key k) es ≡ Some e) × (e.1 ≡ name)
  found-entry es name found = by (lookup_entry (same_key k) es) refl (entry-lookup k es ∙ found)
    where
      by : (o : Option (PairKey × ℕ)) → lookup_entry (same_key k) es ≡ o → option_map (λ (e : PairKey × ℕ). e.1) o ≡ Some name
          → (e : PairKey × ℕ) × (lookup_entry (same_key k) es ≡ Some e) × (e.1 ≡ name)
      by None is none = absurd (cc)
      by (Some e) is some = (e, is, cc)

  pub gives_up-found : (es : Entries) (most capacity name : ℕ) (held new : Held) (first last : Counts) (store store' : Option Room)
      → lookup (same_key k) es ≡ Some name → IsNodeCache es most capacity held → new ≡ disowned held name → Grows 0 first last
      → AreCounts first held store → AreCounts last new store'
      → GivesUp held new first last (values_of es) (values_of (remove_entry (same_key k) es))
  gives_up-found es most capacity name held new first last store store' found is gone grows counts counts' =
      let at = found-entry es name found in
      let rest = values_of (remove_entry (same_key k) es) in
      let same = λ (q : ℕ). times-removed (same_key k) es at.0 q at.1 in
      let tile = is.tiles.named name (looked-up es name found) in
      gives_up-order held new first last (at.0.1 ∷ rest) rest (values_of es) rest
      same (λ q. refl) (length-removed (same_key k) es at.0 at.1) refl
      (gives_up-one held at.0.1 tile.len rest
      (owns-fewer held (values_of es) (at.0.1 ∷ rest) (λ q. omega (arith, same q)) is.owned)
      (ap (length_of held) at.2 ∙ tile.there)
      new first last store store' (gone ∙ ap (disowned held) (sym at.2)) grows counts counts')

  pub cache-promoted : (es : Entries) (most most' capacity : ℕ) (held : Held) → IsNodeCache es most capacity held → most' ≡ most
      → IsDistinct same_key (keys_of (promoted (same_key k) es)) → length (promoted (same_key k) es) ≤ most'
      → IsNodeCache (promoted (same_key k) es) most' capacity held
  cache-promoted es most most' capacity held is kept distinct fits = record {
    distinct = distinct;
    fits = omega (arith, fits, kept, is.same);
    some = is.some;
    same = kept ∙ is.same;
    owned = owns-fewer held (values_of es) (values_of (promoted (same_key k) es)) (λ q. omega (arith, times-promoted (same_key k) es q)) is.owned;
    tiles = record { named = λ q some. is.tiles.named q (omega (arith, times-promoted (same_key k) es q)) };
  }

pub tile-size : (held : Held) (name len : ℕ) → IsTileName held name → length_of held name ≡ Some len → IsTileLength len
tile-size held name len is there = let same : is.len ≡ len = cc (is.there, there) in subst IsTileLength same is.size

pub some-length : (o : Option ℕ) (len : ℕ) → o ≡ Some len → IsSome o
some-length None len is = absurd (cc)
some-length (Some n) len is = refl

-- ---- the last of a full list

pub times-fallen : (es : Entries) (n : ℕ) (e : PairKey × ℕ) → slice_get es n ≡ Some e → length es ≤ suc n → (q : ℕ)
    → times (values_of es) q ≡ times (e.1 ∷ values_of (take n es)) q
times-fallen [] n e is few q = absurd (cc)
times-fallen (x ∷ []) zero e is few q = let same : x ≡ e = cc in ap (λ (y : PairKey × ℕ). times (y.1 ∷ []) q) same
times-fallen (x ∷ y ∷ es) zero e is few q = absurd (omega (arith, few))
times-fallen (x ∷ es) (suc n) e is few q = let rest = times-fallen es n e is (omega (arith, few)) q in omega (arith, rest)

pub length-fallen : (es : Entries) (n : ℕ) (e : PairKey × ℕ) → slice_get es n ≡ Some e → length es ≤ suc n
    → length (values_of es) ≡ length (e.1 ∷ values_of (take n es))
length-fallen [] n e is few = absurd (cc)
length-fallen (x ∷ []) zero e is few = refl
length-fallen (x ∷ y ∷ es) zero e is few = absurd (omega (arith, few))
length-fallen (x ∷ es) (suc n) e is few = let rest = length-fallen es n e is (omega (arith, few)) in omega (arith, rest)

pub none-fallen : (es : Entries) (n : ℕ) → slice_get es n ≡ None → take n es ≡ es
none-fallen [] zero is = refl
none-fallen [] (suc n) is = refl
none-fallen (x ∷ es) zero is = absurd (cc)
none-fallen (x ∷ es) (suc n) is = ap (λ (rest : Entries). x ∷ rest) (none-fallen es n is)

-- ---- a new name

-- names that only count in another order, over a chain that is as it was
pub gives_up-reads : (old new : Held) (first last : Counts) (before after : List ℕ) → new ≡ old → Grows 0 first last
    → ((q : ℕ) → times after q ≡ times before q) → length after ≡ length before → GivesUp old new first last before after
gives_up-reads old new first last before after is grows same count = record {
  fewer = λ q. omega (arith, same q);
  others = subst (λ (h : Held). Respects old h before after) (sym is)
      (respects-beside old old before before (respects-same old before) before after [] (λ q. omega arith) (λ q. omega (arith, same q)));
  unchanged = λ q some. subst (λ (h : Held). Unchanged old h q) (sym is) (unchanged-same old q);
  grows = grows;
  one_owner = λ one. record { one = λ q some. ap (λ (h : Held). owners_of h q) is ∙ one.one q (omega (arith, same q)) };
  other_names = λ one. record { names = omega (arith, grows.names, count) };
}

named-bytes : (content : Option (Named (List ℕ))) (name : ℕ) (tile : List ℕ) → is_some (option_map (λ (c : Named (List ℕ)). map.insert c name tile) content) ≡ true
    → option_and_then (λ (c : Named (List ℕ)). map.get c name) (option_map (λ (c : Named (List ℕ)). map.insert c name tile) content) ≡ Some tile
named-bytes None name tile known = absurd (true≢false (sym known))
named-bytes (Some content) name tile known = get_here content name tile

-- what a name that was made for a tile leaves of the cached ones
pub record IsNamedBeside (held new : Held) (name : ℕ) (tile : List ℕ) (es : Entries) (most capacity : ℕ) : Type 0 where
  pub unchanged : (q : ℕ) → 0 < times (values_of es) q → Unchanged held new q
  pub respects : Respects held new (values_of es) (name ∷ values_of es)
  pub owns : Owns new (name ∷ values_of es)
  pub len : length_of new name ≡ Some (length tile)
  pub bytes : is_some new.content ≡ true → bytes_of new name ≡ Some tile
  pub named : IsTileLength (length tile) → IsTileName new name
  pub over : IsNodeCache es most capacity new

-- what is left once the cache was handed it
pub record IsHanded (held last : Held) (first third : Counts) (names names' : List ℕ) : Type 0 where
  pub others : Respects held last names names'
  pub one_owner : KeepsOneOwner held last names names'
  pub other_names : AddsOnlyOwn held first third names names'
  pub counts : Grows 1 first third

module _ (held new : Held) (name : ℕ) (tile : List ℕ) (es : Entries) (most capacity : ℕ) (is : IsNodeCache es most capacity held)
    (absent : length_of held name ≡ None) (unowned : owners_of held name ≡ 0) (named : new ≡ with_name held name tile) where
  abbrev names : List ℕ
  names = values_of es

  not-new : (q : ℕ) → 0 < times names q → q ≢ name
  not-new q some same = let there = (is.tiles.named q some).there in let none : length_of held q ≡ None = ap (length_of held) same ∙ absent in absurd (cc)

  new-unchanged : (q : ℕ) → 0 < times names q → Unchanged held new q
  new-unchanged q some =
      let u = put-unchanged held name tile q (not-new q some) in
      subst (λ (h : Held). Unchanged held h q) (sym named) (record { length = u.length; bytes = u.bytes })

  new-respects : Respects held new names (name ∷ names)
  new-respects = subst (λ (h : Held). Respects held h names (name ∷ names)) (sym named) (new_name-respects held names name tile unowned)

  new-owns : Owns new (name ∷ names)
  new-owns = owns-all held new names (name ∷ names) new-respects is.owned

  new-length : length_of new name ≡ Some (length tile)
  new-length = ap (λ (h : Held). length_of h name) named ∙ get_here held.lengths name (length tile)

  new-bytes : is_some new.content ≡ true → bytes_of new name ≡ Some tile
  new-bytes known =
      ap (λ (h : Held). bytes_of h name) named
      ∙ named-bytes held.content name tile (ap (λ (h : Held). is_some h.content) (sym named) ∙ known)

  new-tile : IsTileLength (length tile) → IsTileName new name
  new-tile size = record {
    len = length tile;
    there = new-length;
    size = size;
    bytes = λ known. subst (λ o. IsSomeAnd o (λ (bytes : List ℕ). length bytes ≡ length tile)) (sym (new-bytes known)) refl;
  }

  new-over : IsNodeCache es most capacity new
  new-over = node_framed_condition es most capacity held new is (new-respects).exposed new-unchanged
      (owns-fewer new (name ∷ names) names (λ q. omega arith) new-owns)

  new-one : KeepsOneOwner held new names (name ∷ names)
  new-one one = record {
    one = λ q some. ap (λ (h : Held). owners_of h q) named ∙ elim (cases_eq q name) [
      | inl same ↦ ap (λ o. unwrap_or o 0) (ap (map.get (map.insert held.owners name 1)) same ∙ get_here held.owners name 1)
      | inr ne ↦ ap (λ o. unwrap_or o 0) (get_elsewhere held.owners name 1 q ne) ∙ one.one q (omega (arith, some, times-elsewhere names name q ne))
    ];
  }

  module _ (last : Held) (first second third : Counts) (es' : Entries) (grows : Grows 1 first second)
      (given : GivesUp new last second third (name ∷ names) (values_of es')) where
    keep-others : Respects held last names (values_of es')
    keep-others = respects-both held new names (name ∷ names) new-respects last (values_of es') given.others

    keep-one : KeepsOneOwner held last names (values_of es')
    keep-one one = given.one_owner (new-one one)

    keep-names : AddsOnlyOwn held first third names (values_of es')
    keep-names one = record { names = omega (arith, grows.names, (given.other_names (new-one one)).names) }

    keep-grows : Grows 1 first third
    keep-grows = grows-both 1 0 first second third grows given.grows

    pub handed : IsHanded held last first third names (values_of es')
    handed = record { others = keep-others; one_owner = keep-one; other_names = keep-names; counts = keep-grows }

  pub named-beside : IsNamedBeside held new name tile es most capacity
  named-beside = record {
    unchanged = new-unchanged;
    respects = new-respects;
    owns = new-owns;
    len = new-length;
    bytes = new-bytes;
    named = new-tile;
    over = new-over;
  }

-- ---- the new name goes in, and another may go

module _ (k : PairKey) (name : ℕ) (es : Entries) (most capacity : ℕ) (held : Held) (is : IsNodeCache es most capacity held)
    (owns : Owns held (name ∷ values_of es)) (absent : lookup (same_key k) es ≡ None) where
  put : Entries
  put = put_entries same_key (lru_cache es most) k name

  pub put-is : put_entries same_key (lru_cache es most) k name ≡ (k, name) ∷ take (most - 1) es
  put-is = ap (λ o. option_map_or (λ (e : PairKey × ℕ). (e.0, name) ∷ remove_entry (same_key k) es) o ((k, name) ∷ take (most - 1) es)) (no-entry k es absent)

  pub gives_up-none_fallen : (counts : Counts) → slice_get es (most - 1) ≡ None
      → GivesUp held held counts counts (name ∷ values_of es) (values_of (put_entries same_key (lru_cache es most) k name))
  gives_up-none_fallen counts none =
      rw (put-is, none-fallen es (most - 1) none) (gives_up-none held counts (name ∷ values_of es))

  module _ (e : PairKey × ℕ) (at : slice_get es (most - 1) ≡ Some e) where
    few : length es ≤ suc (most - 1)
    few = omega (arith, is.fits, is.some, is.same)

    pub fallen-tile : IsTileName held e.1
    fallen-tile = is.tiles.named e.1 (omega (arith, times-fallen es (most - 1) e at few e.1, times-here (values_of (take (most - 1) es)) e.1))

    pub gives_up-fallen : (new : Held) (first last : Counts) (store store' : Option Room) → new ≡ disowned held e.1 → Grows 0 first last
        → AreCounts first held store → AreCounts last new store'
        → GivesUp held new first last (name ∷ values_of es) (values_of (put_entries same_key (lru_cache es most) k name))
    gives_up-fallen new first last store store' gone grows counts counts' =
        let rest = name ∷ values_of (take (most - 1) es) in
        let same : (q : ℕ) → times (name ∷ values_of es) q ≡ times (e.1 ∷ rest) q =
        λ q. omega (arith, times-fallen es (most - 1) e at few q) in
        rw put-is
        (gives_up-order held new first last (e.1 ∷ rest) rest (name ∷ values_of es) rest same (λ q. refl)
        (omega (arith, length-fallen es (most - 1) e at few)) refl
        (gives_up-one held e.1 fallen-tile.len rest (owns-fewer held (name ∷ values_of es) (e.1 ∷ rest) (λ q. omega (arith, same q)) owns)
        fallen-tile.there new first last store store' gone grows counts counts'))

-- ---- what a cache asks of a chain, after other names were given up

pub cache-after : (before : List ℕ) (es : Entries) (most capacity : ℕ) (old new : Held) (first last : Counts)
    → GivesUp old new first last before (values_of es) → Owns old before → AreTileNames old before → 0 < capacity → most ≡ capacity
    → IsDistinct same_key (keys_of es) → length es ≤ most → IsNodeCache es most capacity new
cache-after before es most capacity old new first last given owns are some same distinct fits = record {
  distinct = distinct;
  fits = omega (arith, fits, same);
  some = some;
  same = same;
  owned = owns-all old new before (values_of es) given.others owns;
  tiles = record {
    named = λ q here. tile_name-unchanged old new q given.others.exposed (given.unchanged q here) (are.named q (omega (arith, given.fewer q)));
  };
}

pub one-more-tile : (held : Held) (name : ℕ) (names : List ℕ) → IsTileName held name → AreTileNames held names → AreTileNames held (name ∷ names)
one-more-tile held name names tile are = record {
  named = λ q some. elim (cases_eq q name) [
    | inl same ↦ subst (IsTileName held) (sym same) tile
    | inr ne ↦ are.named q (omega (arith, some, times-elsewhere names name q ne))
  ];
}

pub displaced-is : (k : PairKey) (name : ℕ) (es : Entries) (most : ℕ) → lookup (same_key k) es ≡ None
    → displaced same_key (lru_cache es most) k name ≡ slice_get es (most - 1)
displaced-is k name es most none = ap (λ o. option_map_or (λ (old : ℕ). Some (k, old)) o (slice_get es (most - 1))) none

pub cache-empty : (most capacity : ℕ) (held : Held) → 1 ≤ capacity → most ≡ capacity → IsNodeCache [] most capacity held
unfolding IsDistinct
cache-empty most capacity held some same = record {
  distinct = tt;
  fits = omega arith;
  some = some;
  same = same;
  owned = record { counted = λ q. inr (omega arith) };
  tiles = record { named = λ q here. absurd (omega (arith, here)) };
}
