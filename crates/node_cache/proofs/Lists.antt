-- Lists of entries, and of what is made of them.
use Rattle.std.proofs.Common.{◌≡◌, ℕ, zero, suc, ◌-◌, ◌<◌, ◌≤◌, Bool, true, false, not, ◌&&◌, List, [], ◌∷◌, ◌++◌, map, filter, take, drop, length, Option, Some, None, option_map, refl, sym, ap, ap₂, subst, ◌∙◌, cond, append_assoc, arith}
use Rattle.std.specs.Prelude.{is_some, slice_get}
use Rattle.std.specs.List.{AllByRecursion, IsDistinct}
use Rattle.std.specs.Map.{keys_of, lookup, lookup_entry, remove_entry}
use Rattle.std.specs.Option.{option_map_or}
use Rattle.std.specs.Str.{bytes_eq}
use Rattle.std.proofs.lemmas.List.{take-map}
use Rattle.std.proofs.lemmas.List.Elements.{filter-append}
use Rattle.lru.specs.LruCache.{lru_cache, promoted, put_entries}
use Rattle.plane_rect.specs.Rectangle.{Rectangle}
use Rattle.model_states.specs.Cache.{Pair, after_keep, after_look, find_pair, itself, same_pair, to_prefix, voided, without_pair}
use Rattle.plane_rect.specs.Tile.{meets}
use Rattle.model_states.proofs.CacheLaws.{same_pair-true}
use Rattle.model_states.proofs.NeedLaws.{Decides-same_pair}
use Rattle.node_cache.specs.declared.pair_key.PairKey.{PairKey}
use Rattle.node_cache.specs.Keys.{entries_left, is_voided, pair_of, same_key}
use Rattle.node_cache.specs.NodeNames.{entry_pair, pairs_in}

-- ---- filters

module _ {X Y : Type 0} where
  pub filter-map : (f : X → Y) (p : Y → Bool) (q : X → Bool) → ((x : X) → p (f x) ≡ q x) → (xs : List X) → filter p (map f xs) ≡ map f (filter q xs)
  filter-map f p q same [] = refl
  filter-map f p q same (x ∷ xs) =
      ap₂ (λ b (ys : List Y). cond b (f x ∷ ys) ys) (same x) (filter-map f p q same xs) ∙ by (q x)
    where
      by : (b : Bool) → cond b (f x ∷ map f (filter q xs)) (map f (filter q xs)) ≡ map f (cond b (x ∷ filter q xs) (filter q xs))
      by true = refl
      by false = refl

module _ {X : Type 0} where
  pub filter-same : (p q : X → Bool) → ((x : X) → p x ≡ q x) → (xs : List X) → filter p xs ≡ filter q xs
  filter-same p q same [] = refl
  filter-same p q same (x ∷ xs) = ap₂ (λ b (ys : List X). cond b (x ∷ ys) ys) (same x) (filter-same p q same xs)

  pub filter-twice : (p q r : X → Bool) → ((x : X) → (q x && p x) ≡ r x) → (xs : List X) → filter p (filter q xs) ≡ filter r xs
  filter-twice p q r same [] = refl
  filter-twice p q r same (x ∷ xs) = by (q x) refl ∙ ap₂ (λ b (ys : List X). cond b (x ∷ ys) ys) (same x) (filter-twice p q r same xs)
    where
      inner : (b : Bool) → cond b (x ∷ filter p (filter q xs)) (filter p (filter q xs)) ≡ cond (true && b) (x ∷ filter p (filter q xs)) (filter p (filter q xs))
      inner true = refl
      inner false = refl

      by : (b : Bool) → q x ≡ b → filter p (cond b (x ∷ filter q xs) (filter q xs)) ≡ cond (q x && p x) (x ∷ filter p (filter q xs)) (filter p (filter q xs))
      by true is = inner (p x) ∙ ap (λ b. cond (b && p x) (x ∷ filter p (filter q xs)) (filter p (filter q xs))) (sym is)
      by false is = ap (λ b. cond (b && p x) (x ∷ filter p (filter q xs)) (filter p (filter q xs))) (sym is)

  pub filter-all : (p : X → Bool) → ((x : X) → p x ≡ true) → (xs : List X) → filter p xs ≡ xs
  filter-all p all [] = refl
  filter-all p all (x ∷ xs) = ap₂ (λ b (ys : List X). cond b (x ∷ ys) ys) (all x) (filter-all p all xs)

-- ---- keys

-- a test against a key knows its pair alone
pub same_key-of : (a b c : PairKey) → same_key a b ≡ true → same_key a c ≡ same_key b c
same_key-of a b c same = ap (λ (p : Pair). same_pair p (pair_of c)) (same_pair-true (pair_of a) (pair_of b) same)

module _ {V : Type 0} (k : PairKey) where
  abbrev pub other : PairKey × V → Bool
  other e = not (same_key k e.0)

  none-gone : (e : PairKey) (es : List (PairKey × V)) → same_key k e ≡ true → AllByRecursion (λ b. same_key e b ≡ false) (keys_of es) → filter other es ≡ es
  none-gone e [] same all = refl
  none-gone e (x ∷ es) same all =
      ap₂ (λ b (ys : List (PairKey × V)). cond (not b) (x ∷ ys) ys) (same_key-of k e x.0 same ∙ all.0) (none-gone e es same all.1)

  -- of distinct keys, one is equal at most
  pub removed-filter : (es : List (PairKey × V)) → IsDistinct same_key (keys_of es) → remove_entry (same_key k) es ≡ filter other es
  unfolding IsDistinct
  removed-filter [] is = refl
  removed-filter (e ∷ es) is = by (same_key k e.0) refl (removed-filter es is.1)
    where
      by : (b : Bool) → same_key k e.0 ≡ b → remove_entry (same_key k) es ≡ filter other es
          → cond b es (e ∷ remove_entry (same_key k) es) ≡ cond (not b) (e ∷ filter other es) (filter other es)
      by true same rest = sym (none-gone e.0 es same is.0)
      by false same rest = ap (λ (rest : List (PairKey × V)). e ∷ rest) rest

  pub entry-lookup : (es : List (PairKey × V)) → option_map (λ (e : PairKey × V). e.1) (lookup_entry (same_key k) es) ≡ lookup (same_key k) es
  entry-lookup [] = refl
  entry-lookup (e ∷ es) = by (same_key k e.0) (entry-lookup es)
    where
      by : (b : Bool) → option_map (λ (e : PairKey × V). e.1) (lookup_entry (same_key k) es) ≡ lookup (same_key k) es
          → option_map (λ (e : PairKey × V). e.1) (cond b (Some e) (lookup_entry (same_key k) es)) ≡ cond b (Some e.1) (lookup (same_key k) es)
      by true rest = refl
      by false rest = rest

  none-entry : (o : Option (PairKey × V)) → option_map (λ (e : PairKey × V). e.1) o ≡ None → o ≡ None
  none-entry None is = refl
  none-entry (Some e) is = absurd (cc)

  pub no-entry : (es : List (PairKey × V)) → lookup (same_key k) es ≡ None → lookup_entry (same_key k) es ≡ None
  no-entry es none = none-entry (lookup_entry (same_key k) es) (entry-lookup es ∙ none)

  pub promoted-none : (es : List (PairKey × V)) → lookup (same_key k) es ≡ None → promoted (same_key k) es ≡ es
  promoted-none es none = ap (λ o. option_map_or (λ (e : PairKey × V). e ∷ remove_entry (same_key k) es) o es) (no-entry es none)

  pub removed-none : (es : List (PairKey × V)) → lookup (same_key k) es ≡ None → remove_entry (same_key k) es ≡ es
  removed-none [] none = refl
  removed-none (e ∷ es) none = by (same_key k e.0) none (removed-none es)
    where
      by : (b : Bool) → cond b (Some e.1) (lookup (same_key k) es) ≡ None → (lookup (same_key k) es ≡ None → remove_entry (same_key k) es ≡ es)
          → cond b es (e ∷ remove_entry (same_key k) es) ≡ e ∷ es
      by true none rest = absurd (cc)
      by false none rest = ap (λ (rest : List (PairKey × V)). e ∷ rest) (rest none)

-- ---- what is made of entries, each by its key

module _ {V X : Type 0} (key : X → Pair) (f : PairKey × V → X) (keyed : (e : PairKey × V) → key (f e) ≡ pair_of e.0) where
  pub find-made : (k : PairKey) (es : List (PairKey × V)) → find_pair key (map f es) (pair_of k) ≡ option_map f (lookup_entry (same_key k) es)
  find-made k [] = refl
  find-made k (e ∷ es) =
      ap₂ (λ (p : Pair) o. cond (same_pair (pair_of k) p) (Some (f e)) o) (keyed e) (find-made k es) ∙ by (same_key k e.0)
    where
      by : (b : Bool) → cond b (Some (f e)) (option_map f (lookup_entry (same_key k) es)) ≡ option_map f (cond b (Some e) (lookup_entry (same_key k) es))
      by true = refl
      by false = refl

  without-made : (k : PairKey) (es : List (PairKey × V)) → IsDistinct same_key (keys_of es)
      → map f (remove_entry (same_key k) es) ≡ without_pair key (map f es) (pair_of k)
  without-made k es is =
      ap (map f) (removed-filter k es is)
      ∙ sym (filter-map f (λ x. not (same_pair (pair_of k) (key x))) (other k) (λ e. ap (λ (p : Pair). not (same_pair (pair_of k) p)) (keyed e)) es)

  pub look-made : (k : PairKey) (es : List (PairKey × V)) → IsDistinct same_key (keys_of es)
      → map f (promoted (same_key k) es) ≡ after_look key (map f es) (pair_of k)
  look-made k es is =
      by (lookup_entry (same_key k) es) ∙ sym (ap (to_prefix key (map f es) (pair_of k)) (find-made k es))
    where
      by : (o : Option (PairKey × V)) → map f (option_map_or (λ e. e ∷ remove_entry (same_key k) es) o es) ≡ to_prefix key (map f es) (pair_of k) (option_map f o)
      by None = refl
      by (Some e) = ap (λ (rest : List X). f e ∷ rest) (without-made k es is)

  pub keep-made : (k : PairKey) (v : V) (es : List (PairKey × V)) (capacity : ℕ) → 0 < capacity → lookup (same_key k) es ≡ None
      → map f (put_entries same_key (lru_cache es capacity) k v) ≡ after_keep (Some capacity) (map f es) (f (k, v))
  keep-made k v es zero some none = absurd (omega arith)
  keep-made k v es (suc n) some none =
      ap (λ o. map f (option_map_or (λ (e : PairKey × V). (e.0, v) ∷ remove_entry (same_key k) es) o ((k, v) ∷ take (suc n - 1) es))) (no-entry k es none)
      ∙ ap (λ (m : ℕ). f (k, v) ∷ map f (take m es)) (let one : suc n - 1 ≡ n = omega arith in one)
      ∙ ap (λ (rest : List X). f (k, v) ∷ rest) (sym (take-map f n es))

  pub void-made : (node : List ℕ) (rectangle : Rectangle) (es : List (PairKey × V))
      → map f (filter (λ e. not (bytes_eq node e.0.node && meets e.0.at rectangle)) es) ≡ voided key (map f es) node rectangle
  void-made node rectangle es =
      sym (filter-map f (λ x. not (bytes_eq node (key x).node && meets (key x).tile rectangle))
      (λ e. not (bytes_eq node e.0.node && meets e.0.at rectangle))
      (λ e. ap (λ (p : Pair). not (bytes_eq node p.node && meets p.tile rectangle)) (keyed e)) es)

-- ---- the last of a list

module _ {X : Type 0} where
  some-length : (rest : List X) (e : X) → 0 < length (rest ++ e ∷ [])
  some-length [] e = omega arith
  some-length (x ∷ rest) e = omega arith

  pub last-of : (rest : List X) (e : X) → slice_get (rest ++ e ∷ []) (length (rest ++ e ∷ []) - 1) ≡ Some e
  last-of [] e = refl
  last-of (x ∷ rest) e =
      let some = some-length rest e in
      let one : length (x ∷ rest ++ e ∷ []) - 1 ≡ suc (length (rest ++ e ∷ []) - 1) = omega (arith, some) in
      ap (slice_get (x ∷ (rest ++ e ∷ []))) one ∙ last-of rest e

  pub split-at : (es : List X) (m : ℕ) → suc m ≤ length es
      → (x : X) × (take (suc m) es ≡ take m es ++ x ∷ []) × (drop m es ≡ x ∷ drop (suc m) es)
  split-at [] m le = absurd (omega (arith, le))
  split-at (x ∷ es) zero le = (x, refl, refl)
  split-at (x ∷ es) (suc m) le =
      let rest = split-at es m (omega (arith, le)) in
      (rest.0, ap (λ (ys : List X). x ∷ ys) rest.1, rest.2)

  -- a list whose last element goes to the front where it passes, or leaves it, until each has
  pub turn-step : (p : X → Bool) (es now then : List X) (m : ℕ) → suc m ≤ length es
      → now ≡ filter p (drop (suc m) es) ++ take (suc m) es
      → ((rest : List X) (e : X) → now ≡ rest ++ e ∷ [] → then ≡ filter p (e ∷ []) ++ rest)
      → then ≡ filter p (drop m es) ++ take m es
  turn-step p es now then m le is turn =
      let at = split-at es m le in
      let front = filter p (drop (suc m) es) in
      let whole : now ≡ (front ++ take m es) ++ at.0 ∷ [] =
      is ∙ ap (λ (ys : List X). front ++ ys) at.1 ∙ sym (append_assoc front (take m es) (at.0 ∷ [])) in
      turn (front ++ take m es) at.0 whole
      ∙ sym (append_assoc (filter p (at.0 ∷ [])) front (take m es))
      ∙ ap (λ (ys : List X). ys ++ take m es) (sym (filter-append p (at.0 ∷ []) (drop (suc m) es)))
      ∙ ap (λ (ys : List X). filter p ys ++ take m es) (sym at.2)

-- ---- the last of distinct keys

same_key-refl : (k : PairKey) → same_key k k ≡ true
same_key-refl k = (Decides-same_pair (pair_of k) (pair_of k)).1 refl

other-way : (a b : PairKey) → same_key a b ≡ false → same_key b a ≡ false
other-way a b apart = by (same_key b a) refl
  where
    by : (c : Bool) → same_key b a ≡ c → c ≡ false
    by false is = refl
    by true is =
        absurd (let same : same_key a b ≡ true = (Decides-same_pair (pair_of a) (pair_of b)).1 (sym (same_pair-true (pair_of b) (pair_of a) is)) in cc)

-- a key is the last one, and the others are other keys
record IsLastPair (k : PairKey) (others : List PairKey) (last : PairKey) : Type 0 where
  key : last ≡ k
  apart : AllByRecursion (λ b. same_key last b ≡ false) others

module _ {V : Type 0} where
  all-last : (P : PairKey → Type 0) (rest : List (PairKey × V)) (e : PairKey × V) → AllByRecursion P (keys_of (rest ++ e ∷ [])) → P e.0
  all-last P [] e all = all.0
  all-last P (x ∷ rest) e all = all-last P rest e all.1

  pub last-apart : (rest : List (PairKey × V)) (e : PairKey × V) → IsDistinct same_key (keys_of (rest ++ e ∷ []))
      → AllByRecursion (λ b. same_key e.0 b ≡ false) (keys_of rest)
  unfolding IsDistinct
  last-apart [] e is = tt
  last-apart (x ∷ rest) e is =
      (other-way x.0 e.0 (all-last (λ b. same_key x.0 b ≡ false) rest e is.0), last-apart rest e is.1)

  pub removed-last : (rest : List (PairKey × V)) (e : PairKey × V) → AllByRecursion (λ b. same_key e.0 b ≡ false) (keys_of rest)
      → remove_entry (same_key e.0) (rest ++ e ∷ []) ≡ rest
  removed-last [] e all = ap (λ b. cond b [] (e ∷ [])) (same_key-refl e.0)
  removed-last (x ∷ rest) e all =
      ap (λ b. cond b (rest ++ e ∷ []) (x ∷ remove_entry (same_key e.0) (rest ++ e ∷ []))) all.0
      ∙ ap (λ (ys : List (PairKey × V)). x ∷ ys) (removed-last rest e all.1)

  entry-last : (rest : List (PairKey × V)) (e : PairKey × V) → AllByRecursion (λ b. same_key e.0 b ≡ false) (keys_of rest)
      → lookup_entry (same_key e.0) (rest ++ e ∷ []) ≡ Some e
  entry-last [] e all = ap (λ b. cond b (Some e) None) (same_key-refl e.0)
  entry-last (x ∷ rest) e all =
      ap (λ b. cond b (Some x) (lookup_entry (same_key e.0) (rest ++ e ∷ []))) all.0 ∙ entry-last rest e all.1

  pub promoted-last : (rest : List (PairKey × V)) (e : PairKey × V) → AllByRecursion (λ b. same_key e.0 b ≡ false) (keys_of rest)
      → promoted (same_key e.0) (rest ++ e ∷ []) ≡ e ∷ rest
  promoted-last rest e all =
      ap (λ o. option_map_or (λ (f : PairKey × V). f ∷ remove_entry (same_key e.0) (rest ++ e ∷ [])) o (rest ++ e ∷ [])) (entry-last rest e all)
      ∙ ap (λ (ys : List (PairKey × V)). e ∷ ys) (removed-last rest e all)

  -- the last pair of a list of pairs with other keys
  last-pair : (es : List (PairKey × V)) (k : PairKey) (v : V) → IsDistinct same_key (keys_of es) → slice_get es (length es - 1) ≡ Some (k, v)
      → (rest : List (PairKey × V)) (e : PairKey × V) → es ≡ rest ++ e ∷ [] → IsLastPair k (keys_of rest) e.0
  last-pair es k v is last rest e whole =
      let found : slice_get (rest ++ e ∷ []) (length (rest ++ e ∷ []) - 1) ≡ Some (k, v) = subst (λ (ys : List (PairKey × V)). slice_get ys (length ys - 1) ≡ Some (k, v)) whole last in
      let end = last-of rest e in
      let same : e ≡ (k, v) = cc in
      record {
        key = ap (λ (x : PairKey × V). x.0) same;
        apart = last-apart rest e (subst (λ (ys : List (PairKey × V)). IsDistinct same_key (keys_of ys)) whole is);
      }

  -- what a void does with the key of the last pair, it does with the list's last pair
  turned : (node : List ℕ) (rectangle : Rectangle) (es : List (PairKey × V)) (k : PairKey) (v : V) (gone : Bool)
      → (done : PairKey → List (PairKey × V) → List (PairKey × V))
      → ((rest : List (PairKey × V)) (e : PairKey × V) → AllByRecursion (λ b. same_key e.0 b ≡ false) (keys_of rest)
      → done e.0 (rest ++ e ∷ []) ≡ cond (not gone) (e ∷ []) [] ++ rest)
      → IsDistinct same_key (keys_of es) → slice_get es (length es - 1) ≡ Some (k, v) → is_voided node rectangle k ≡ gone
      → (rest : List (PairKey × V)) (e : PairKey × V) → es ≡ rest ++ e ∷ [] → done k es ≡ entries_left node rectangle (e ∷ []) ++ rest
  turned node rectangle es k v gone done last_done is last voided rest e whole =
      let at = last-pair es k v is last rest e whole in
      ap (λ (j : PairKey). done j es) (sym at.key) ∙ ap (done e.0) whole ∙ last_done rest e at.apart
      ∙ ap (λ b. cond (not b) (e ∷ []) [] ++ rest) (sym (ap (is_voided node rectangle) at.key ∙ voided))

  -- a void takes the last pair out, or it goes to the front
  pub turned-out : (node : List ℕ) (rectangle : Rectangle) (es : List (PairKey × V)) (k : PairKey) (v : V)
      → IsDistinct same_key (keys_of es) → slice_get es (length es - 1) ≡ Some (k, v) → is_voided node rectangle k ≡ true
      → (rest : List (PairKey × V)) (e : PairKey × V) → es ≡ rest ++ e ∷ []
      → remove_entry (same_key k) es ≡ entries_left node rectangle (e ∷ []) ++ rest
  turned-out node rectangle es k v = turned node rectangle es k v true (λ j. remove_entry (same_key j)) removed-last

  pub turned-front : (node : List ℕ) (rectangle : Rectangle) (es : List (PairKey × V)) (k : PairKey) (v : V)
      → IsDistinct same_key (keys_of es) → slice_get es (length es - 1) ≡ Some (k, v) → is_voided node rectangle k ≡ false
      → (rest : List (PairKey × V)) (e : PairKey × V) → es ≡ rest ++ e ∷ []
      → promoted (same_key k) es ≡ entries_left node rectangle (e ∷ []) ++ rest
  turned-front node rectangle es k v = turned node rectangle es k v false (λ j. promoted (same_key j)) promoted-last

  pub none-last : (es : List (PairKey × V)) → slice_get es (length es - 1) ≡ None → (rest : List (PairKey × V)) (e : PairKey × V)
      → es ≡ rest ++ e ∷ [] → ⊥
  none-last es none rest e whole =
      let found : slice_get (rest ++ e ∷ []) (length (rest ++ e ∷ []) - 1) ≡ None = subst (λ (ys : List (PairKey × V)). slice_get ys (length ys - 1) ≡ None) whole none in
      let end = last-of rest e in
      let wrong : None ≡ Some e = sym found ∙ end in
      cc

-- ---- whether a pair is there

module _ {V : Type 0} where
  same-there : (o : Option (PairKey × V)) → is_some (option_map (λ (e : PairKey × V). e.1) o) ≡ is_some (option_map (entry_pair {V = V}) o)
  same-there None = refl
  same-there (Some e) = refl

  pub key-there : (k : PairKey) (es : List (PairKey × V)) → is_some (lookup (same_key k) es) ≡ is_some (find_pair itself (pairs_in {V = V} es) (pair_of k))
  key-there k es =
      ap is_some (sym (entry-lookup k es)) ∙ same-there (lookup_entry (same_key k) es)
      ∙ ap is_some (sym (find-made itself (entry_pair {V = V}) (λ e. refl) k es))
