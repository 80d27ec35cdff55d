-- What callers see of a cache whose tiles are in a chain, after each of its calls.
use Rattle.std.proofs.Common.{◌≡◌, ℕ, ◌<◌, true, List, [], map, length, Option, Some, None, is_some, option_map, refl, sym, ap, ap₂, subst, ◌∙◌, arith}
use Rattle.std.specs.Prelude.{Result, Ok, Err, OnOk, OnErr, IfOk, IfSome, IsSomeAnd, MatchResult}
use Rattle.std.specs.Option.{option_and_then, unwrap_or}
use Rattle.std.specs.List.{IsDistinct}
use Rattle.std.specs.Map.{keys_of, lookup, lookup_entry, values_of}
use Rattle.lru.specs.LruCache.{lru_cache, promoted, put_entries}
use Rattle.plane_rect.specs.Rectangle.{Rectangle}
use Rattle.chain_owners.specs.Counts.{Counts, Grows}
use Rattle.chain_owners.specs.Held.{Held, bytes_of, length_of}
use Rattle.chain_owners.specs.Owners.{times}
use Rattle.chain_owners.specs.Values.{Named}
use Rattle.model_states.specs.Cache.{Cached, Pair, after_keep, after_look, by_pair, find_pair, itself, voided}
use Rattle.node_cache.specs.declared.pair_key.PairKey.{PairKey}
use Rattle.node_cache.specs.Keys.{entries_left, pair_of, same_key}
use Rattle.node_cache.specs.NodeLaws.{AreUnchanged, bytes-unchanged, cached-unchanged, known-constant, sizes-unchanged}
use Rattle.node_cache.specs.NodeNames.{AreTileNames, Entries, GivesUp, IsFoundIn, cached_in, entry_bytes, entry_pair, entry_size, pairs_in, sizes_in}
use Rattle.node_cache.specs.Stores.{Finds, Sized, by_sized, cached_at, sized_at}
use Rattle.node_cache.proofs.Lists.{entry-lookup, find-made, keep-made, look-made, void-made}
use Rattle.node_cache.proofs.Owning.{gives_up-reads, length-promoted, looked-up, times-promoted}

-- ---- by what a call answers

pub on-result : {T E : Type 0} (P Q A B : Type 0) (r : Result T E) → OnOk r P → OnErr r Q → (P → A) → (Q → B) → MatchResult r (λ _. A) (λ _. B)
on-result P Q A B (Ok x) ok err a b = a ok
on-result P Q A B (Err e) ok err a b = b err

pub either : {T E : Type 0} (P Q A : Type 0) (r : Result T E) → OnOk r P → OnErr r Q → (P → A) → (Q → A) → A
either P Q A (Ok x) ok err a b = a ok
either P Q A (Err e) ok err a b = b err

pub if-ok : {T E : Type 0} (P Q : T → Type 0) (r : Result T E) → IfOk r P → ((x : T) → P x → Q x) → IfOk r Q
if-ok P Q (Ok x) ok to = to x ok
if-ok P Q (Err e) ok to = tt

-- what is made of a list that may be known
pub known-map : {X Y Z : Type 0} (o : Option X) (f : Y → Z) (y : Y) (z : Z) → z ≡ f y → option_map (λ _. z) o ≡ option_map f (option_map (λ _. y) o)
known-map None f y z is = refl
known-map (Some x) f y z is = ap (λ z. Some z) is

-- ---- what a look finds

same-some : {X Y Z : Type 0} (f : X → Y) (g : X → Z) (o : Option X) → is_some (option_map f o) ≡ is_some (option_map g o)
same-some f g None = refl
same-some f g (Some x) = refl

some-bytes : (b : Option (List ℕ)) (len : ℕ) → IsSomeAnd b (λ bytes. length bytes ≡ len) → b ≡ Some (unwrap_or b [])
some-bytes None len is = absurd is
some-bytes (Some bytes) len is = refl

module _ (k : PairKey) (es : Entries) (held : Held) (are : AreTileNames held (values_of es)) where
  size-is : (o : Option (PairKey × ℕ)) → lookup_entry (same_key k) es ≡ o → (len : ℕ)
      → IfSome (option_map (entry_size held) o) (λ sized. sized.length ≡ len)
      → IfSome (option_map (λ (e : PairKey × ℕ). e.1) o) (λ name. length_of held name ≡ Some len)
  size-is None is len sized = tt
  size-is (Some e) is len sized =
      let tile = are.named e.1 (looked-up k es e.1 (sym (entry-lookup k es) ∙ ap (option_map (λ (e : PairKey × ℕ). e.1)) is)) in
      let same : tile.len ≡ len = sym (ap (λ o. unwrap_or o 0) tile.there) ∙ sized in
      tile.there ∙ ap (λ n. Some n) same

  pub found-length : (len : ℕ) → IfSome (find_pair by_sized (sizes_in es held) (pair_of k)) (λ sized. sized.length ≡ len)
      → IfSome (lookup (same_key k) es) (λ name. length_of held name ≡ Some len)
  found-length len sized =
      subst (λ o. IfSome o (λ name. length_of held name ≡ Some len)) (entry-lookup k es)
      (size-is (lookup_entry (same_key k) es) refl len
      (subst (λ o. IfSome o (λ (s : Sized). s.length ≡ len)) (find-made by_sized (entry_size held) (λ e. refl) k es) sized))

  bytes-are : is_some held.content ≡ true → (o : Option (PairKey × ℕ)) → lookup_entry (same_key k) es ≡ o
      → option_and_then (bytes_of held) (option_map (λ (e : PairKey × ℕ). e.1) o) ≡ option_map (λ (c : Cached). c.bytes) (option_map (entry_bytes held) o)
  bytes-are known None is = refl
  bytes-are known (Some e) is =
      let tile = are.named e.1 (looked-up k es e.1 (sym (entry-lookup k es) ∙ ap (option_map (λ (e : PairKey × ℕ). e.1)) is)) in
      some-bytes (bytes_of held e.1) tile.len (tile.bytes known)

  bytes-found : (found : Option (List ℕ)) (o : Option (Named (List ℕ))) → held.content ≡ o
      → (is_some held.content ≡ true → found ≡ option_and_then (bytes_of held) (lookup (same_key k) es))
      → IfSome (option_map (λ _. map (entry_bytes held) es) o) (λ list. found ≡ option_map (λ (c : Cached). c.bytes) (find_pair by_pair list (pair_of k)))
  bytes-found found None is bytes = tt
  bytes-found found (Some content) is bytes =
      let known : is_some held.content ≡ true = ap is_some is in
      bytes known ∙ ap (option_and_then (bytes_of held)) (sym (entry-lookup k es))
      ∙ bytes-are known (lookup_entry (same_key k) es) refl
      ∙ sym (ap (option_map (λ (c : Cached). c.bytes)) (find-made by_pair (entry_bytes held) (λ e. refl) k es))

  pub finds : (len : ℕ) (found : Option (List ℕ)) → IsFoundIn held (lookup (same_key k) es) len found
      → Finds (pairs_in es) (cached_in es held) (pair_of k) len found
  finds len found is = record {
    there = is.there ∙ ap is_some (sym (entry-lookup k es))
        ∙ same-some (λ (e : PairKey × ℕ). e.1) (entry_pair {V = ℕ}) (lookup_entry (same_key k) es)
        ∙ ap is_some (sym (find-made itself (entry_pair {V = ℕ}) (λ e. refl) k es));
    length = is.length;
    bytes = bytes-found found held.content refl is.bytes;
  }

-- ---- the list after a look

module _ (k : PairKey) (es : Entries) (distinct : IsDistinct same_key (keys_of es)) where
  pub look-pairs : (es' : Entries) → es' ≡ promoted (same_key k) es → pairs_in es' ≡ after_look itself (pairs_in es) (pair_of k)
  look-pairs es' is = ap (pairs_in {V = ℕ}) is ∙ look-made itself (entry_pair {V = ℕ}) (λ e. refl) k es distinct

  module _ (held new : Held) (same : new ≡ held) where
    pub look-sizes : (es' : Entries) → es' ≡ promoted (same_key k) es → sizes_in es' new ≡ after_look by_sized (sizes_in es held) (pair_of k)
    look-sizes es' is = ap₂ sizes_in is same ∙ look-made by_sized (entry_size held) (λ e. refl) k es distinct

    pub look-cached : (es' : Entries) → es' ≡ promoted (same_key k) es
        → cached_in es' new ≡ option_map (λ list. after_look by_pair list (pair_of k)) (cached_in es held)
    look-cached es' is =
        ap₂ cached_in is same
        ∙ known-map held.content (λ list. after_look by_pair list (pair_of k)) (map (entry_bytes held) es) (map (entry_bytes held) (promoted (same_key k) es))
        (look-made by_pair (entry_bytes held) (λ e. refl) k es distinct)

    pub look-given_up : (es' : Entries) (first last : Counts) → Grows 0 first last → es' ≡ promoted (same_key k) es
        → GivesUp held new first last (values_of es) (values_of es')
    look-given_up es' first last grows is =
        gives_up-reads held new first last (values_of es) (values_of es') same grows
        (λ q. ap (λ (xs : Entries). times (values_of xs) q) is ∙ times-promoted (same_key k) es q)
        (ap (λ (xs : Entries). length (values_of xs)) is ∙ length-promoted (same_key k) es)

    pub err-given_up : (es' : Entries) (first last : Counts) → Grows 0 first last → es' ≡ es
        → GivesUp held new first last (values_of es) (values_of es')
    err-given_up es' first last grows is =
        gives_up-reads held new first last (values_of es) (values_of es') same grows
        (λ q. ap (λ (xs : Entries). times (values_of xs) q) is) (ap (λ (xs : Entries). length (values_of xs)) is)

-- ---- the list after a keep

no-value : (o : Option (PairKey × ℕ)) → option_map (entry_pair {V = ℕ}) o ≡ None → option_map (λ (e : PairKey × ℕ). e.1) o ≡ None
no-value None is = refl
no-value (Some e) is = absurd (cc)

pub no-pair : (k : PairKey) (es : Entries) → find_pair itself (pairs_in es) (pair_of k) ≡ None → lookup (same_key k) es ≡ None
no-pair k es none =
    sym (entry-lookup k es)
    ∙ no-value (lookup_entry (same_key k) es) (sym (find-made itself (entry_pair {V = ℕ}) (λ e. refl) k es) ∙ none)

module _ (k : PairKey) (name : ℕ) (tile : List ℕ) (es es' : Entries) (most capacity : ℕ) (some : 0 < capacity) (same : most ≡ capacity)
    (none : lookup (same_key k) es ≡ None) (is : es' ≡ put_entries same_key (lru_cache es most) k name) where
  keep-list : {X : Type 0} (key : X → Pair) (f : PairKey × ℕ → X) → ((e : PairKey × ℕ) → key (f e) ≡ pair_of e.0)
      → map f es' ≡ after_keep (Some capacity) (map f es) (f (k, name))
  keep-list key f keyed =
      ap (map f) is ∙ keep-made key f keyed k name es most (omega arith) none
      ∙ ap (λ (n : ℕ). after_keep (Some n) (map f es) (f (k, name))) same

  keep-pairs : pairs_in es' ≡ after_keep (Some capacity) (pairs_in es) (pair_of k)
  keep-pairs = keep-list itself (entry_pair {V = ℕ}) (λ e. refl)

  module _ (held middle new : Held) (before : AreUnchanged held middle (values_of es)) (after : AreUnchanged middle new (values_of es'))
      (there : length_of middle name ≡ Some (length tile)) (bytes : is_some middle.content ≡ true → bytes_of middle name ≡ Some tile)
      (exposed : is_some middle.content ≡ is_some held.content) (exposed' : is_some new.content ≡ is_some middle.content) where
    new-size : entry_size middle (k, name) ≡ sized_at k.node k.at (length tile)
    new-size = ap (λ o. sized_at k.node k.at (unwrap_or o 0)) there

    keep-sizes : sizes_in es' new ≡ after_keep (Some capacity) (sizes_in es held) (sized_at k.node k.at (length tile))
    keep-sizes =
        sizes-unchanged es' middle new after
        ∙ keep-list by_sized (entry_size middle) (λ e. refl)
        ∙ ap₂ (λ (list : List Sized) (x : Sized). after_keep (Some capacity) list x) (sizes-unchanged es held middle before) new-size

    new-cached : is_some middle.content ≡ true → entry_bytes middle (k, name) ≡ cached_at k.node k.at tile
    new-cached known = ap (λ o. cached_at k.node k.at (unwrap_or o [])) (bytes known)

    keep-known : (o : Option (Named (List ℕ))) → middle.content ≡ o
        → option_map (λ _. map (entry_bytes middle) es') o
        ≡ option_map (λ list. after_keep (Some capacity) list (cached_at k.node k.at tile)) (option_map (λ _. map (entry_bytes held) es) o)
    keep-known None is = refl
    keep-known (Some content) is =
        ap (λ (list : List Cached). Some list)
        (keep-list by_pair (entry_bytes middle) (λ e. refl)
        ∙ ap₂ (λ (list : List Cached) (x : Cached). after_keep (Some capacity) list x) (bytes-unchanged es held middle before) (new-cached (ap is_some is)))

    keep-cached : cached_in es' new ≡ option_map (λ list. after_keep (Some capacity) list (cached_at k.node k.at tile)) (cached_in es held)
    keep-cached =
        cached-unchanged es' middle new exposed' after
        ∙ keep-known middle.content refl
        ∙ ap (option_map (λ list. after_keep (Some capacity) list (cached_at k.node k.at tile)))
        (known-constant held.content middle.content (map (entry_bytes held) es) exposed)

-- What callers see after a keep: the pair is in front, or nothing changed.
pub record IsListKept {T E : Type 0} (r : Result T E) (k : PairKey) (tile : List ℕ) (es es' : Entries) (capacity : ℕ) (held new : Held) : Type 0 where
  pub pairs : MatchResult r (λ _. pairs_in es' ≡ after_keep (Some capacity) (pairs_in es) (pair_of k)) (λ _. pairs_in es' ≡ pairs_in es)
  pub sizes : MatchResult r (λ _. sizes_in es' new ≡ after_keep (Some capacity) (sizes_in es held) (sized_at k.node k.at (length tile)))
      (λ _. sizes_in es' new ≡ sizes_in es held)
  pub cached : MatchResult r (λ _. cached_in es' new ≡ option_map (λ list. after_keep (Some capacity) list (cached_at k.node k.at tile)) (cached_in es held))
      (λ _. cached_in es' new ≡ cached_in es held)

module _ (k : PairKey) (name : ℕ) (tile : List ℕ) (es es' : Entries) (most capacity : ℕ) (some : 0 < capacity) (same : most ≡ capacity)
    (none : lookup (same_key k) es ≡ None) (held middle new : Held) (before : AreUnchanged held middle (values_of es)) (after : AreUnchanged middle new (values_of es'))
    (there : length_of middle name ≡ Some (length tile)) (bytes : is_some middle.content ≡ true → bytes_of middle name ≡ Some tile)
    (exposed : is_some middle.content ≡ is_some held.content) (exposed' : is_some new.content ≡ is_some middle.content) where
  pub list-kept : {T E : Type 0} (P : Type 0) (r : Result T E) → OnOk r (es' ≡ put_entries same_key (lru_cache es most) k name) → OnErr r P → (P → es' ≡ es)
      → IsListKept r k tile es es' capacity held new
  list-kept P (Ok done) is left entries = record {
    pairs = keep-pairs k name tile es es' most capacity some same none is;
    sizes = keep-sizes k name tile es es' most capacity some same none is held middle new before after there bytes exposed exposed';
    cached = keep-cached k name tile es es' most capacity some same none is held middle new before after there bytes exposed exposed';
  }
  list-kept P (Err refused) is left entries = record {
    pairs = ap (pairs_in {V = ℕ}) (entries left);
    sizes = sizes-unchanged es' middle new after ∙ ap (λ (list : Entries). sizes_in list middle) (entries left) ∙ sizes-unchanged es held middle before;
    cached = cached-unchanged es' middle new exposed' after ∙ ap (λ (list : Entries). cached_in list middle) (entries left)
        ∙ cached-unchanged es held middle exposed before;
  }

-- ---- the list after a void

module _ (node : List ℕ) (rectangle : Rectangle) (es es' : Entries) (is : es' ≡ entries_left node rectangle es) where
  pub void-pairs : pairs_in es' ≡ voided itself (pairs_in es) node rectangle
  void-pairs = ap (pairs_in {V = ℕ}) is ∙ void-made itself (entry_pair {V = ℕ}) (λ e. refl) node rectangle es

  module _ (held new : Held) (exposed : is_some new.content ≡ is_some held.content) (same : AreUnchanged held new (values_of es')) where
    pub void-sizes : sizes_in es' new ≡ voided by_sized (sizes_in es held) node rectangle
    void-sizes =
        sizes-unchanged es' held new same ∙ ap (λ (xs : Entries). sizes_in xs held) is
        ∙ void-made by_sized (entry_size held) (λ e. refl) node rectangle es

    pub void-cached : cached_in es' new ≡ option_map (λ list. voided by_pair list node rectangle) (cached_in es held)
    void-cached =
        cached-unchanged es' held new exposed same
        ∙ ap (λ (xs : Entries). cached_in xs held) is
        ∙ known-map held.content (λ list. voided by_pair list node rectangle) (map (entry_bytes held) es) (map (entry_bytes held) (entries_left node rectangle es))
        (void-made by_pair (entry_bytes held) (λ e. refl) node rectangle es)
