-- The pairs that a void leaves, taken out pair by pair or tile by tile.
use Rattle.std.proofs.Common.{◌≡◌, ℕ, suc, ◌+◌, ◌-◌, ◌<◌, ◌≤◌, Bool, true, false, not, ◌&&◌, ◌||◌, List, [], ◌∷◌, ◌++◌, filter, take, drop, length, Contains, refl, sym, ap, ap₂, subst, ◌∙◌, append-nil, inl, inr, arith}
use Rattle.std.specs.Prelude.{◌↔◌}
use Rattle.std.specs.List.{IsDistinct, list_any}
use Rattle.std.specs.Map.{keys_of, remove_entry}
use Rattle.std.specs.Str.{bytes_eq}
use Rattle.plane_rect.specs.Rectangle.{Rectangle, meet}
use Rattle.plane_rect.specs.SameTile.{same_tile-laws, same_tile-true}
use Rattle.plane_rect.specs.Tile.{Meets, Tile, same_tile, tile_square, tiles, meets}
use Rattle.plane_rect.proofs.Differences.{no_positions}
use Rattle.plane_rect.proofs.Lists.{Contains-cases, Contains-first, Contains-later}
use Rattle.plane_rect.proofs.Rectangles.{Inside-meet}
use Rattle.plane_rect.proofs.TileLists.{Inside-tile_square}
use Rattle.model_states.proofs.Serves.{tiles_contain}
use Rattle.node_cache.specs.declared.pair_key.PairKey.{PairKey}
use Rattle.node_cache.specs.Keys.{entries_left, same_key}
use Rattle.node_cache.proofs.Lists.{filter-all, filter-same, filter-twice, other, removed-filter, turn-step}

-- ---- pair by pair

module _ {X : Type 0} (p : X → Bool) where
  take-length : (es : List X) → take (length es) es ≡ es
  take-length [] = refl
  take-length (e ∷ es) = ap (λ (rest : List X). e ∷ rest) (take-length es)

  drop-length : (es : List X) → drop (length es) es ≡ []
  drop-length [] = refl
  drop-length (e ∷ es) = drop-length es

  pub turns-begin : (es : List X) (n : ℕ) → n ≡ length es → es ≡ filter p (drop (n - 0) es) ++ take (n - 0) es
  turns-begin es n is =
      let whole : n - 0 ≡ length es = omega (arith, is) in
      sym (ap (λ m. filter p (drop m es) ++ take m es) whole ∙ ap₂ (λ (xs : List X) (ys : List X). filter p xs ++ ys) (drop-length es) (take-length es))

  pub turns-next : (es now then : List X) (n i : ℕ) → i < n → n ≡ length es
      → now ≡ filter p (drop (n - i) es) ++ take (n - i) es
      → ((rest : List X) (e : X) → now ≡ rest ++ e ∷ [] → then ≡ filter p (e ∷ []) ++ rest)
      → then ≡ filter p (drop (n - (i + 1)) es) ++ take (n - (i + 1)) es
  turns-next es now then n i lt is left turn =
      let more : n - i ≡ suc (n - (i + 1)) = omega arith in
      turn-step p es now then (n - (i + 1)) (omega arith) (left ∙ ap (λ m. filter p (drop m es) ++ take m es) more) turn

  pub turns-end : (es now : List X) (n i : ℕ) → n ≤ i → now ≡ filter p (drop (n - i) es) ++ take (n - i) es → now ≡ filter p es
  turns-end es now n i le left =
      let none : n - i ≡ 0 = omega arith in
      left ∙ ap (λ m. filter p (drop m es) ++ take m es) none ∙ append-nil (filter p es)

-- ---- tile by tile

both : (a s l : Bool) → (not (a && s) && not (a && l)) ≡ not (a && (s || l))
both true true l = refl
both true false l = refl
both false s l = refl

none-left : (a : Bool) → not (a && false) ≡ true
none-left true = refl
none-left false = refl

any-contains : (ts : List Tile) (u : Tile) → list_any (λ t. same_tile t u) ts ≡ true → Contains ts u
any-contains [] u is = absurd (cc)
any-contains (t ∷ ts) u is = by (same_tile t u) refl is (any-contains ts u)
  where
    by : (b : Bool) → same_tile t u ≡ b → (b || list_any (λ t. same_tile t u) ts) ≡ true
        → (list_any (λ t. same_tile t u) ts ≡ true → Contains ts u) → Contains (t ∷ ts) u
    by true same is rest = Contains-first t ts u (same_tile-true t u same)
    by false same is rest = Contains-later t ts u (rest is)

contains-any : (ts : List Tile) (u : Tile) → Contains ts u → list_any (λ t. same_tile t u) ts ≡ true
contains-any [] u is = absurd (omega (arith, is.1))
contains-any (t ∷ ts) u is = elim (Contains-cases t ts u is) [
  | inl same ↦ ap (λ b. b || list_any (λ t. same_tile t u) ts) (subst (λ (v : Tile). same_tile t v ≡ true) same (same_tile-laws.refl t))
  | inr there ↦ by (same_tile t u) (contains-any ts u there)
]
  where
    by : (b : Bool) → list_any (λ t. same_tile t u) ts ≡ true → (b || list_any (λ t. same_tile t u) ts) ≡ true
    by true rest = refl
    by false rest = rest

-- a position in both is a position of what they share
meets-from : (t : Tile) (r : Rectangle) → Meets t r → meets t r ≡ true
meets-from t r met = by (meets t r) refl
  where
    by : (b : Bool) → meets t r ≡ b → b ≡ true
    by true is = refl
    by false is = absurd (no_positions met.0 met.1 (meet (tile_square t) r) is
        ((Inside-meet met.0 met.1 (tile_square t) r).1 ((Inside-tile_square met.0 met.1 t).1 met.3, met.2)))

same-tests : (a b : Bool) → (a ≡ true → b ≡ true) → (b ≡ true → a ≡ true) → a ≡ b
same-tests true b to from = sym (to refl)
same-tests false true to from = from refl
same-tests false false to from = refl

module _ {V : Type 0} (node : List ℕ) where
  -- the entries without those of some tiles of the node
  abbrev pub by_tiles : List Tile → List (PairKey × V) → List (PairKey × V)
  by_tiles ts es = filter (λ e. not (bytes_eq node e.0.node && list_any (λ t. same_tile t e.0.at) ts)) es

  tiles-next : (t : Tile) (ts : List Tile) (es : List (PairKey × V)) → IsDistinct same_key (keys_of es)
      → by_tiles ts (remove_entry (same_key (record { node = node; at = t })) es) ≡ by_tiles (t ∷ ts) es
  tiles-next t ts es is =
      let k : PairKey = record { node = node; at = t } in
      ap (by_tiles ts) (removed-filter k es is)
      ∙ filter-twice (λ (e : PairKey × V). not (bytes_eq node e.0.node && list_any (λ t. same_tile t e.0.at) ts)) (other k)
      (λ (e : PairKey × V). not (bytes_eq node e.0.node && (same_tile t e.0.at || list_any (λ t. same_tile t e.0.at) ts)))
      (λ e. both (bytes_eq node e.0.node) (same_tile t e.0.at) (list_any (λ t. same_tile t e.0.at) ts)) es

  -- one tile more was taken out
  pub tiles-taken : (r : Rectangle) (t : Tile) (left rest : List Tile) (all now then : List (PairKey × V)) → left ≡ t ∷ rest → IsDistinct same_key (keys_of now)
      → by_tiles left now ≡ entries_left node r all → then ≡ remove_entry (same_key (record { node = node; at = t })) now → by_tiles rest then ≡ entries_left node r all
  tiles-taken r t left rest all now then steps is before taken =
      ap (by_tiles rest) taken ∙ tiles-next t rest now is ∙ ap (λ (ts : List Tile). by_tiles ts now) (sym steps) ∙ before

  tiles-end : (es : List (PairKey × V)) → by_tiles [] es ≡ es
  tiles-end es = filter-all (λ (e : PairKey × V). not (bytes_eq node e.0.node && false)) (λ e. none-left (bytes_eq node e.0.node)) es

  -- all of them were taken out
  pub tiles-out : (r : Rectangle) (left : List Tile) (all now : List (PairKey × V)) → left ≡ [] → by_tiles left now ≡ entries_left node r all → now ≡ entries_left node r all
  tiles-out r left all now none before = sym (tiles-end now) ∙ ap (λ (ts : List Tile). by_tiles ts now) (sym none) ∙ before

  -- none of them was taken out
  pub tiles-begin : (r : Rectangle) (ts given : List Tile) → given ≡ ts → ts ≡ tiles r → ((t : Tile) → Contains ts t ↔ Meets t r)
      → (es : List (PairKey × V)) → by_tiles given es ≡ entries_left node r es
  tiles-begin r ts given same are meeting es =
      ap (λ (ts : List Tile). by_tiles ts es) same ∙
      filter-same (λ (e : PairKey × V). not (bytes_eq node e.0.node && list_any (λ t. same_tile t e.0.at) ts))
      (λ (e : PairKey × V). not (bytes_eq node e.0.node && meets e.0.at r))
      (λ e. ap (λ b. not (bytes_eq node e.0.node && b)) (same-tests (list_any (λ t. same_tile t e.0.at) ts) (meets e.0.at r)
      (λ any. meets-from e.0.at r ((meeting e.0.at).0 (any-contains ts e.0.at any)))
      (λ met. contains-any ts e.0.at (subst (λ (us : List Tile). Contains us e.0.at) (sym are) (tiles_contain r e.0.at met))))) es
