-- Rectangles that meet the same tiles, and rectangles whose hull is their union.
use Rattle.std.proofs.Common.{◌≡◌, ℕ, Bool, true, false, cond, ◌||◌, List, [], ◌∷◌, ◌++◌, filter, inl, inr, refl, sym, ap, ◌∙◌, subst, arith, append_assoc, length, Contains}
use Rattle.std.specs.Bool.{OnTrue}
use Rattle.std.specs.List.{list_any}
use Rattle.std.proofs.lemmas.List.Folds.{list_any-append}
use Rattle.plane_rect.specs.Rectangle.{Includes, Inside, Rectangle, empty, hull, is_empty, meet}
use Rattle.plane_rect.specs.Tile.{Meets, Tile, tile_square, tiles, meets}
use Rattle.plane_rect.proofs.Differences.{hull-minimum, no_positions}
use Rattle.plane_rect.proofs.Lists.{Contains-first, Contains-later}
use Rattle.plane_rect.proofs.RectangleLaws.{Includes-hull_left, Includes-hull_right}
use Rattle.plane_rect.proofs.Rectangles.{Inside-meet}
use Rattle.plane_rect.proofs.TileLists.{Inside-tile_square}
use Rattle.model_states.specs.Regions.{hull_of, tiles_of_any}
use Rattle.model_states.proofs.NeededRight.{meets_whole}
use Rattle.model_states.proofs.RightPairs.{a_position}
use Rattle.roi_planner.specs.Asked.{HullIsUnion, MeetSameTiles}
use Rattle.roi_planner.proofs.Hulls.{hull-associative, hull-left_empty, hull-right_empty, hull_of-append}

-- ---- lists that meet the same tiles

pub same-itself : (a : List Rectangle) → MeetSameTiles a a
same-itself a = record { hull = refl; tiles = λ tile. refl }

pub same-then : (a b c : List Rectangle) → MeetSameTiles a b → MeetSameTiles b c → MeetSameTiles a c
same-then a b c p q = record { hull = p.hull ∙ q.hull; tiles = λ tile. p.tiles tile ∙ q.tiles tile }

pub same-append : (a b c d : List Rectangle) → MeetSameTiles a b → MeetSameTiles c d → MeetSameTiles (a ++ c) (b ++ d)
same-append a b c d p q = record {
  hull = hull_of-append a c ∙ ap (λ r. hull r (hull_of c)) p.hull ∙ ap (hull (hull_of b)) q.hull ∙ sym (hull_of-append b d);
  tiles = λ tile.
      list_any-append (meets tile) a c
      ∙ ap (λ s. s || list_any (meets tile) c) (p.tiles tile)
      ∙ ap (λ s. list_any (meets tile) b || s) (q.tiles tile)
      ∙ sym (list_any-append (meets tile) b d);
}

filter-same : {X : Type 0} (p q : X → Bool) (xs : List X) → ((x : X) → p x ≡ q x) → filter p xs ≡ filter q xs
filter-same p q [] same = refl
filter-same p q (x ∷ xs) same =
    ap (λ s. cond s (x ∷ filter p xs) (filter p xs)) (same x) ∙ ap (λ ys. cond (q x) (x ∷ ys) ys) (filter-same p q xs same)

pub tiles-same : (a b : List Rectangle) → MeetSameTiles a b → tiles_of_any a ≡ tiles_of_any b
tiles-same a b same =
    ap (λ r. filter (λ t. list_any (meets t) a) (tiles r)) same.hull
    ∙ filter-same (λ t. list_any (meets t) a) (λ t. list_any (meets t) b) (tiles (hull_of b)) same.tiles

-- ---- two rectangles whose hull is their union

meets_inside : (tile : Tile) (r : Rectangle) (u v : ℕ) → Inside u v (tile_square tile) → Inside u v r → meets tile r ≡ true
meets_inside tile r u v here there = by (meets tile r) refl
  where
    by : (b : Bool) → meets tile r ≡ b → meets tile r ≡ true
    by true e = e
    by false e = absurd (no_positions u v (meet (tile_square tile) r) e ((Inside-meet u v (tile_square tile) r).1 (here, there)))

meets-hull : (tile : Tile) (a b : Rectangle) → HullIsUnion a b → meets tile (hull a b) ≡ (meets tile a || meets tile b)
meets-hull tile a b union = by (meets tile a) (meets tile b) (meets tile (hull a b)) refl refl refl
  where
    by : (s t h : Bool) → meets tile a ≡ s → meets tile b ≡ t → meets tile (hull a b) ≡ h → meets tile (hull a b) ≡ (s || t)
    by true t h e f g = meets_whole tile (hull a b) a (Includes-hull_left a b) e
    by false true h e f g = meets_whole tile (hull a b) b (Includes-hull_right a b) f
    by false false false e f g = g
    by false false true e f g =
        let both = meet (tile_square tile) (hull a b) in
        let u = both.first_column in
        let v = both.first_row in
        let at = (Inside-meet u v (tile_square tile) (hull a b)).0 (a_position both g) in
        elim (union u v at.1) [
          | inl left ↦ absurd (let met = meets_inside tile a u v at.0 left in cc)
          | inr right ↦ absurd (let met = meets_inside tile b u v at.0 right in cc)
        ]

or_associative : (s t : Bool) → (s || t || false) ≡ (s || (t || false))
or_associative true t = refl
or_associative false t = refl

pub same-joined : (a b : Rectangle) → HullIsUnion a b → MeetSameTiles (hull a b ∷ []) (a ∷ b ∷ [])
same-joined a b union = record {
  hull = hull-associative a b empty;
  tiles = λ tile. ap (λ s. s || false) (meets-hull tile a b union) ∙ or_associative (meets tile a) (meets tile b);
}

-- ---- which are joined

pub on-true : (b : Bool) (P : Type 0) → (b ≡ true → P) → OnTrue b P
on-true true P is = is refl
on-true false P is = tt

-- the second contains the first
pub containing-joined : (a b : Rectangle) → Includes b a → HullIsUnion a b
containing-joined a b inside u v there = inr (hull-minimum a b b inside (λ u v h. h) u v there)

-- ---- steps of adding a rectangle

-- the last of the rectangles is joined with the one that is added
pub joined-last : (before left all : List Rectangle) (last added : Rectangle) → before ≡ left ++ last ∷ [] → HullIsUnion last added → MeetSameTiles (before ++ added ∷ []) all →
    MeetSameTiles (left ++ hull last added ∷ []) all
joined-last before left all last added is union same =
    let one = same-append left left (hull last added ∷ []) (last ∷ added ∷ []) (same-itself left) (same-joined last added union) in
    let regrouped : left ++ last ∷ added ∷ [] ≡ before ++ added ∷ [] = sym (append_assoc left (last ∷ []) (added ∷ [])) ∙ ap (λ (xs : List Rectangle). xs ++ added ∷ []) (sym is) in
    same-then (left ++ hull last added ∷ []) (before ++ added ∷ []) all
    (subst (λ (xs : List Rectangle). MeetSameTiles (left ++ hull last added ∷ []) xs) regrouped one) same

-- ---- the tiles of one rectangle

filter-all : {X : Type 0} (p : X → Bool) (xs : List X) → ((x : X) → Contains xs x → p x ≡ true) → filter p xs ≡ xs
filter-all p [] all = refl
filter-all p (x ∷ xs) all =
    ap (λ s. cond s (x ∷ filter p xs) (filter p xs)) (all x (Contains-first x xs x refl))
    ∙ ap (λ ys. x ∷ ys) (filter-all p xs (λ y there. all y (Contains-later x xs y there)))

inside-first : (r : Rectangle) (u v : ℕ) → Inside u v (hull r empty) → Inside u v r
inside-first r u v there = by (is_empty r) refl
  where
    by : (s : Bool) → is_empty r ≡ s → Inside u v r
    by true e = absurd (let none = subst (Inside u v) (hull-left_empty r empty e) there in omega (arith, none.column))
    by false e = subst (Inside u v) (hull-right_empty r empty e refl) there

one-tiles : (r : Rectangle) → ((tile : Tile) → Contains (tiles (hull r empty)) tile → Meets tile (hull r empty)) → tiles_of_any (r ∷ []) ≡ tiles (hull r empty)
one-tiles r meeting =
    filter-all (λ tile. list_any (meets tile) (r ∷ [])) (tiles (hull r empty))
    (λ tile there.
    let met = meeting tile there in
    ap (λ s. s || false) (meets_inside tile r met.0 met.1 ((Inside-tile_square met.0 met.1 tile).1 met.3) (inside-first r met.0 met.1 met.2)))

pub only-tiles : (rects : List Rectangle) → length rects ≡ 1 → ((tile : Tile) → Contains (tiles (hull_of rects)) tile → Meets tile (hull_of rects)) →
    tiles (hull_of rects) ≡ tiles_of_any rects
only-tiles [] one meeting = absurd (omega (arith, one))
only-tiles (r ∷ []) one meeting = sym (one-tiles r meeting)
only-tiles (r ∷ s ∷ rects) one meeting = absurd (omega (arith, one))
