-- The laws of hulls and differences.
use Rattle.std.proofs.Common.{◌≡◌, ◌≢◌, ℕ, zero, suc, ◌-◌, ◌<◌, ◌≤◌, ◌↔◌, ◌⊎◌, inl, inr, true, false, not, Bool, List, [], ◌∷◌, ◌++◌, length, take, replicate, get_or, filter, refl, ap, sym, subst, arith, if◌then◌else◌, min, max, All, AllPairs, Any}
use Rattle.std.proofs.lemmas.Bool.{cases_lt}
use Rattle.std.proofs.lemmas.Bool.Decides.{nat_tests}
use Rattle.std.proofs.lemmas.List.Elements.{All-contains, All-replicate, All-cons, All-nil, filter_passes, All-weaker}
use Rattle.std.proofs.lemmas.List.Kept.{AllPairs-cons, AllPairs-filter}
use Rattle.std.proofs.Math.Seq.{take-append_seam}
use Rattle.plane_rect.specs.Parts.{parts_of}
use Rattle.plane_rect.specs.Rectangle.{Rectangle, Inside, empty, is_empty, has_positions, spanning, end_column, end_row, Includes, AreDisjoint, meet, hull, surroundings, minus}
use Rattle.plane_rect.proofs.Lists.{AllPairs-nil, AllPairs-append}
use Rattle.plane_rect.proofs.Rectangles.{Inside-meet, Inside-spanning}

-- ---- hulls

-- what includes a rectangle with a position reaches as far to each side
pub reaches : (r a : Rectangle) → has_positions a ≡ true → Includes r a
    → (r.first_column ≤ a.first_column) × (r.first_row ≤ a.first_row) × (end_column a ≤ end_column r) × (end_row a ≤ end_row r)
reaches r a some inside =
    let wide : 0 < a.width = grind (arith, nat_tests) in
    let high : 0 < a.height = grind (arith, nat_tests) in
    let first : Inside a.first_column a.first_row r = inside a.first_column a.first_row (record { column = (omega arith, omega arith); row = (omega arith, omega arith) }) in
    let last : Inside (end_column a - 1) (end_row a - 1) r = inside (end_column a - 1) (end_row a - 1) (record { column = (omega arith, omega arith); row = (omega arith, omega arith) }) in
    (first.column.0, first.row.0, omega arith, omega arith)

pub hull-minimum : (a b r : Rectangle) → Includes r a → Includes r b → Includes r (hull a b)
hull-minimum a b r p q = cases (is_empty a) refl (is_empty b) refl
  where
    cases : (s : Bool) → s ≡ is_empty a → (t : Bool) → t ≡ is_empty b → Includes r (hull a b)
    cases true e t f = rw (← e) q
    cases false e true f = rw (← e, ← f) p
    cases false e false f =
        let x = reaches r a (ap not (sym e)) p in
        let y = reaches r b (ap not (sym f)) q in
        let within : Includes r (spanning (min a.first_column b.first_column) (min a.first_row b.first_row) (max (end_column a) (end_column b)) (max (end_row a) (end_row b))) =
        λ u v h. let s = (Inside-spanning u v (min a.first_column b.first_column) (min a.first_row b.first_row) (max (end_column a) (end_column b)) (max (end_row a) (end_row b))).0 h in
        record { column = (omega (arith, s, x, y), omega (arith, s, x, y)); row = (omega (arith, s, x, y), omega (arith, s, x, y)) } in
        rw (← e, ← f) within

-- ---- lists of rectangles as sets of positions

-- the position is in one of them
abbrev InsideOne : ℕ → ℕ → List Rectangle → Type 0
InsideOne u v [] = ⊥
InsideOne u v (r ∷ rs) = Inside u v r ⊎ InsideOne u v rs

any-from : (u v : ℕ) (rs : List Rectangle) → InsideOne u v rs → Any (Inside u v) rs
any-from u v [] h = elim h [ ]
any-from u v (r ∷ rs) (inl h) = (0, r, omega arith, refl, h)
any-from u v (r ∷ rs) (inr h) =
    let i = any-from u v rs h in (suc i.0, i.1, omega (arith, i.2), i.3, i.4)

from-any : (u v : ℕ) (rs : List Rectangle) → Any (Inside u v) rs → InsideOne u v rs
from-any u v rs h = found rs h.0 h.1 h.2 h.3 h.4
  where
    found : (rs : List Rectangle) (k : ℕ) (r : Rectangle) → k < length rs → get_or rs k r ≡ r → Inside u v r → InsideOne u v rs
    found [] k r lt e h = absurd (omega arith)
    found (q ∷ rs) zero r lt e h = inl (subst (λ (r : Rectangle). Inside u v r) (sym e) h)
    found (q ∷ rs) (suc k) r lt e h = inr (found rs k r (omega arith) e h)

pub no_positions : (u v : ℕ) (r : Rectangle) → has_positions r ≡ false → ¬ Inside u v r
no_positions u v r e h = grind (arith, nat_tests)

kept : (u v : ℕ) (rs : List Rectangle) → InsideOne u v (filter has_positions rs) ↔ InsideOne u v rs
kept u v [] = (λ h. h, λ h. h)
kept u v (r ∷ rs) = cases (has_positions r) refl (kept u v rs)
  where
    cases : (b : Bool) → has_positions r ≡ b → InsideOne u v (filter has_positions rs) ↔ InsideOne u v rs
        → InsideOne u v (filter has_positions (r ∷ rs)) ↔ InsideOne u v (r ∷ rs)
    cases true e k = rw e (λ h. elim h [ inl p ↦ inl p | inr p ↦ inr (k.0 p) ], λ h. elim h [ inl p ↦ inl p | inr p ↦ inr (k.1 p) ])
    cases false e k = rw e (λ h. inr (k.0 h), λ h. elim h [ inl p ↦ absurd (no_positions u v r e p) | inr p ↦ k.1 p ])

with_empty_ones : (u v n : ℕ) (rs : List Rectangle) → InsideOne u v (rs ++ replicate n empty) ↔ InsideOne u v rs
with_empty_ones u v zero [] = (λ h. h, λ h. h)
with_empty_ones u v (suc n) [] = (λ h. elim h [ inl p ↦ no_positions u v empty refl p | inr p ↦ (with_empty_ones u v n []).0 p ], λ h. absurd h)
with_empty_ones u v n (r ∷ rs) = (
  λ h. elim h [ inl p ↦ inl p | inr p ↦ inr ((with_empty_ones u v n rs).0 p) ],
  λ h. elim h [ inl p ↦ inl p | inr p ↦ inr ((with_empty_ones u v n rs).1 p) ],
)

around : (u v : ℕ) (a part : Rectangle) → has_positions part ≡ true → Includes a part
    → InsideOne u v (surroundings a part) ↔ (Inside u v a × ¬ Inside u v part)
around u v a part some inside = (λ h. (within h, outside h), λ h. placed h.0 h.1)
  where
    above : Inside u v (spanning a.first_column a.first_row (end_column a) part.first_row) ↔ ((a.first_column ≤ u) × (u < end_column a) × (a.first_row ≤ v) × (v < part.first_row))
    above = Inside-spanning u v a.first_column a.first_row (end_column a) part.first_row

    before : Inside u v (spanning a.first_column part.first_row part.first_column (end_row part)) ↔ ((a.first_column ≤ u) × (u < part.first_column) × (part.first_row ≤ v) × (v < end_row part))
    before = Inside-spanning u v a.first_column part.first_row part.first_column (end_row part)

    after : Inside u v (spanning (end_column part) part.first_row (end_column a) (end_row part)) ↔ ((end_column part ≤ u) × (u < end_column a) × (part.first_row ≤ v) × (v < end_row part))
    after = Inside-spanning u v (end_column part) part.first_row (end_column a) (end_row part)

    below : Inside u v (spanning a.first_column (end_row part) (end_column a) (end_row a)) ↔ ((a.first_column ≤ u) × (u < end_column a) × (end_row part ≤ v) × (v < end_row a))
    below = Inside-spanning u v a.first_column (end_row part) (end_column a) (end_row a)

    reach : (a.first_column ≤ part.first_column) × (a.first_row ≤ part.first_row) × (end_column part ≤ end_column a) × (end_row part ≤ end_row a)
    reach = reaches a part some inside

    within : InsideOne u v (surroundings a part) → Inside u v a
    within (inl p) = let s = above.0 p in record { column = (omega arith, omega arith); row = (omega arith, omega (arith, reach)) }
    within (inr (inl p)) = let s = before.0 p in record { column = (omega arith, omega (arith, reach)); row = (omega (arith, reach), omega (arith, reach)) }
    within (inr (inr (inl p))) = let s = after.0 p in record { column = (omega (arith, reach), omega arith); row = (omega (arith, reach), omega (arith, reach)) }
    within (inr (inr (inr (inl p)))) = let s = below.0 p in record { column = (omega arith, omega arith); row = (omega (arith, reach), omega arith) }
    within (inr (inr (inr (inr p)))) = absurd p

    outside : InsideOne u v (surroundings a part) → ¬ Inside u v part
    outside (inl p) q = let s = above.0 p in omega (arith, q.row)
    outside (inr (inl p)) q = let s = before.0 p in omega (arith, q.column)
    outside (inr (inr (inl p))) q = let s = after.0 p in omega (arith, q.column)
    outside (inr (inr (inr (inl p)))) q = let s = below.0 p in omega (arith, q.row)
    outside (inr (inr (inr (inr p)))) q = absurd p

    placed : Inside u v a → ¬ Inside u v part → InsideOne u v (surroundings a part)
    placed p q = elim (cases_lt v part.first_row) [
      | inl c ↦ inl (above.1 (p.column.0, p.column.1, p.row.0, c))
      | inr c ↦ elim (cases_lt v (end_row part)) [
        | inl d ↦ elim (cases_lt u part.first_column) [
          | inl e ↦ inr (inl (before.1 (p.column.0, e, c, d)))
          | inr e ↦ elim (cases_lt u (end_column part)) [
            | inl f ↦ absurd (q (record { column = (e, f); row = (c, d) }))
            | inr f ↦ inr (inr (inl (after.1 (f, p.column.1, c, d))))
          ]
        ]
        | inr d ↦ inr (inr (inr (inl (below.1 (p.column.0, p.column.1, d, p.row.1)))))
      ]
    ]

-- what meets no position of b loses none
left_over : (u v : ℕ) (a b : Rectangle) → InsideOne u v (minus a b) ↔ (Inside u v a × ¬ Inside u v b)
left_over u v a b = cases (is_empty (meet a b)) refl
  where
    both : Inside u v (meet a b) ↔ (Inside u v a × Inside u v b)
    both = Inside-meet u v a b

    cases : (e : Bool) → is_empty (meet a b) ≡ e
        → InsideOne u v (filter has_positions (if is_empty (meet a b) then a ∷ [] else surroundings a (meet a b))) ↔ (Inside u v a × ¬ Inside u v b)
    cases true e = rw e (
      λ h. elim ((kept u v (a ∷ [])).0 h) [ inl p ↦ (p, λ q. no_positions u v (meet a b) (ap not e) (both.1 (p, q))) | inr p ↦ absurd p ],
      λ h. (kept u v (a ∷ [])).1 (inl h.0),
    )
    cases false e =
        let some : has_positions (meet a b) ≡ true = ap not e in
        let inside : Includes a (meet a b) = λ x y h. ((Inside-meet x y a b).0 h).0 in
        let rest = around u v a (meet a b) some inside in
        rw e (
          λ h. let s = rest.0 ((kept u v (surroundings a (meet a b))).0 h) in (s.0, λ q. s.1 (both.1 (s.0, q))),
          λ h. (kept u v (surroundings a (meet a b))).1 (rest.1 (h.0, λ q. h.1 (both.0 q).1)),
        )

-- the positions of a difference
pub minus-positions : (u v : ℕ) (a b : Rectangle) → Any (Inside u v) (parts_of (minus a b)).parts ↔ (Inside u v a × ¬ Inside u v b)
minus-positions u v a b = (
  λ h. (left_over u v a b).0 ((with_empty_ones u v (4 - length (minus a b)) (minus a b)).0 (from-any u v (parts_of (minus a b)).parts h)),
  λ h. any-from u v (parts_of (minus a b)).parts ((with_empty_ones u v (4 - length (minus a b)) (minus a b)).1 ((left_over u v a b).1 h)),
)

-- ---- parts of a difference

-- nothing is in an empty rectangle
disjoint_from_empty : (r : Rectangle) → AreDisjoint r empty
disjoint_from_empty r u v p q = no_positions u v empty refl q

rows_apart : (first_column first_row end_column end_row first_column' first_row' end_column' end_row' : ℕ) → end_row ≤ first_row'
    → AreDisjoint (spanning first_column first_row end_column end_row) (spanning first_column' first_row' end_column' end_row')
rows_apart first_column first_row end_column end_row first_column' first_row' end_column' end_row' h u v p q =
    omega (arith, (Inside-spanning u v first_column first_row end_column end_row).0 p, (Inside-spanning u v first_column' first_row' end_column' end_row').0 q)

columns_apart : (first_column first_row end_column end_row first_column' first_row' end_column' end_row' : ℕ) → end_column ≤ first_column'
    → AreDisjoint (spanning first_column first_row end_column end_row) (spanning first_column' first_row' end_column' end_row')
columns_apart first_column first_row end_column end_row first_column' first_row' end_column' end_row' h u v p q =
    omega (arith, (Inside-spanning u v first_column first_row end_column end_row).0 p, (Inside-spanning u v first_column' first_row' end_column' end_row').0 q)

surroundings-disjoint : (a part : Rectangle) → AllPairs AreDisjoint (surroundings a part)
surroundings-disjoint a part =
    let above : Rectangle = spanning a.first_column a.first_row (end_column a) part.first_row in
    let before : Rectangle = spanning a.first_column part.first_row part.first_column (end_row part) in
    let after : Rectangle = spanning (end_column part) part.first_row (end_column a) (end_row part) in
    let below : Rectangle = spanning a.first_column (end_row part) (end_column a) (end_row a) in
    AllPairs-cons AreDisjoint above (before ∷ after ∷ below ∷ [])
    (All-cons (AreDisjoint above) before (after ∷ below ∷ []) (rows_apart a.first_column a.first_row (end_column a) part.first_row a.first_column part.first_row part.first_column (end_row part) (omega arith))
    (All-cons (AreDisjoint above) after (below ∷ []) (rows_apart a.first_column a.first_row (end_column a) part.first_row (end_column part) part.first_row (end_column a) (end_row part) (omega arith))
    (All-cons (AreDisjoint above) below [] (rows_apart a.first_column a.first_row (end_column a) part.first_row a.first_column (end_row part) (end_column a) (end_row a) (omega arith)) (All-nil (AreDisjoint above)))))
    (AllPairs-cons AreDisjoint before (after ∷ below ∷ [])
    (All-cons (AreDisjoint before) after (below ∷ []) (columns_apart a.first_column part.first_row part.first_column (end_row part) (end_column part) part.first_row (end_column a) (end_row part) (omega arith))
    (All-cons (AreDisjoint before) below [] (rows_apart a.first_column part.first_row part.first_column (end_row part) a.first_column (end_row part) (end_column a) (end_row a) (omega arith)) (All-nil (AreDisjoint before))))
    (AllPairs-cons AreDisjoint after (below ∷ [])
    (All-cons (AreDisjoint after) below [] (rows_apart (end_column part) part.first_row (end_column a) (end_row part) a.first_column (end_row part) (end_column a) (end_row a) (omega arith)) (All-nil (AreDisjoint after)))
    (AllPairs-cons AreDisjoint below [] (All-nil (AreDisjoint below)) (AllPairs-nil AreDisjoint))))

minus-disjoint : (a b : Rectangle) → AllPairs AreDisjoint (minus a b)
minus-disjoint a b = cases (is_empty (meet a b)) refl
  where
    cases : (e : Bool) → is_empty (meet a b) ≡ e
        → AllPairs AreDisjoint (filter has_positions (if is_empty (meet a b) then a ∷ [] else surroundings a (meet a b)))
    cases true e = rw e (AllPairs-filter AreDisjoint has_positions (a ∷ []) (AllPairs-cons AreDisjoint a [] (All-nil (AreDisjoint a)) (AllPairs-nil AreDisjoint)))
    cases false e = rw e (AllPairs-filter AreDisjoint has_positions (surroundings a (meet a b)) (surroundings-disjoint a (meet a b)))

all_empty-disjoint : (n : ℕ) → AllPairs AreDisjoint (replicate n empty)
all_empty-disjoint zero = AllPairs-nil AreDisjoint
all_empty-disjoint (suc n) =
    AllPairs-cons AreDisjoint empty (replicate n empty)
    (All-replicate (AreDisjoint empty) n empty (disjoint_from_empty empty))
    (all_empty-disjoint n)

pub parts-disjoint : (a b : Rectangle) → AllPairs AreDisjoint (parts_of (minus a b)).parts
parts-disjoint a b =
    AllPairs-append AreDisjoint (minus a b) (replicate (4 - length (minus a b)) empty)
    (minus-disjoint a b)
    (all_empty-disjoint (4 - length (minus a b)))
    (λ p q _ in_empty_ones. All-contains (λ r. AreDisjoint p r) (replicate (4 - length (minus a b)) empty) q
    (All-replicate (λ r. AreDisjoint p r) (4 - length (minus a b)) empty (disjoint_from_empty p)) in_empty_ones)

pub parts-some : (a b : Rectangle) → All (λ part. part ≢ empty) (take (length (minus a b)) (parts_of (minus a b)).parts)
parts-some a b =
    rw (take-append_seam (minus a b) (replicate (4 - length (minus a b)) empty))
    (All-weaker (λ part. has_positions part ≡ true) (λ part. part ≢ empty) (λ part h e. cc (rw e at h)) (minus a b)
    (filter_passes has_positions (if is_empty (meet a b) then a ∷ [] else surroundings a (meet a b))))
