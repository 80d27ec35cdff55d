-- How the parts of a difference are gathered.
use Rattle.std.proofs.Common.{◌≡◌, ℕ, suc, ◌+◌, ◌-◌, ◌<◌, ◌≤◌, true, false, not, List, [], ◌∷◌, ◌++◌, length, take, set, replicate, get_or, filter, refl, sym, ◌∙◌, subst, Bool, arith, length-append, append_assoc}
use Rattle.std.proofs.lemmas.List.{length-take, append-nil}
use Rattle.std.proofs.Math.Seq.{set-append_seam}
use Rattle.std.proofs.lemmas.List.Elements.{filter_more}
use Rattle.std.proofs.lemmas.List.Filters.{length-filter_both}
use Rattle.plane_rect.specs.declared.sets.Parts.{Parts}
use Rattle.plane_rect.specs.Parts.{parts_of}
use Rattle.plane_rect.specs.Rectangle.{Rectangle, empty, has_positions, is_empty}

-- one more part
parts_of-push : (ys : List Rectangle) (r : Rectangle) (n : ℕ) → 4 - length ys ≡ suc n
    → parts_of (ys ++ r ∷ [])
    ≡ record { count = length ys + 1; parts = set (ys ++ replicate (4 - length ys) empty) (length ys) r }
parts_of-push ys r n e =
    let long : length (ys ++ r ∷ []) ≡ length ys + 1 = length-append ys (r ∷ []) in
    let fewer : 4 - (length ys + 1) ≡ n = omega arith in
    let P : ℕ → ℕ → Type 0 = λ k m. ◌≡◌ {A = Parts}
    (record { count = k; parts = (ys ++ r ∷ []) ++ replicate (4 - k) empty })
    (record { count = length ys + 1; parts = set (ys ++ replicate m empty) (length ys) r }) in
    subst (λ (k : ℕ). P k (4 - length ys)) (sym long)
    (subst (λ (m : ℕ). P (length ys + 1) m) (sym e)
    (rw (fewer, set-append_seam ys empty (replicate n empty) r, append_assoc) refl))

-- so many are no more than were looked at
pub length-gathered : (xs : List Rectangle) (i : ℕ) → length (filter has_positions (take i xs)) ≤ i
length-gathered xs i = omega (arith, length-filter_both has_positions is_empty (λ r. twice (is_empty r)) (take i xs), length-take i xs)
  where
    twice : (b : Bool) → b ≡ not (not b)
    twice true = refl
    twice false = refl

-- a step of the loop that gathers
pub gathered_more : (xs : List Rectangle) (i : ℕ) (d : Rectangle) → length xs ≡ 4 → i < 4 → is_empty (get_or xs i d) ≡ false
    → ◌≡◌ {A = Parts} (parts_of (filter has_positions (take (i + 1) xs)))
    (record {
      count = (parts_of (filter has_positions (take i xs))).count + 1;
      parts = set (parts_of (filter has_positions (take i xs))).parts (parts_of (filter has_positions (take i xs))).count (get_or xs i d);
    })
gathered_more xs i d long below some =
    let more : filter has_positions (take (i + 1) xs) ≡ filter has_positions (take i xs) ++ get_or xs i d ∷ [] =
    filter_more has_positions xs i d (omega arith) ∙ rw some refl in
    let few : length (filter has_positions (take i xs)) ≤ i = length-gathered xs i in
    rw more (parts_of-push (filter has_positions (take i xs)) (get_or xs i d) (3 - length (filter has_positions (take i xs))) (omega arith))

pub gathered_same : (xs : List Rectangle) (i : ℕ) (d : Rectangle) → length xs ≡ 4 → i < 4 → is_empty (get_or xs i d) ≡ true
    → filter has_positions (take (i + 1) xs) ≡ filter has_positions (take i xs)
gathered_same xs i d long below none =
    filter_more has_positions xs i d (omega arith) ∙ rw none (append-nil (filter has_positions (take i xs)))
