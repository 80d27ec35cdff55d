-- Lists of what a function gives for numbers in a row.
use Rattle.std.proofs.Common.{◌≡◌, ℕ, zero, suc, ◌+◌, ◌<◌, List, ◌∷◌, [], ◌++◌, map, sym, ap, ◌∙◌, arith, append_assoc}
use Rattle.std.specs.List.{range_with_len}
use Rattle.std.proofs.lemmas.List.{same_lists, append-nil}
use Rattle.std.proofs.lemmas.List.FromFn.{map-range_with_len_more, get_or-map-range_with_len, length-map-range_with_len}

pub map-range-append : (f : ℕ → ℕ) (a b : ℕ) → map f (range_with_len 0 (a + b)) ≡ map f (range_with_len 0 a) ++ map (λ i. f (a + i)) (range_with_len 0 b)
map-range-append f a zero =
    let whole : a + zero ≡ a = omega arith in
    ap (λ (n : ℕ). map f (range_with_len 0 n)) whole ∙ sym (append-nil (map f (range_with_len 0 a)))
map-range-append f a (suc b) =
    let g : ℕ → ℕ = λ i. f (a + i) in
    let all : a + suc b ≡ a + b + 1 = omega arith in
    let more : b + 1 ≡ suc b = omega arith in
    ap (λ (n : ℕ). map f (range_with_len 0 n)) all
    ∙ map-range_with_len_more f 0 (a + b) (a + b) (omega arith)
    ∙ ap (λ (xs : List ℕ). xs ++ f (a + b) ∷ []) (map-range-append f a b)
    ∙ append_assoc (map f (range_with_len 0 a)) (map g (range_with_len 0 b)) (f (a + b) ∷ [])
    ∙ ap (λ (xs : List ℕ). map f (range_with_len 0 a) ++ xs)
    (sym (map-range_with_len_more g 0 b b (omega arith)) ∙ ap (λ (n : ℕ). map g (range_with_len 0 n)) more)

pub map-range-equal : (f g : ℕ → ℕ) (n : ℕ) → ((i : ℕ) → i < n → f i ≡ g i) → map f (range_with_len 0 n) ≡ map g (range_with_len 0 n)
map-range-equal f g n same =
    same_lists _ _ (length-map-range_with_len f 0 n ∙ sym (length-map-range_with_len g 0 n))
    (λ k d h.
    let below : k < n = omega (arith, length-map-range_with_len f 0 n) in
    get_or-map-range_with_len f 0 n k k d below (omega arith) ∙ same k below ∙ sym (get_or-map-range_with_len g 0 n k k d below (omega arith)))
