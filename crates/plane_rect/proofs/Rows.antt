-- Rows one after another.
use Rattle.std.proofs.Common.{◌≡◌, ℕ, suc, ◌+◌, ◌-◌, ◌<◌, List, [], ◌∷◌, ◌++◌, map, refl, sym, ap, ◌∙◌, append_assoc, arith}
use Rattle.std.specs.List.{range_with_len}
use Rattle.plane_rect.specs.Rectangle.{Rectangle}

range_with_len-cons : (first end : ℕ) → first < end
    → range_with_len first (end - first) ≡ first ∷ range_with_len (first + 1) (end - (first + 1))
range_with_len-cons first end some =
    let left : end - first ≡ suc (end - (first + 1)) = omega arith in
    rw left refl

-- what is done of some rows, and what is left, with one row more
pub rows_more : {all : List Rectangle} (f : ℕ → Rectangle) (done next : List Rectangle) (row end : ℕ) (x : Rectangle)
    → row < end → x ≡ f row → next ≡ done ++ x ∷ []
    → done ++ map f (range_with_len row (end - row)) ≡ all
    → next ++ map f (range_with_len (row + 1) (end - (row + 1))) ≡ all
rows_more f done next row end x some is pushed before =
    let rest = map f (range_with_len (row + 1) (end - (row + 1))) in
    ap (λ (xs : List Rectangle). xs ++ rest) pushed
    ∙ append_assoc done (x ∷ []) rest
    ∙ ap (λ (y : Rectangle). done ++ y ∷ rest) is
    ∙ ap (λ (rows : List ℕ). done ++ map f rows) (sym (range_with_len-cons row end some))
    ∙ before
