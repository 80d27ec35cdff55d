-- The first strip that is too wide, strip by strip.
use Rattle.std.proofs.Common.{◌≡◌, ℕ, suc, ◌+◌, ◌<◌, ◌≤◌, cond, nat_lt, List, [], ◌∷◌, ◌++◌, drop, drop-cons, get_or, length, map, Some, Result, Ok, Err, sym, ap, ◌∙◌, subst, append_assoc, arith}
use Rattle.std.specs.Prelude.{IfErr}
use Rattle.std.specs.Result.{IsErrAnd}
use Rattle.std.proofs.lemmas.Bool.{le-ltb, lt-ltb}
use Rattle.plane_rect.specs.Rectangle.{Rectangle}
use Rattle.model_states.specs.declared.strip.Strip.{Strip}
use Rattle.model_states.specs.Need.{wide}

-- an error that is handed on as it is
pub handed-on : {T E : Type 0} (r : Result T E) (e : E) (P : E → Type 0) → IsErrAnd r (λ handed. handed ≡ e) → P e → IfErr r P
handed-on (Ok x) e P is holds = tt
handed-on (Err f) e P is holds = subst P (sym is) holds

module _ (of : Rectangle → Strip) (rects : List Rectangle) (i : ℕ) (rect : Rectangle) (inside : i < length rects) (is : rect ≡ get_or rects i rect) where
  -- what is left, from one rectangle on
  left : map of (drop i rects) ≡ of rect ∷ map of (drop (i + 1) rects)
  left =
      let next : suc i ≡ i + 1 = omega arith in
      ap (map of) (drop-cons rects i rect inside)
      ∙ ap (λ (r : Rectangle). of r ∷ map of (drop (suc i) rects)) (sym is)
      ∙ ap (λ (n : ℕ). of rect ∷ map of (drop n rects)) next

  -- a strip more is made
  pub made-more : {all : List Strip} (done next : List Strip) (strip : Strip) → strip ≡ of rect → next ≡ done ++ strip ∷ [] → done ++ map of (drop i rects) ≡ all →
      next ++ map of (drop (i + 1) rects) ≡ all
  made-more done next strip made pushed before =
      let rest = map of (drop (i + 1) rects) in
      ap (λ (strips : List Strip). strips ++ rest) pushed
      ∙ append_assoc done (strip ∷ []) rest
      ∙ ap (λ (s : Strip). done ++ s ∷ rest) made
      ∙ ap (λ (strips : List Strip). done ++ strips) (sym left)
      ∙ before

  -- a strip that is not too wide leaves the search to those after it
  pub wide-later : (capacity : ℕ) (strip : Strip) → strip ≡ of rect → length strip.need ≤ capacity → wide capacity (map of (drop i rects)) ≡ wide capacity (map of (drop (i + 1) rects))
  wide-later capacity strip made narrow =
      let rest = wide capacity (map of (drop (i + 1) rects)) in
      ap (wide capacity) left
      ∙ ap (λ (s : Strip). cond (nat_lt capacity (length s.need)) (Some (length s.need)) rest) (sym made)
      ∙ ap (λ t. cond t (Some (length strip.need)) rest) (le-ltb capacity (length strip.need) narrow)

  -- one that is too wide is found
  pub wide-here : (capacity : ℕ) (strip : Strip) → strip ≡ of rect → capacity < length strip.need → wide capacity (map of (drop i rects)) ≡ Some (length strip.need)
  wide-here capacity strip made more =
      let rest = wide capacity (map of (drop (i + 1) rects)) in
      ap (wide capacity) left
      ∙ ap (λ (s : Strip). cond (nat_lt capacity (length s.need)) (Some (length s.need)) rest) (sym made)
      ∙ ap (λ t. cond t (Some (length strip.need)) rest) (lt-ltb capacity (length strip.need) more)
