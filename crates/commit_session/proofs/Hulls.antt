-- Rectangles of roots, as a list of plain data has them.
use Rattle.std.proofs.Common.{◌≡◌, ℕ, zero, suc, ◌+◌, ◌<◌, ◌≤◌, Bool, true, false, cond, not, List, [], ◌∷◌, ◌++◌, length, get_or, refl, sym, ap, ◌∙◌, arith, Option, Some, None, Ok}
use Rattle.std.proofs.Math.ListN.{set}
use Rattle.std.specs.Prelude.{nat_lt}
use Rattle.std.specs.List.{position, position_or_len}
use Rattle.std.proofs.lemmas.Bool.Decides.{nat_tests}
use Rattle.std.specs.Option.{option_and_then, option_map}
use Rattle.std.specs.Str.{bytes_eq}
use Rattle.plane_rect.specs.Rectangle.{Rectangle, hull}
use Rattle.model_buffers.specs.declared.edit.BufferEdit.{BufferEdit}
use Rattle.model_buffers.specs.BufferEdit.{on_root, written_by}
use Rattle.model_buffers.specs.Layout.{TableLayout, View, fact_in, facts_of, find, root_named}
use Rattle.model_buffers.proofs.FactLaws.{fact-found}
use Rattle.model_graphs.specs.declared.buffer.BufferFact.{BufferFact}
use Rattle.model_graphs.specs.declared.buffer.Edited.{Edited}
use Rattle.model_graphs.specs.Facts.{fact_of, rectangles_of}
use Rattle.model_states.specs.Rectangles.{Rectangles, with_written}
use Rattle.commit_session.specs.declared.written.Target.{Target}

module _ (root : List ℕ) (rect : Rectangle) where
  -- with a rectangle that contains this one too
  abbrev pub grown : Edited → Edited
  grown entry = record { root = entry.root; rect = hull entry.rect rect }

  abbrev chosen : Bool → Edited → List Edited → Rectangles
  chosen b e es = cond b ((e.root, hull e.rect rect) ∷ rectangles_of es) ((e.root, e.rect) ∷ with_written (rectangles_of es) root rect)

  pub set-written : (es : List Edited) (i : ℕ) (d : Edited) → i < length es → bytes_eq root (get_or es i d).root ≡ true
      → ((k : ℕ) → k < i → bytes_eq root (get_or es k d).root ≡ false)
      → rectangles_of (set es i (grown (get_or es i d))) ≡ with_written (rectangles_of es) root rect
  set-written [] i d less found apart = absurd (omega (arith, less))
  set-written (e ∷ es) zero d less found apart = sym (ap (λ (b : Bool). chosen b e es) found)
  set-written (e ∷ es) (suc i) d less found apart =
      ap (λ (rs : Rectangles). (e.root, e.rect) ∷ rs) (set-written es i d (omega (arith, less)) found (λ k before. apart (suc k) (omega (arith, before))))
      ∙ sym (ap (λ (b : Bool). chosen b e es) (apart 0 (omega arith)))

  pub push-written : (es : List Edited) (last d : Edited) → last ≡ record { root = root; rect = rect } → ((k : ℕ) → k < length es → bytes_eq root (get_or es k d).root ≡ false)
      → rectangles_of (es ++ last ∷ []) ≡ with_written (rectangles_of es) root rect
  push-written [] last d is apart = ap (λ (e : Edited). (e.root, e.rect) ∷ []) is
  push-written (e ∷ es) last d is apart =
      ap (λ (rs : Rectangles). (e.root, e.rect) ∷ rs) (push-written es last d is (λ k before. apart (suc k) (omega (arith, before))))
      ∙ sym (ap (λ (b : Bool). chosen b e es) (apart 0 (omega arith)))

-- ---- where no rectangle is of the root

module _ {X : Type 0} (test : X → Bool) where
  past : (xs : List X) (d : X) → length xs ≤ position_or_len test xs → (k : ℕ) → k < length xs → test (get_or xs k d) ≡ false
  past [] d long k below = absurd (omega (arith, below))
  past (x ∷ xs) d long k below = by (test x) refl (past xs d) k below
    where
      by : (b : Bool) → test x ≡ b → (length xs ≤ position_or_len test xs → (k : ℕ) → k < length xs → test (get_or xs k d) ≡ false)
          → (k : ℕ) → k < length (x ∷ xs) → test (get_or (x ∷ xs) k d) ≡ false
      by true is rest k below =
          let none : position_or_len test (x ∷ xs) ≡ 0 = ap (λ (b : Bool). cond (not b) (1 + position_or_len test xs) 0) is in
          absurd (omega (arith, long, none))
      by false is rest zero below = is
      by false is rest (suc k) below =
          let more : position_or_len test (x ∷ xs) ≡ 1 + position_or_len test xs = ap (λ (b : Bool). cond (not b) (1 + position_or_len test xs) 0) is in
          rest (omega (arith, long, more)) k (omega (arith, below))

  pub none-passes : (xs : List X) (d : X) → position test xs ≡ None → (k : ℕ) → k < length xs → test (get_or xs k d) ≡ false
  none-passes xs d none = past xs d (by (nat_lt (position_or_len test xs) (length xs)) refl none)
    where
      by : (b : Bool) → nat_lt (position_or_len test xs) (length xs) ≡ b → cond b (Some (position_or_len test xs)) None ≡ None → length xs ≤ position_or_len test xs
      by true is none = absurd (cc)
      by false is none = grind (arith, nat_tests)

-- ---- what an edit writes

root-of : (layout : TableLayout) (name : List ℕ) (o : Option BufferFact) → o ≡ fact_of (facts_of layout) name → root_named layout name ≡ option_map (λ (f : BufferFact). f.root) o
root-of layout name o is =
    by (find layout.buffers name) ∙ ap (option_map (λ (f : BufferFact). f.root)) (sym (is ∙ fact-found layout name))
  where
    by : (v : Option View) → option_map (λ (view : View). view.root) v ≡ option_map (λ (f : BufferFact). f.root) (option_map (fact_in layout name) v)
    by None = refl
    by (Some view) = refl

-- a rectangle of the root of a buffer
abbrev pub pair_of : Rectangle → BufferFact → List ℕ × Rectangle
pair_of r f = (f.root, r)

-- by its target, and what is known of the buffer there
pub written-is : (layout : TableLayout) (edit : BufferEdit) (target : Option Target) (t : Target) (o : Option BufferFact)
    → written_by layout edit ≡ option_and_then (λ (t : Target). on_root layout t.buffer (Ok t.rect)) target → target ≡ Some t
    → o ≡ fact_of (facts_of layout) t.buffer → written_by layout edit ≡ option_map (pair_of t.rect) o
written-is layout edit target t o is there found =
    let r = t.rect in
    let name = t.buffer in
    let pair : List ℕ → List ℕ × Rectangle = λ root. (root, r) in
    is ∙ ap (option_and_then (λ (t : Target). on_root layout t.buffer (Ok t.rect))) there
    ∙ ap (option_map pair) (root-of layout name o found) ∙ twice t.rect o
  where
    twice : (r : Rectangle) (o : Option BufferFact) → (let pair : List ℕ → List ℕ × Rectangle = λ root. (root, r) in
        option_map pair (option_map (λ (f : BufferFact). f.root) o) ≡ option_map (pair_of r) o)
    twice r None = refl
    twice r (Some f) = refl
