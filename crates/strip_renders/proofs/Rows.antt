-- Strips that each need one row of a node's tiles, one below another.
use Rattle.std.proofs.Common.{◌≡◌, ℕ, zero, suc, ◌-◌, ◌<◌, ◌≤◌, Bool, true, false, List, [], ◌∷◌, ◌++◌, append-nil, append_assoc, map, take, drop, length, refl, sym, ap, ◌∙◌, subst, arith}
use Rattle.std.specs.List.{AllByRecursion, IsDistinct}
use Rattle.std.specs.Str.{bytes_eq}
use Rattle.std.proofs.lemmas.Grind.{flat_map-append}
use Rattle.std.proofs.lemmas.List.{take-append-drop, take_all}
use Rattle.model_graphs.specs.declared.node.NodeFact.{NodeFact}
use Rattle.model_graphs.specs.Facts.{specs_of}
use Rattle.model_graphs.specs.Meanings.{Meanings}
use Rattle.model_graphs.specs.Shapes.{Shapes}
use Rattle.model_states.specs.Cache.{Pair, pair_of, same_pair}
use Rattle.model_states.specs.declared.strip.Strip.{Strip}
use Rattle.model_states.specs.Need.{Needed}
use Rattle.model_states.specs.Valid.{AreStated, node_names}
use Rattle.model_states.proofs.CacheLaws.{same_pair-true}
use Rattle.node_tiles.specs.Held.{HeldTiles}
use Rattle.node_tiles.specs.Stated.{HaveLengths}
use Rattle.strip_renders.specs.Ahead.{AreReady}
use Rattle.strip_renders.specs.Batches.{AddsRows, AreRowsBelow, IsInRow, IsUpTo}
use Rattle.strip_renders.specs.Strips.{IsStripOf, needs_of, pairs_needed}
use Rattle.strip_renders.proofs.AheadLaws.{all-also, distinct-apart, distinct-more, distinct-none, distinct-others}
use Rattle.strip_renders.proofs.Needs.{all-both, batch-ready, get-here, strip-distinct}

-- one after another they are what all of them need
pub needs-parts : (count : ℕ) (strips : List Strip) → needs_of strips ≡ needs_of (take count strips) ++ needs_of (drop count strips)
needs-parts count strips =
    let of_strip : Strip → List Needed = λ strip. strip.need in
    ap needs_of (sym (take-append-drop count strips)) ∙ flat_map-append of_strip (take count strips) (drop count strips)

pub all-take : {X : Type 0} (P : X → Type 0) (count : ℕ) (xs : List X) → AllByRecursion P xs → AllByRecursion P (take count xs)
all-take P zero xs all = tt
all-take P (suc count) [] all = tt
all-take P (suc count) (x ∷ xs) all = (all.0, all-take P count xs all.1)

all-first : {X : Type 0} (P : X → Type 0) (xs ys : List X) → AllByRecursion P (xs ++ ys) → AllByRecursion P xs
all-first P [] ys all = tt
all-first P (x ∷ xs) ys all = (all.0, all-first P xs ys all.1)

-- ---- no key twice

module _ {X K : Type 0} (e : K → K → Bool) (f : X → K) where
  pub distinct-first : (xs ys : List X) → IsDistinct e (map f (xs ++ ys)) → IsDistinct e (map f xs)
  distinct-first [] ys once = distinct-none e f
  distinct-first (x ∷ xs) ys once =
      distinct-more e f x xs (all-first _ xs ys (distinct-apart e f x (xs ++ ys) once)) (distinct-first xs ys (distinct-others e f x (xs ++ ys) once))

  pub distinct-last : (xs ys : List X) → IsDistinct e (map f (xs ++ ys)) → IsDistinct e (map f ys)
  distinct-last [] ys once = once
  distinct-last (x ∷ xs) ys once = distinct-last xs ys (distinct-others e f x (xs ++ ys) once)

  distinct-both : (xs ys : List X) → IsDistinct e (map f xs) → IsDistinct e (map f ys) → AllByRecursion (λ (x : X). AllByRecursion (λ (y : X). e (f x) (f y) ≡ false) ys) xs
      → IsDistinct e (map f (xs ++ ys))
  distinct-both [] ys one two cross = two
  distinct-both (x ∷ xs) ys one two cross =
      distinct-more e f x (xs ++ ys) (all-both _ xs ys (distinct-apart e f x xs one) cross.0) (distinct-both xs ys (distinct-others e f x xs one) two cross.1)

-- ---- rows of a node

module _ (node row below : ℕ) (less : row < below) where
  up-more : (list : List Needed) → AllByRecursion (IsUpTo node row) list → AllByRecursion (IsUpTo node below) list
  up-more list all = all-also (IsUpTo node row) (IsUpTo node below) list (λ n is. (is.0, omega (arith, is.1, less))) all

  -- with a row below them
  pub up-both : (list next : List Needed) → AllByRecursion (IsUpTo node row) list → AllByRecursion (IsInRow node below) next → AllByRecursion (IsUpTo node below) (list ++ next)
  up-both list next all is =
      all-both (IsUpTo node below) list next (up-more list all)
      (all-also (IsInRow node below) (IsUpTo node below) next (λ n here. (here.0, omega (arith, here.1))) is)

  module _ {Op : Type 0} (nodes : List (NodeFact Op)) where
    apart : (a b : Needed) → a.1.row ≤ row → b.1.row ≡ below → same_pair (pair_of (specs_of nodes) a) (pair_of (specs_of nodes) b) ≡ false
    apart a b up down = by (same_pair (pair_of (specs_of nodes) a) (pair_of (specs_of nodes) b)) refl
      where
        by : (t : Bool) → same_pair (pair_of (specs_of nodes) a) (pair_of (specs_of nodes) b) ≡ t → t ≡ false
        by false is = refl
        by true is =
            let one = ap (λ (p : Pair). p.tile.row) (same_pair-true (pair_of (specs_of nodes) a) (pair_of (specs_of nodes) b) is) in
            absurd (omega (arith, up, down, less, one))

    row-once : (list next : List Needed) → AllByRecursion (IsUpTo node row) list → AllByRecursion (IsInRow node below) next → IsDistinct same_pair (pairs_needed nodes list)
        → IsDistinct same_pair (pairs_needed nodes next) → IsDistinct same_pair (pairs_needed nodes (list ++ next))
    row-once list next all is one two =
        distinct-both same_pair (pair_of (specs_of nodes)) list next one two
        (all-also (IsUpTo node row) (λ a. AllByRecursion (λ b. same_pair (pair_of (specs_of nodes) a) (pair_of (specs_of nodes) b) ≡ false) next) list
        (λ a up. all-also (IsInRow node below) (λ b. same_pair (pair_of (specs_of nodes) a) (pair_of (specs_of nodes) b) ≡ false) next (λ b here. apart a b up.1 here.1) is) all)

module _ {Op : Type 0} (meanings : Meanings Op) (nodes : List (NodeFact Op)) where
  -- no tile of rows is needed twice
  pub rows-once : (node row : ℕ) (list : List Needed) (strips : List Strip) → IsDistinct bytes_eq (node_names (specs_of nodes)) → AllByRecursion (IsStripOf meanings nodes) strips
      → AreRowsBelow node row strips → AllByRecursion (IsUpTo node row) list → IsDistinct same_pair (pairs_needed nodes list) → IsDistinct same_pair (pairs_needed nodes (list ++ needs_of strips))
  rows-once node row list [] names are rows all once = subst (λ (l : List Needed). IsDistinct same_pair (pairs_needed nodes l)) (sym (append-nil list)) once
  rows-once node row list (strip ∷ strips) names are rows all once =
      subst (λ (l : List Needed). IsDistinct same_pair (pairs_needed nodes l)) (append_assoc list strip.need (needs_of strips))
      (rows-once node rows.0 (list ++ strip.need) strips names are.1 rows.3 (up-both node row rows.0 rows.1 list strip.need all rows.2)
      (row-once node row rows.0 rows.1 nodes list strip.need all rows.2 once (strip-distinct meanings nodes strip names are.0)))

  -- each tile of rows may be evaluated, whatever is held
  pub rows-ready : (buffers : Shapes) (node row : ℕ) (strips : List Strip) (held : HeldTiles) → AreStated meanings buffers nodes → HaveLengths nodes held
      → AllByRecursion (IsStripOf meanings nodes) strips → AreRowsBelow node row strips → AreReady meanings nodes held (needs_of strips)
  rows-ready buffers node row [] held stated lengths are rows = tt
  rows-ready buffers node row (strip ∷ strips) held stated lengths are rows =
      let own : take (length strip.need - 0) strip.need ≡ strip.need = take_all (length strip.need - 0) strip.need (omega arith) in
      all-both _ strip.need (needs_of strips)
      (subst (AreReady meanings nodes held) own
      (batch-ready meanings nodes buffers strip stated are.0 0 (length strip.need) held
      (record { node = node; each = λ k n low inside found. (get-here (IsInRow node rows.0) strip.need k n rows.2 found).0 })
      (record { each = λ k n found. absurd (cc found); lengths = lengths })))
      (rows-ready buffers node rows.0 strips held stated lengths are.1 rows.3)

-- ---- a strip more

pub added-more : (node row below : ℕ) (next : Strip) (others later : List Strip) (old new : List Needed) → row < below → AllByRecursion (IsInRow node below) next.need → later ≡ next ∷ others
    → AddsRows node below others (old ++ next.need) new → AddsRows node row later old new
added-more node row below next others later old new less is same adds =
    subst (λ (strips : List Strip). AddsRows node row strips old new) (sym same)
    (record {
      count = suc adds.count;
      rows = (below, less, is, adds.rows);
      added = adds.added ∙ append_assoc old next.need (needs_of (take adds.count others));
    })
