-- The steps on the book keep its rule.
use Rattle.std.proofs.Common.{◌≡◌, ◌≢◌, ℕ, ◌<◌, ◌==◌, Bool, true, false, List, [], ◌∷◌, ◌++◌, length, refl, ap, sym, ◌∙◌, subst, arith, length-append, inl, None, slice_index_or, slice_set}
use Rattle.std.specs.Prelude.{All}
use Rattle.std.proofs.lemmas.List.{append-nil, length-set, get_or-set_other, get_or_append_left}
use Rattle.std.proofs.lemmas.List.Elements.{All-append, All-cons, All-nil}
use Rattle.std.proofs.lemmas.Grind.{get_or-set_at}
use Rattle.std.proofs.lemmas.Bool.Decides.{nat_tests}
use prog.Atomic.{either}
use Rattle.logbook.specs.Pages.{Cell, cell, Nib, gives, adds, no_nib, may_write, step, Moves}
use Rattle.scene_hub.specs.declared.entry.Entry.{Entry}
use Rattle.scene_hub.proofs.Prefixes.{begins_prefix}
use Rattle.scene_hub.specs.HubBook.{IsUsed, IsKept, ListBegins, PenTaken, EntryAppended}

home_at : (b : Bool) (cells : List Cell) (k n j : ℕ) → (j == k) ≡ b → j < length cells → (cell cells j).1 ≡ true → (cell (slice_set cells k (n, true)) j).1 ≡ true
home_at true cells k n j is lt h =
    let same : j ≡ k = grind (arith, nat_tests) in
    ap (λ (c : Cell). c.1) (get_or-set_at cells k j (n, true) (0, false) same (omega arith))
home_at false cells k n j is lt h =
    let other : j ≢ k = λ same. grind (arith, nat_tests) in
    ap (λ (c : Cell). c.1) (get_or-set_other cells k j (n, true) (0, false) other) ∙ h

-- a cell at home is at home still where a cell is brought home, and where one is added
home_set : (cells : List Cell) (k n j : ℕ) → j < length cells → (cell cells j).1 ≡ true → (cell (slice_set cells k (n, true)) j).1 ≡ true
home_set cells k n j lt h = home_at (j == k) cells k n j refl lt h

home_more : (cells : List Cell) (j : ℕ) → j < length cells → (cell cells j).1 ≡ true → (cell (cells ++ (0, false) ∷ []) j).1 ≡ true
home_more cells j lt h = ap (λ (c : Cell). c.1) (get_or_append_left cells ((0, false) ∷ []) (0, false) j lt) ∙ h

module _ {S : Type 0} where
  abbrev pub shown : List (Entry S) → List (Entry S)
  shown log = []

  abbrev pub moved : List (Entry S) → List (Entry S) → Unit {0} → Type 0
  moved xs ys answer = Unit {0}

  pub kept_set : (cells : List Cell) (k n : ℕ) (log : List (Entry S)) → IsKept cells log → IsKept (slice_set cells k (n, true)) log
  kept_set cells k n log kept =
      let size = length-set cells k (n, true) in record {
        base = (omega (arith, kept.base.0), home_set cells k n 0 kept.base.0 kept.base.1);
        used = λ i d lt. (omega (arith, (kept.used i d lt).0), home_set cells k n (slice_index_or log i d).key (kept.used i d lt).0 (kept.used i d lt).1);
      }

  pub kept_more : (cells : List Cell) (log : List (Entry S)) → IsKept cells log → IsKept (cells ++ (0, false) ∷ []) log
  kept_more cells log kept =
      let size = length-append cells ((0, false) ∷ []) in record {
        base = (omega (arith, kept.base.0), home_more cells 0 kept.base.0 kept.base.1);
        used = λ i d lt. (omega (arith, (kept.used i d lt).0), home_more cells (slice_index_or log i d).key (kept.used i d lt).0 (kept.used i d lt).1);
      }

  pub kept_entry : (cells : List Cell) (log : List (Entry S)) (e : Entry S) → IsUsed cells e → IsKept cells log → IsKept cells (log ++ e ∷ [])
  kept_entry cells log e used kept = record { base = kept.base; used = All-append (IsUsed cells) log (e ∷ []) kept.used (All-cons (IsUsed cells) e [] used (All-nil (IsUsed cells))) }

  pub takes_pen : (v : List (Entry S)) (e : Entry S) → Moves IsKept shown moved 0 (v, (no_nib, None)) (λ n. either (n == 0) 0 n) (PenTaken (step 0 0 0 e) (v, (no_nib, None)))
  takes_pen v e cs log kept pre away = (
    kept.base.0,
    kept.base.1,
    (
      adds,
      [],
      None,
      tt,
      subst (IsKept _) (sym (append-nil log)) (kept_more _ log (kept_set cs 0 _ log kept)),
      inl (refl, refl),
      refl,
    ),
  )

  pub begins_list : (v : List (Entry S)) (e : Entry S) → Moves IsKept shown moved 0 (v, (no_nib, None)) (λ n. either (n == 0) 0 n) (ListBegins (step 0 0 0 e) (v, (no_nib, None)))
  begins_list v e cs log kept pre away =
      let after = kept_more _ log (kept_set cs 0 (either ((cell cs 0).0 == 0) 0 (cell cs 0).0) log kept) in (
        kept.base.0,
        kept.base.1,
        (
          adds,
          record { key = 0; next = length cs; scene = e.scene } ∷ [],
          None,
          tt,
          kept_entry _ log _ after.base after,
          inl (refl, refl),
          (refl, (log, refl)),
        ),
      )

  -- no entry has the key of a pen that is not used up
  keys_differ : (cells : List Cell) (log : List (Entry S)) (key : ℕ) → All (IsUsed cells) log → (cell cells key).1 ≡ false → All (λ e. e.key ≢ key) log
  keys_differ cells log key used free i d lt = λ same. absurd (cc ((used i d lt).1, free, same))

  pub appends_entry : (v : List (Entry S)) (pen : Nib) (e : Entry S) → pen.right ≡ may_write → e.key ≡ pen.key
      → Moves IsKept shown moved 0 (v, (pen, None)) (λ n. either (n == 0) 0 n) (EntryAppended (step 0 0 0 e) (v, (pen, None)))
  appends_entry v pen e right key cs log kept pre away =
      let free = away right in
      let n = either ((cell cs 0).0 == 0) 0 (cell cs 0).0 in
      let first = kept_set cs 0 n log kept in
      let after = kept_set (slice_set cs 0 (n, true)) pen.key pen.value log first in
      let used : IsUsed (slice_set (slice_set cs 0 (n, true)) pen.key (pen.value, true)) e =
      let size = length-set (slice_set cs 0 (n, true)) pen.key (pen.value, true) in
      let size' = length-set cs 0 (n, true) in
      (omega (arith, key, free.0), ap (λ (c : Cell). c.1) (get_or-set_at (slice_set cs 0 (n, true)) pen.key e.key (pen.value, true) (0, false) key (omega (arith, free.0)))) in (
        kept.base.0,
        kept.base.1,
        (
          gives,
          e ∷ [],
          None,
          right,
          kept_entry _ log e used after,
          inl (refl, refl),
          (log, refl, begins_prefix v log pre, keys_differ cs log e.key kept.used (subst (λ k. (cell cs k).1 ≡ false) (sym key) free.1)),
        ),
      )
