-- The list that a log gives, as the log grows.
use Rattle.std.proofs.Common.{◌≡◌, ◌≢◌, ℕ, suc, ◌<◌, ◌≤◌, ◌==◌, ◌⊎◌, inl, inr, ⊎_elim, Bool, true, false, List, [], ◌∷◌, ◌++◌, length, drop, fold, refl, ap, sym, ◌∙◌, subst, arith}
use Rattle.std.specs.Prelude.{All, if◌then◌else◌}
use Rattle.std.proofs.lemmas.List.{drop-append-le}
use Rattle.std.proofs.lemmas.List.Sums.{fold-append}
use Rattle.std.proofs.lemmas.Bool.{cases_lt}
use Rattle.std.proofs.lemmas.Bool.Decides.{nat_tests}
use Rattle.scene_hub.specs.declared.entry.Entry.{Entry}
use Rattle.scene_hub.specs.HubBook.{IsAppended}
use Rattle.scene_hub.specs.SceneLog.{Begins, begun, with_entry, list_of}
use Rattle.scene_hub.proofs.Prefixes.{begins-append, begins_same, begins_rest, begins_length, begins_shorter, begins_trans, all_rest}

le_of_lt : (m n : ℕ) → m < n → m ≤ n
le_of_lt m n lt = omega arith

either_le : (m n : ℕ) → (m ≤ n) ⊎ (n ≤ m)
either_le m n = ⊎_elim (λ (lt : m < n). inl (le_of_lt m n lt)) (λ (le : n ≤ m). inr le) (cases_lt m n)

module _ {S : Type 0} where
  -- what an entry does, where its key is the next scene's or not
  abbrev entered : Bool → ℕ × List S → Entry S → ℕ × List S
  entered b list e = if b then (e.next, list.1 ++ e.scene ∷ []) else list

  entered_grows : (b : Bool) (list : ℕ × List S) (e : Entry S) → Begins list.1 (entered b list e).1
  entered_grows true list e = begins-append list.1 (e.scene ∷ [])
  entered_grows false list e = begins_same list.1

  fold_grows : (list : ℕ × List S) (es : List (Entry S)) → Begins list.1 (fold with_entry list es).1
  fold_grows list [] = begins_same list.1
  fold_grows list (e ∷ es) = begins_trans list.1 (with_entry list e).1 (fold with_entry (with_entry list e) es).1 (entered_grows (e.key == list.0) list e) (fold_grows (with_entry list e) es)

  pub list_of-more : (origin log more : List (Entry S)) → Begins origin log → list_of origin (log ++ more) ≡ fold with_entry (list_of origin log) more
  list_of-more origin log more b =
      ap (fold with_entry (begun origin)) (drop-append-le (length origin) log more (begins_length origin log b)) ∙ fold-append with_entry (begun origin) (drop (length origin) log) more

  -- a later log gives a list that begins with that of an earlier one
  pub lists_grow : (origin log later : List (Entry S)) → Begins origin log → Begins log later → Begins (list_of origin log).1 (list_of origin later).1
  lists_grow origin log later b c =
      let more = drop (length log) later in
      let e : list_of origin later ≡ fold with_entry (list_of origin log) more = ap (list_of origin) (sym (begins_rest log later c)) ∙ list_of-more origin log more b in
      subst (λ (l : ℕ × List S). Begins (list_of origin log).1 l.1) (sym e) (fold_grows (list_of origin log) more)

  -- entries under other keys do nothing
  pub others_stay : (list : ℕ × List S) (es : List (Entry S)) → All (λ e. e.key ≢ list.0) es → fold with_entry list es ≡ list
  others_stay list [] none = refl
  others_stay list (e ∷ es) none =
      let not_it : (e.key == list.0) ≡ false = let h : e.key ≢ list.0 = none 0 e (omega arith) in grind (arith, nat_tests) in
      let same : with_entry list e ≡ list = ap (λ b. entered b list e) not_it in
      ap (λ l. fold with_entry l es) same ∙ others_stay list es (λ k d lt. none (suc k) d (omega arith))

  -- an entry under the next scene's key appends its scene
  pub list_appended : (origin log before : List (Entry S)) (e : Entry S) → Begins origin log → Begins log before → e.key ≡ (list_of origin log).0 → All (λ x. x.key ≢ e.key) before
      → list_of origin (before ++ e ∷ []) ≡ (e.next, (list_of origin log).1 ++ e.scene ∷ [])
  list_appended origin log before e b c is none =
      let list = list_of origin log in
      let others = drop (length log) before in
      let none' : All (λ x. x.key ≢ list.0) others = subst (λ k. All (λ x. x.key ≢ k) others) is (all_rest (λ x. x.key ≢ e.key) log others (subst (All (λ x. x.key ≢ e.key)) (sym (begins_rest log before c)) none)) in
      let stay : list_of origin before ≡ list = ap (list_of origin) (sym (begins_rest log before c)) ∙ (list_of-more origin log others b ∙ others_stay list others none') in
      let it : (e.key == list.0) ≡ true = grind (arith, nat_tests) in
      list_of-more origin before (e ∷ []) (begins_trans origin log before b c) ∙ (ap (λ l. with_entry l e) stay ∙ ap (λ b. entered b list e) it)

  -- the list after a step that appends an entry to the log
  pub list_after : (origin old new : List (Entry S)) (e : Entry S) → Begins origin old → e.key ≡ (list_of origin old).0 → IsAppended old new e
      → list_of origin new ≡ (e.next, (list_of origin old).1 ++ e.scene ∷ [])
  list_after origin old new e b is a = ap (list_of origin) a.1 ∙ list_appended origin old a.0 e b a.2 is a.3

  pub appended_begins : (old new : List (Entry S)) (e : Entry S) → IsAppended old new e → Begins old new
  appended_begins old new e a = subst (Begins old) (sym a.1) (begins_trans old a.0 (a.0 ++ e ∷ []) a.2 (begins-append a.0 (e ∷ [])))

  pub appended_since : (older old new : List (Entry S)) (e : Entry S) → Begins older old → IsAppended old new e → IsAppended older new e
  appended_since older old new e b a = (a.0, a.1, begins_trans older old a.0 b a.2, a.3)

  -- of the lists of two logs that begin one log one begins the other
  pub lists_meet : (origin one other all : List (Entry S)) → Begins origin one → Begins origin other → Begins one all → Begins other all
      → Begins (list_of origin one).1 (list_of origin other).1 ⊎ Begins (list_of origin other).1 (list_of origin one).1
  lists_meet origin one other all b c d e =
      let p = lists_grow origin one all b d in
      let q = lists_grow origin other all c e in
      let whole = (list_of origin all).1 in
      ⊎_elim (λ (le : length (list_of origin one).1 ≤ length (list_of origin other).1). inl (begins_shorter (list_of origin one).1 (list_of origin other).1 whole p q le))
      (λ (le : length (list_of origin other).1 ≤ length (list_of origin one).1). inr (begins_shorter (list_of origin other).1 (list_of origin one).1 whole q p le)) (either_le (length (list_of origin one).1) (length (list_of origin other).1))
