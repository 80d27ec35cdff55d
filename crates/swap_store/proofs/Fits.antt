-- The lowest run that is long enough.
use Rattle.std.proofs.Common.{◌≡◌, ℕ, suc, ◌+◌, ◌<◌, ◌≤◌, Bool, true, false, cond, not, leb, ltb, List, [], ◌∷◌, length, MatchOption, inl, inr, arith, refl}
use Rattle.std.specs.List.{position, position_or_len}
use Rattle.std.proofs.lemmas.Bool.{cases_lt, le-leb, lt-leb, lt-ltb, le-ltb}
use Rattle.chain_owners.specs.declared.run.Run.{Run}
use Rattle.swap_store.specs.Run.{longest, IsFirstFit}

-- whether a run has so many blocks
abbrev pub has_room : ℕ → Run → Bool
has_room needed run = leb needed run.count

later_fit : (x : Run) (xs : List Run) (needed i : ℕ) → leb needed x.count ≡ false → IsFirstFit xs needed i → IsFirstFit (x ∷ xs) needed (1 + i)
later_fit x xs needed i short fit =
    let next : 1 + i ≡ suc i = omega arith in
    rw next
    (record {
      within = omega (arith, fit.within);
      long = λ d. fit.long d;
      lowest = λ d. rw short (fit.lowest d);
    })

fit_found : (xs : List Run) (needed : ℕ) → position_or_len (has_room needed) xs < length xs → IsFirstFit xs needed (position_or_len (has_room needed) xs)
fit_found [] needed lt = absurd (omega arith)
fit_found (x ∷ xs) needed lt =
    elim (cases_lt x.count needed) [
      | inl less ↦ let short : leb needed x.count ≡ false = lt-leb needed x.count less in
          let within : cond (not (leb needed x.count)) (1 + position_or_len (has_room needed) xs) 0 < suc (length xs) = lt in
          let within' : 1 + position_or_len (has_room needed) xs < suc (length xs) = rw short at within in
          rw short (later_fit x xs needed (position_or_len (has_room needed) xs) short (fit_found xs needed (omega (arith, within'))))
      | inr enough ↦ let long : leb needed x.count ≡ true = le-leb needed x.count enough in
          rw long (record { within = omega arith; long = λ d. enough; lowest = λ d. rw long refl })
    ]

no_fit : (xs : List Run) (needed : ℕ) → 1 ≤ needed → length xs ≤ position_or_len (has_room needed) xs → longest xs < needed
no_fit [] needed some le = omega arith
no_fit (x ∷ xs) needed some le =
    let following : suc (length xs) ≤ cond (not (leb needed x.count)) (1 + position_or_len (has_room needed) xs) 0 = le in
    elim (cases_lt x.count needed) [
      | inl less ↦ let short : leb needed x.count ≡ false = lt-leb needed x.count less in
          let following' : suc (length xs) ≤ 1 + position_or_len (has_room needed) xs = rw short at following in
          omega (arith, no_fit xs needed some (omega (arith, following')))
      | inr enough ↦ let long : leb needed x.count ≡ true = le-leb needed x.count enough in
          let following' : suc (length xs) ≤ 0 = rw long at following in
          absurd (omega (arith, following'))
    ]

pub fits : (xs : List Run) (needed : ℕ) → 1 ≤ needed → MatchOption (position (has_room needed) xs) (longest xs < needed) (IsFirstFit xs needed)
fits xs needed some =
    let i = position_or_len (has_room needed) xs in
    elim (cases_lt i (length xs)) [
      | inl lt ↦ let there : ltb i (length xs) ≡ true = lt-ltb i (length xs) lt in rw there (fit_found xs needed lt)
      | inr ge ↦ let none : ltb i (length xs) ≡ false = le-ltb i (length xs) ge in rw none (no_fit xs needed some ge)
    ]
