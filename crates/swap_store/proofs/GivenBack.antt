-- Blocks that are given back to a list of runs.
use Rattle.std.proofs.Common.{◌≡◌, ℕ, suc, zero, ◌+◌, ◌-◌, ◌<◌, ◌≤◌, ◌↔◌, List, [], ◌∷◌, ◌++◌, length, get_or, take, drop, ◌⊎◌, inl, inr, arith, refl, sym, ap, subst, ◌∙◌, remove, insert, take-append-drop, drop-cons}
use Rattle.std.proofs.Math.ListN.{set}
use Rattle.std.proofs.lemmas.List.{set_split, get_or-take, get_or-drop, get_or_default, length-drop, length-append, take-take, take-append-le, drop_at, length-take-le, drop_all}
use Rattle.std.proofs.lemmas.Bool.{cases_lt, cases_eq}
use Rattle.chain_owners.specs.declared.run.Run.{Run}
use Rattle.swap_store.specs.Run.{InBlocks, HasBlock, IsRunList, EndsBefore, BeginsWith}
use Rattle.swap_store.proofs.RunLists.{Splits, after, IsRunList-prefix, IsRunList-back, HasBlock-left, HasBlock-right, HasBlock-cases, HasBlock-parts, HasBlock-from_parts, joined, split_at, run_at}

-- a list of runs has besides these blocks
abbrev pub With : List Run → List Run → ℕ → ℕ → Type 0
With old new first count = (b : ℕ) → HasBlock new b ↔ (HasBlock old b ⊎ InBlocks b first count)

-- some runs and the given blocks are one run
pub record IsMerged (mid : List Run) (first count : ℕ) (run : Run) : Type 0 where
  pub known : (b : ℕ) → InBlocks b run.first run.count → HasBlock mid b ⊎ InBlocks b first count
  pub old : (b : ℕ) → HasBlock mid b → InBlocks b run.first run.count
  pub given : (b : ℕ) → InBlocks b first count → InBlocks b run.first run.count

to_old : (pre mid post : List Run) (first count : ℕ) (run : Run) (b : ℕ) → IsMerged mid first count run
    → HasBlock pre b ⊎ HasBlock (run ∷ post) b → HasBlock (pre ++ (mid ++ post)) b ⊎ InBlocks b first count
to_old pre mid post first count run b m (inl h) = inl (HasBlock-from_parts pre mid post b (inl h))
to_old pre mid post first count run b m (inr (inl h)) =
    elim (m.known b h) [ inl l ↦ inl (HasBlock-from_parts pre mid post b (inr (inl l))) | inr r ↦ inr r ]
to_old pre mid post first count run b m (inr (inr h)) = inl (HasBlock-from_parts pre mid post b (inr (inr h)))

from_old : (pre mid post : List Run) (first count : ℕ) (run : Run) (b : ℕ) → IsMerged mid first count run
    → HasBlock pre b ⊎ (HasBlock mid b ⊎ HasBlock post b) → HasBlock (pre ++ (run ∷ post)) b
from_old pre mid post first count run b m (inl h) = HasBlock-left pre (run ∷ post) b h
from_old pre mid post first count run b m (inr (inl h)) = HasBlock-right pre (run ∷ post) b (inl (m.old b h))
from_old pre mid post first count run b m (inr (inr h)) = HasBlock-right pre (run ∷ post) b (inr h)

pub With-merged : (pre mid post : List Run) (first count : ℕ) (run : Run) → IsMerged mid first count run
    → With (pre ++ (mid ++ post)) (pre ++ (run ∷ post)) first count
With-merged pre mid post first count run m b = (
  λ h. to_old pre mid post first count run b m (HasBlock-cases pre (run ∷ post) b h),
  elim [
    | inl h ↦ from_old pre mid post first count run b m (HasBlock-parts pre mid post b h)
    | inr h ↦ HasBlock-right pre (run ∷ post) b (inl (m.given b h))
  ],
)

-- ---- the runs before the given blocks, and those after them

pub after-before : (low end : ℕ) (pre : List Run) (first count : ℕ) → IsRunList low end pre → low ≤ first + 1 → 1 ≤ count
    → ((k : ℕ) (d : Run) → k < length pre → (get_or pre k d).first < first)
    → ((b : ℕ) → InBlocks b first count → ¬ HasBlock pre b)
    → after low pre ≤ first + 1
after-before low end [] first count runs le some before apart = le
after-before low end (x ∷ xs) first count runs le some before apart =
    let begins : x.first < first = before 0 x (omega arith) in
    let ends : x.first + x.count ≤ first =
    elim (cases_lt first (x.first + x.count)) [
      | inl lt ↦ absurd (apart first (record { low = omega arith; high = omega arith }) (inl (record { low = omega arith; high = lt })))
      | inr ge ↦ ge
    ] in
    after-before (x.first + x.count + 1) end xs first count runs.3 (omega arith) some
    (λ k d lt. before (suc k) d (omega arith))
    (λ b is_inside has. apart b is_inside (inr has))

pub IsRunList-following : (low end : ℕ) (post : List Run) (first count : ℕ) → IsRunList low end post
    → ((k : ℕ) (d : Run) → k < length post → first ≤ (get_or post k d).first)
    → ((b : ℕ) → InBlocks b first count → ¬ HasBlock post b)
    → IsRunList (first + count) end post
IsRunList-following low end [] first count runs following apart = tt
IsRunList-following low end (x ∷ xs) first count runs following apart =
    let begins : first ≤ x.first = following 0 x (omega arith) in
    let starts : first + count ≤ x.first =
    elim (cases_lt x.first (first + count)) [
      | inl lt ↦ absurd (apart x.first (record { low = begins; high = lt }) (inl (record { low = omega arith; high = omega (arith, runs.1) })))
      | inr ge ↦ ge
    ] in
    (starts, runs.1, runs.2, runs.3)

-- What is known of runs that are cut at an index: the runs before it and those after it leave the
-- given blocks free.
pub record Gap (end : ℕ) (xs : List Run) (at first count : ℕ) : Type 0 where
  pub within : at ≤ length xs
  pub some : 1 ≤ count
  pub bound : first + count ≤ end
  pub whole : IsRunList 0 end xs
  pub prefix : IsRunList 0 end (take at xs)
  pub before : after 0 (take at xs) ≤ first + 1
  pub back : IsRunList (first + count) end (drop at xs)

pub gap : (end : ℕ) (xs : List Run) (at first count : ℕ) → at ≤ length xs → 1 ≤ count → first + count ≤ end → IsRunList 0 end xs
    → ((k : ℕ) (d : Run) → k < at → (get_or xs k d).first < first)
    → ((k : ℕ) (d : Run) → at ≤ k → k < length xs → first ≤ (get_or xs k d).first)
    → ((b : ℕ) → InBlocks b first count → ¬ HasBlock xs b)
    → Gap end xs at first count
gap end xs at first count within some bound runs before following apart =
    let P : List Run → Type 0 = λ ys. IsRunList 0 end ys in
    let Q : List Run → Type 0 = λ ys. (b : ℕ) → InBlocks b first count → ¬ HasBlock ys b in
    let parts : P (take at xs ++ drop at xs) = subst P (sym (take-append-drop at xs)) runs in
    let free : Q (take at xs ++ drop at xs) = subst Q (sym (take-append-drop at xs)) apart in
    let prefix = IsRunList-prefix 0 end (take at xs) (drop at xs) parts in
    record {
      within = within;
      some = some;
      bound = bound;
      whole = runs;
      prefix = prefix;
      before = after-before 0 end (take at xs) first count prefix (omega arith) some
          (λ k d lt. let le : k < at = omega (arith, length-take-le at xs within) in rw get_or-take (before k d le))
          (λ b is_inside has. free b is_inside (HasBlock-left (take at xs) (drop at xs) b has));
      back = IsRunList-following _ end (drop at xs) first count (IsRunList-back 0 end (take at xs) (drop at xs) parts)
          (λ k d lt. rw get_or-drop (following (at + k) d (omega arith) (omega (arith, length-drop at xs))))
          (λ b is_inside has. free b is_inside (HasBlock-right (take at xs) (drop at xs) b has));
    }

-- ---- what stands after the given blocks were put in

-- the new runs are in order, and have the given blocks besides the old ones'
pub record Gives (end : ℕ) (old new : List Run) (first count : ℕ) : Type 0 where
  pub list : IsRunList 0 end new
  pub blocks : With old new first count

-- the runs in the middle of a list became one with the given blocks
gives-merged : (end : ℕ) (pre mid post : List Run) (run : Run) (old new : List Run) (first count : ℕ)
    → pre ++ (mid ++ post) ≡ old → new ≡ pre ++ (run ∷ post) → Splits 0 end pre run post → IsMerged mid first count run
    → Gives end old new first count
gives-merged end pre mid post run old new first count was is parts merged =
    let L : List Run → Type 0 = λ ys. IsRunList 0 end ys in
    let N : List Run → Type 0 = λ ys. With old ys first count in
    let O : List Run → Type 0 = λ ys. With ys (pre ++ (run ∷ post)) first count in
    record {
      list = subst L (sym is) (joined 0 end pre run post parts);
      blocks = subst N (sym is) (subst O was (With-merged pre mid post first count run merged));
    }

pub after-take : (low : ℕ) (xs : List Run) (i : ℕ) (d : Run) → i < length xs
    → after low (take (suc i) xs) ≡ (get_or xs i d).first + (get_or xs i d).count + 1
after-take low [] i d lt = absurd (omega arith)
after-take low (x ∷ xs) zero d lt = refl
after-take low (x ∷ xs) (suc i) d lt = after-take (x.first + x.count + 1) xs i d (omega arith)

some_run : Run
some_run = record { first = 0; count = 0 }

not_ending : (end : ℕ) (xs : List Run) (at first count : ℕ) → Gap end xs at first count → ¬ EndsBefore xs at first → after 0 (take at xs) ≤ first
not_ending end xs zero first count g apart = omega arith
not_ending end xs (suc i) first count g apart =
    let lt : i < length xs = omega (arith, g.within) in
    let same = after-take 0 xs i some_run lt in
    elim (cases_eq ((get_or xs i some_run).first + (get_or xs i some_run).count) first) [
      | inl e ↦ absurd (apart (record {
        there = omega arith;
        meets = λ d. let last : suc i - 1 ≡ i = omega arith in rw (last, get_or_default xs i d some_run lt) e;
      }))
      | inr ne ↦ omega (arith, same, g.before)
    ]

not_beginning : (end : ℕ) (xs : List Run) (at first count : ℕ) → Gap end xs at first count → ¬ BeginsWith xs at (first + count)
    → IsRunList (first + count + 1) end (drop at xs)
not_beginning end xs at first count g apart =
    elim (cases_lt at (length xs)) [
      | inl lt ↦ let here = drop-cons xs at some_run lt in
          let following : IsRunList (first + count) end (get_or xs at some_run ∷ drop (suc at) xs) = rw here at g.back in
          rw here
          (elim (cases_eq (get_or xs at some_run).first (first + count)) [
            | inl e ↦ absurd (apart (record { there = lt; meets = λ d. rw (get_or_default xs at d some_run lt) e }))
            | inr ne ↦ (omega (arith, following.0), following.1, following.2, following.3)
          ])
      | inr ge ↦ rw (drop_all at xs ge) tt
    ]

pub inserted : (end : ℕ) (xs : List Run) (at first count : ℕ) → Gap end xs at first count
    → ¬ EndsBefore xs at first → ¬ BeginsWith xs at (first + count)
    → Gives end xs (insert xs at (record { first = first; count = count })) first count
inserted end xs at first count g no_left no_right =
    let run : Run = record { first = first; count = count } in
    gives-merged end (take at xs) [] (drop at xs) run xs _ first count (take-append-drop at xs) refl
    (record {
      prefix = g.prefix;
      from = not_ending end xs at first count g no_left;
      some = g.some;
      to = g.bound;
      back = not_beginning end xs at first count g no_right;
    })
    (record { known = λ b l. inr l; old = λ b none. absurd none; given = λ b l. l })

merged_left : (run : Run) (first count : ℕ) → run.first + run.count ≡ first
    → IsMerged (run ∷ []) first count (record { first = run.first; count = run.count + count })
merged_left run first count e = record {
  known = λ b l. elim (cases_lt b first) [
    | inl lt ↦ inl (inl (record { low = l.low; high = omega arith }))
    | inr ge ↦ inr (record { low = ge; high = omega (arith, l.high) })
  ];
  old = λ b. elim [ inl l ↦ record { low = l.low; high = omega (arith, l.high) } | inr none ↦ absurd none ];
  given = λ b l. record { low = omega (arith, l.low); high = omega (arith, l.high) };
}

merged_right : (run : Run) (first count : ℕ) → run.first ≡ first + count
    → IsMerged (run ∷ []) first count (record { first = first; count = count + run.count })
merged_right run first count e = record {
  known = λ b l. elim (cases_lt b (first + count)) [
    | inl lt ↦ inr (record { low = l.low; high = lt })
    | inr ge ↦ inl (inl (record { low = omega arith; high = omega (arith, l.high) }))
  ];
  old = λ b. elim [ inl l ↦ record { low = omega (arith, l.low); high = omega (arith, l.high) } | inr none ↦ absurd none ];
  given = λ b l. record { low = l.low; high = omega (arith, l.high) };
}

merged_both : (left right : Run) (first count : ℕ) → left.first + left.count ≡ first → right.first ≡ first + count
    → IsMerged (left ∷ (right ∷ [])) first count (record { first = left.first; count = left.count + count + right.count })
merged_both left right first count e e' = record {
  known = λ b l. elim (cases_lt b first) [
    | inl lt ↦ inl (inl (record { low = l.low; high = omega arith }))
    | inr ge ↦ elim (cases_lt b (first + count)) [
      | inl lt ↦ inr (record { low = ge; high = lt })
      | inr ge ↦ inl (inr (inl (record { low = omega arith; high = omega (arith, l.high) })))
    ]
  ];
  old = λ b. elim [
    | inl l ↦ record { low = l.low; high = omega (arith, l.high) }
    | inr h ↦ elim h [ inl l ↦ record { low = omega (arith, l.low); high = omega (arith, l.high) } | inr none ↦ absurd none ]
  ];
  given = λ b l. record { low = omega (arith, l.low); high = omega (arith, l.high) };
}

pub joins_left : (end : ℕ) (xs : List Run) (i first count : ℕ) (d : Run) → Gap end xs (suc i) first count
    → (get_or xs i d).first + (get_or xs i d).count ≡ first → ¬ BeginsWith xs (suc i) (first + count)
    → Gives end xs (set xs i (record { first = (get_or xs i d).first; count = (get_or xs i d).count + count })) first count
joins_left end xs i first count d g e no_right =
    let lt : i < length xs = omega (arith, g.within) in
    let left = get_or xs i d in
    let run : Run = record { first = left.first; count = left.count + count } in
    let at = run_at 0 end xs i d lt g.whole in
    gives-merged end (take i xs) (left ∷ []) (drop (suc i) xs) run xs _ first count (split_at xs i d lt) (set_split xs i run lt)
    (record {
      prefix = at.prefix;
      from = at.from;
      some = omega (arith, at.some);
      to = omega (arith, g.bound);
      back = let same : left.first + (left.count + count) + 1 ≡ first + count + 1 = omega arith in
          rw same (not_beginning end xs (suc i) first count g no_right);
    }) (merged_left left first count e)

pub joins_right : (end : ℕ) (xs : List Run) (at first count : ℕ) (d : Run) → Gap end xs at first count → at < length xs
    → ¬ EndsBefore xs at first → (get_or xs at d).first ≡ first + count
    → Gives end xs (set xs at (record { first = first; count = count + (get_or xs at d).count })) first count
joins_right end xs i first count d g lt no_left e =
    let right = get_or xs i d in
    let run : Run = record { first = first; count = count + right.count } in
    let at = run_at 0 end xs i d lt g.whole in
    gives-merged end (take i xs) (right ∷ []) (drop (suc i) xs) run xs _ first count (split_at xs i d lt) (set_split xs i run lt)
    (record {
      prefix = at.prefix;
      from = not_ending end xs i first count g no_left;
      some = omega (arith, g.some);
      to = omega (arith, at.to);
      back = let same : first + (count + right.count) + 1 ≡ right.first + right.count + 1 = omega arith in rw same at.back;
    }) (merged_right right first count e)

-- the list after the right one of two runs left it and the left one was replaced
set-remove : (xs : List Run) (i : ℕ) (run : Run) → suc i < length xs
    → set (remove xs (suc i)) i run ≡ take i xs ++ (run ∷ drop (suc (suc i)) xs)
set-remove xs i run lt =
    let prefix : length (take (suc i) xs) ≡ suc i = length-take-le (suc i) xs (omega arith) in
    let before : take i (remove xs (suc i)) ≡ take i xs =
    take-append-le i (take (suc i) xs) (drop (suc (suc i)) xs) (omega arith) ∙ take-take i (suc i) xs (omega arith) in
    let following : drop (suc i) (remove xs (suc i)) ≡ drop (suc (suc i)) xs = drop_at (take (suc i) xs) (drop (suc (suc i)) xs) (suc i) prefix in
    set_split (remove xs (suc i)) i run (omega (arith, length-append (take (suc i) xs) (drop (suc (suc i)) xs)))
    ∙ cc

pub joins_both : (end : ℕ) (xs : List Run) (i first count : ℕ) (d : Run) → Gap end xs (suc i) first count → suc i < length xs
    → (get_or xs i d).first + (get_or xs i d).count ≡ first → (get_or xs (suc i) d).first ≡ first + count
    → Gives end xs (set (remove xs (suc i)) i
    (record { first = (get_or xs i d).first; count = (get_or xs i d).count + count + (get_or xs (suc i) d).count })) first count
joins_both end xs i first count d g lt e e' =
    let left = get_or xs i d in
    let right = get_or xs (suc i) d in
    let run : Run = record { first = left.first; count = left.count + count + right.count } in
    let at = run_at 0 end xs i d (omega arith) g.whole in
    let next = run_at 0 end xs (suc i) d lt g.whole in
    let two : take i xs ++ (left ∷ (right ∷ drop (suc (suc i)) xs)) ≡ xs =
    ap (λ ys. take i xs ++ (left ∷ ys)) (sym (drop-cons xs (suc i) d lt)) ∙ split_at xs i d (omega arith) in
    gives-merged end (take i xs) (left ∷ (right ∷ [])) (drop (suc (suc i)) xs) run xs _ first count two (set-remove xs i run lt)
    (record {
      prefix = at.prefix;
      from = at.from;
      some = omega (arith, at.some);
      to = omega (arith, next.to);
      back = let same : left.first + (left.count + count + right.count) + 1 ≡ right.first + right.count + 1 = omega arith in
          rw same next.back;
    }) (merged_both left right first count e e')

-- ---- the same for the runs as they are read

last_of : (xs : List Run) (at first : ℕ) → EndsBefore xs at first → at ≡ suc (at - 1)
last_of xs at first ends = omega (arith, ends.there)

pub given_to_left : (end : ℕ) (xs : List Run) (at first count : ℕ) (left : Run) → Gap end xs at first count
    → EndsBefore xs at first → ¬ BeginsWith xs at (first + count) → left ≡ get_or xs (at - 1) left
    → Gives end xs (set xs (at - 1) (record { first = left.first; count = left.count + count })) first count
given_to_left end xs at first count left g ends no_right read =
    let G : ℕ → Type 0 = λ i. Gap end xs i first count in
    let N : ℕ → Type 0 = λ i. ¬ BeginsWith xs i (first + count) in
    let P : Run → Type 0 = λ l. Gives end xs (set xs (at - 1) (record { first = l.first; count = l.count + count })) first count in
    subst P (sym read)
    (joins_left end xs (at - 1) first count left (subst G (last_of xs at first ends) g) (ends.meets left)
    (subst N (last_of xs at first ends) no_right))

pub given_to_right : (end : ℕ) (xs : List Run) (at first count : ℕ) (right : Run) → Gap end xs at first count
    → ¬ EndsBefore xs at first → BeginsWith xs at (first + count) → right ≡ get_or xs at right
    → Gives end xs (set xs at (record { first = first; count = count + right.count })) first count
given_to_right end xs at first count right g no_left begins read =
    let P : Run → Type 0 = λ r. Gives end xs (set xs at (record { first = first; count = count + r.count })) first count in
    subst P (sym read)
    (joins_right end xs at first count right g begins.there no_left (begins.meets right))

pub given_to_both : (end : ℕ) (xs : List Run) (at first count : ℕ) (left right : Run) → Gap end xs at first count
    → EndsBefore xs at first → BeginsWith xs at (first + count) → left ≡ get_or xs (at - 1) left → right ≡ get_or xs at right
    → Gives end xs (set (remove xs at) (at - 1) (record { first = left.first; count = left.count + count + right.count })) first count
given_to_both end xs at first count left right g ends begins read read' =
    let e = last_of xs at first ends in
    let G : ℕ → Type 0 = λ i. Gap end xs i first count in
    let B : ℕ → Type 0 = λ i. BeginsWith xs i (first + count) in
    let begins' : BeginsWith xs (suc (at - 1)) (first + count) = subst B e begins in
    let P : Run → Run → Type 0 = λ l r. Gives end xs (set (remove xs at) (at - 1) (record { first = l.first; count = l.count + count + r.count })) first count in
    let Q : ℕ → Type 0 = λ i. Gives end xs (set (remove xs i) (at - 1)
    (record { first = (get_or xs (at - 1) left).first; count = (get_or xs (at - 1) left).count + count + (get_or xs i left).count })) first count in
    let both = joins_both end xs (at - 1) first count left (subst G e g) begins'.there (ends.meets left) (begins'.meets left) in
    let same : get_or xs at left ≡ right = get_or_default xs at left right begins.there ∙ sym read' in
    let R : Run → Type 0 = λ r. P (get_or xs (at - 1) left) r in
    let L : Run → Type 0 = λ l. P l right in
    subst L (sym read) (subst R same (subst Q (sym e) both))

-- the runs between which blocks are given back have few enough blocks
pub sum_with_right : (end : ℕ) (xs : List Run) (at first count : ℕ) (right : Run) → Gap end xs at first count → BeginsWith xs at (first + count)
    → right ≡ get_or xs at right → first + count + right.count ≤ end
sum_with_right end xs at first count right g begins read =
    let run = run_at 0 end xs at right begins.there g.whole in
    omega (arith, run.to, begins.meets right, ap (λ (r : Run). r.count) read)

pub sum_with_left : (xs : List Run) (at first : ℕ) (left : Run) → EndsBefore xs at first → left ≡ get_or xs (at - 1) left
    → left.first + left.count ≡ first
sum_with_left xs at first left ends read =
    omega (arith, ends.meets left, ap (λ (r : Run). r.count) read, ap (λ (r : Run). r.first) read)

-- `gap`, from what is said of the runs as a slice
pub gap_of_slice : (end : ℕ) (xs ys : List Run) (at first count : ℕ) → ys ≡ xs → at ≤ length ys → 1 ≤ count → first + count ≤ end → IsRunList 0 end xs
    → ((k : ℕ) (d : Run) → k < at → (get_or ys k d).first < first)
    → ((k : ℕ) (d : Run) → at ≤ k → k < length ys → first ≤ (get_or ys k d).first)
    → ((b : ℕ) → InBlocks b first count → ¬ HasBlock xs b)
    → Gap end xs at first count
gap_of_slice end xs ys at first count e within some bound runs before following apart =
    let W : List Run → Type 0 = λ zs. at ≤ length zs in
    let B : List Run → Type 0 = λ zs. (k : ℕ) (d : Run) → k < at → (get_or zs k d).first < first in
    let A : List Run → Type 0 = λ zs. (k : ℕ) (d : Run) → at ≤ k → k < length zs → first ≤ (get_or zs k d).first in
    gap end xs at first count (subst W e within) some bound runs (subst B e before) (subst A e following) apart
