-- Lists of runs that are split, and the blocks that they have.
use Rattle.std.proofs.Common.{◌≡◌, ℕ, suc, zero, ◌+◌, ◌-◌, ◌<◌, ◌≤◌, ◌↔◌, List, [], ◌∷◌, ◌++◌, length, get_or, take, drop, ◌⊎◌, inl, inr, ltb, arith, sym, ap, subst, ◌∙◌, remove, take-append-drop, drop-cons}
use Rattle.std.proofs.lemmas.List.{set_split}
use Rattle.std.proofs.Math.ListN.{set}
use Rattle.std.proofs.lemmas.Bool.{cases_lt, lt-ltb}
use Rattle.std.specs.List.Sorted.{IsPartitionedBy}
use borrow.Author.Tests.{ltb-true}
use Rattle.chain_owners.specs.declared.run.Run.{Run}
use Rattle.swap_store.specs.Run.{InBlocks, HasBlock, IsRunList}

-- the first block that a run after these may have
abbrev pub after : ℕ → List Run → ℕ
after low [] = low
after low (run ∷ runs) = after (run.first + run.count + 1) runs

pub IsRunList-append : (low end : ℕ) (xs ys : List Run) → IsRunList low end xs → IsRunList (after low xs) end ys → IsRunList low end (xs ++ ys)
IsRunList-append low end [] ys prefix back = back
IsRunList-append low end (x ∷ xs) ys prefix back =
    (prefix.0, prefix.1, prefix.2, IsRunList-append (x.first + x.count + 1) end xs ys prefix.3 back)

pub IsRunList-prefix : (low end : ℕ) (xs ys : List Run) → IsRunList low end (xs ++ ys) → IsRunList low end xs
IsRunList-prefix low end [] ys whole = tt
IsRunList-prefix low end (x ∷ xs) ys whole =
    (whole.0, whole.1, whole.2, IsRunList-prefix (x.first + x.count + 1) end xs ys whole.3)

pub IsRunList-back : (low end : ℕ) (xs ys : List Run) → IsRunList low end (xs ++ ys) → IsRunList (after low xs) end ys
IsRunList-back low end [] ys whole = whole
IsRunList-back low end (x ∷ xs) ys whole = IsRunList-back (x.first + x.count + 1) end xs ys whole.3

pub IsRunList-lower : (low low' end : ℕ) (xs : List Run) → low ≤ low' → IsRunList low' end xs → IsRunList low end xs
IsRunList-lower low low' end [] le runs = tt
IsRunList-lower low low' end (x ∷ xs) le runs = (omega (arith, runs.0), runs.1, runs.2, runs.3)

pub HasBlock-left : (xs ys : List Run) (b : ℕ) → HasBlock xs b → HasBlock (xs ++ ys) b
HasBlock-left [] ys b h = absurd h
HasBlock-left (x ∷ xs) ys b (inl h) = inl h
HasBlock-left (x ∷ xs) ys b (inr h) = inr (HasBlock-left xs ys b h)

pub HasBlock-right : (xs ys : List Run) (b : ℕ) → HasBlock ys b → HasBlock (xs ++ ys) b
HasBlock-right [] ys b h = h
HasBlock-right (x ∷ xs) ys b h = inr (HasBlock-right xs ys b h)

pub HasBlock-cases : (xs ys : List Run) (b : ℕ) → HasBlock (xs ++ ys) b → HasBlock xs b ⊎ HasBlock ys b
HasBlock-cases [] ys b h = inr h
HasBlock-cases (x ∷ xs) ys b (inl h) = inl (inl h)
HasBlock-cases (x ∷ xs) ys b (inr h) = elim (HasBlock-cases xs ys b h) [ inl l ↦ inl (inr l) | inr r ↦ inr r ]

-- each block of the runs is one that they may have
pub HasBlock-low : (low end : ℕ) (xs : List Run) (b : ℕ) → IsRunList low end xs → HasBlock xs b → low ≤ b
HasBlock-low low end [] b runs h = absurd h
HasBlock-low low end (x ∷ xs) b runs (inl h) = omega (arith, runs.0, h.low)
HasBlock-low low end (x ∷ xs) b runs (inr h) = omega (arith, runs.0, HasBlock-low (x.first + x.count + 1) end xs b runs.3 h)

pub after-low : (low end : ℕ) (xs : List Run) → IsRunList low end xs → low ≤ after low xs
after-low low end [] runs = omega arith
after-low low end (x ∷ xs) runs = omega (arith, runs.0, after-low (x.first + x.count + 1) end xs runs.3)

-- a block that is in none stands between each of them and what is after
pub HasBlock-after : (low end : ℕ) (xs : List Run) (b : ℕ) → IsRunList low end xs → HasBlock xs b → b + 1 < after low xs
HasBlock-after low end [] b runs h = absurd h
HasBlock-after low end (x ∷ xs) b runs (inl h) = omega (arith, h.high, after-low (x.first + x.count + 1) end xs runs.3)
HasBlock-after low end (x ∷ xs) b runs (inr h) = HasBlock-after (x.first + x.count + 1) end xs b runs.3 h

-- ---- one run among others

pub HasBlock-parts : (pre mid post : List Run) (b : ℕ) → HasBlock (pre ++ (mid ++ post)) b → HasBlock pre b ⊎ (HasBlock mid b ⊎ HasBlock post b)
HasBlock-parts pre mid post b h = elim (HasBlock-cases pre (mid ++ post) b h) [ inl l ↦ inl l | inr r ↦ inr (HasBlock-cases mid post b r) ]

pub HasBlock-from_parts : (pre mid post : List Run) (b : ℕ) → HasBlock pre b ⊎ (HasBlock mid b ⊎ HasBlock post b) → HasBlock (pre ++ (mid ++ post)) b
HasBlock-from_parts pre mid post b (inl l) = HasBlock-left pre (mid ++ post) b l
HasBlock-from_parts pre mid post b (inr (inl m)) = HasBlock-right pre (mid ++ post) b (HasBlock-left mid post b m)
HasBlock-from_parts pre mid post b (inr (inr r)) = HasBlock-right pre (mid ++ post) b (HasBlock-right mid post b r)

-- what a list of runs says of one of them and of those round it
pub record Splits (low end : ℕ) (pre : List Run) (run : Run) (post : List Run) : Type 0 where
  pub prefix : IsRunList low end pre
  pub from : after low pre ≤ run.first
  pub some : 1 ≤ run.count
  pub to : run.first + run.count ≤ end
  pub back : IsRunList (run.first + run.count + 1) end post

pub splits : (low end : ℕ) (pre : List Run) (run : Run) (post : List Run) → IsRunList low end (pre ++ (run ∷ post)) → Splits low end pre run post
splits low end pre run post whole =
    let following = IsRunList-back low end pre (run ∷ post) whole in
    record { prefix = IsRunList-prefix low end pre (run ∷ post) whole; from = following.0; some = following.1; to = following.2; back = following.3 }

pub joined : (low end : ℕ) (pre : List Run) (run : Run) (post : List Run) → Splits low end pre run post → IsRunList low end (pre ++ (run ∷ post))
joined low end pre run post parts =
    IsRunList-append low end pre (run ∷ post) parts.prefix (parts.from, parts.some, parts.to, parts.back)

-- ---- the prefix of a run is taken away

-- what is left of a run: its blocks but the first
abbrev pub rest_of : Run → ℕ → Run
rest_of run count = record { first = run.first + count; count = run.count - count }

pub IsRunList-without : (low end : ℕ) (pre : List Run) (run : Run) (post : List Run) → IsRunList low end (pre ++ (run ∷ post)) → IsRunList low end (pre ++ post)
IsRunList-without low end pre run post whole =
    let parts = splits low end pre run post whole in
    IsRunList-append low end pre post parts.prefix
    (IsRunList-lower (after low pre) (run.first + run.count + 1) end post (omega (arith, parts.from)) parts.back)

pub IsRunList-rest : (low end : ℕ) (pre : List Run) (run : Run) (post : List Run) (count : ℕ) → count < run.count
    → IsRunList low end (pre ++ (run ∷ post)) → IsRunList low end (pre ++ (rest_of run count ∷ post))
IsRunList-rest low end pre run post count less whole =
    let parts = splits low end pre run post whole in
    joined low end pre (rest_of run count) post
    (record {
      prefix = parts.prefix;
      from = omega (arith, parts.from);
      some = omega arith;
      to = omega (arith, parts.to);
      back = IsRunList-lower _ (run.first + run.count + 1) end post (omega arith) parts.back;
    })

-- the blocks of a list of runs, of which the first blocks of one are left out
abbrev pub Without : List Run → List Run → ℕ → ℕ → Type 0
Without old new first count = (b : ℕ) → HasBlock new b ↔ (HasBlock old b × ¬ InBlocks b first count)

without_part : (low end : ℕ) (pre : List Run) (run : Run) (post left : List Run) (count : ℕ) (b : ℕ) → Splits low end pre run post → count ≤ run.count
    → (HasBlock left b → InBlocks b run.first run.count × ¬ InBlocks b run.first count)
    → HasBlock pre b ⊎ (HasBlock left b ⊎ HasBlock post b)
    → HasBlock (pre ++ (run ∷ post)) b × ¬ InBlocks b run.first count
without_part low end pre run post left count b parts few says (inl h) =
    (HasBlock-left pre (run ∷ post) b h, λ is_inside. absurd (omega (arith, HasBlock-after low end pre b parts.prefix h, parts.from, is_inside.low)))
without_part low end pre run post left count b parts few says (inr (inl h)) =
    (HasBlock-right pre (run ∷ post) b (inl (says h).0), (says h).1)
without_part low end pre run post left count b parts few says (inr (inr h)) =
    (HasBlock-right pre (run ∷ post) b (inr h), λ is_inside. absurd (omega (arith, HasBlock-low (run.first + run.count + 1) end post b parts.back h, is_inside.high)))

part_without : (pre : List Run) (run : Run) (post left : List Run) (count : ℕ) (b : ℕ)
    → (InBlocks b run.first run.count → ¬ InBlocks b run.first count → HasBlock left b)
    → HasBlock pre b ⊎ HasBlock (run ∷ post) b → ¬ InBlocks b run.first count
    → HasBlock (pre ++ (left ++ post)) b
part_without pre run post left count b says (inl h) out = HasBlock-from_parts pre left post b (inl h)
part_without pre run post left count b says (inr (inl h)) out = HasBlock-from_parts pre left post b (inr (inl (says h out)))
part_without pre run post left count b says (inr (inr h)) out = HasBlock-from_parts pre left post b (inr (inr h))

pub Without-all : (low end : ℕ) (pre : List Run) (run : Run) (post : List Run) → IsRunList low end (pre ++ (run ∷ post))
    → Without (pre ++ (run ∷ post)) (pre ++ post) run.first run.count
Without-all low end pre run post whole b = (
  λ h. without_part low end pre run post [] run.count b (splits low end pre run post whole) (omega arith) (λ no. absurd no) (HasBlock-parts pre [] post b h),
  λ h. part_without pre run post [] run.count b (λ l no. absurd (no l)) (HasBlock-cases pre (run ∷ post) b h.0) h.1,
)

pub Without-some : (low end : ℕ) (pre : List Run) (run : Run) (post : List Run) (count : ℕ) → count < run.count → IsRunList low end (pre ++ (run ∷ post))
    → Without (pre ++ (run ∷ post)) (pre ++ (rest_of run count ∷ post)) run.first count
Without-some low end pre run post count less whole b = (
  λ h. without_part low end pre run post (rest_of run count ∷ []) count b (splits low end pre run post whole) (omega arith)
      (elim [ inl l ↦ (record { low = omega (arith, l.low); high = omega (arith, l.high) }, λ no. absurd (omega (arith, l.low, no.high))) | inr none ↦ absurd none ])
      (HasBlock-parts pre (rest_of run count ∷ []) post b h),
  λ h. part_without pre run post (rest_of run count ∷ []) count b
      (λ l no. elim (cases_lt b (run.first + count)) [
        | inl lt ↦ absurd (no (record { low = l.low; high = lt }))
        | inr ge ↦ inl (record { low = ge; high = omega (arith, l.high) })
      ]) (HasBlock-cases pre (run ∷ post) b h.0) h.1,
)

-- ---- by index

pub split_at : (xs : List Run) (i : ℕ) (d : Run) → i < length xs → take i xs ++ (get_or xs i d ∷ drop (suc i) xs) ≡ xs
split_at xs i d lt = ap (λ ys. take i xs ++ ys) (sym (drop-cons xs i d lt)) ∙ take-append-drop i xs

whole_at : (low end : ℕ) (xs : List Run) (i : ℕ) (d : Run) → i < length xs → IsRunList low end xs
    → IsRunList low end (take i xs ++ (get_or xs i d ∷ drop (suc i) xs))
whole_at low end xs i d lt runs = let P : List Run → Type 0 = λ ys. IsRunList low end ys in subst P (sym (split_at xs i d lt)) runs

-- a run of the list
pub run_at : (low end : ℕ) (xs : List Run) (i : ℕ) (d : Run) → i < length xs → IsRunList low end xs
    → Splits low end (take i xs) (get_or xs i d) (drop (suc i) xs)
run_at low end xs i d lt runs = splits low end (take i xs) (get_or xs i d) (drop (suc i) xs) (whole_at low end xs i d lt runs)

pub IsRunList-remove : (low end : ℕ) (xs : List Run) (i : ℕ) (d : Run) → i < length xs → IsRunList low end xs → IsRunList low end (remove xs i)
IsRunList-remove low end xs i d lt runs =
    IsRunList-without low end (take i xs) (get_or xs i d) (drop (suc i) xs) (whole_at low end xs i d lt runs)

pub Without-remove : (low end : ℕ) (xs : List Run) (i : ℕ) (d : Run) → i < length xs → IsRunList low end xs
    → Without xs (remove xs i) (get_or xs i d).first (get_or xs i d).count
Without-remove low end xs i d lt runs =
    let P : List Run → Type 0 = λ ys. Without ys (remove xs i) (get_or xs i d).first (get_or xs i d).count in
    subst P (split_at xs i d lt)
    (Without-all low end (take i xs) (get_or xs i d) (drop (suc i) xs) (whole_at low end xs i d lt runs))

pub IsRunList-set_rest : (low end : ℕ) (xs : List Run) (i : ℕ) (d : Run) (count : ℕ) → i < length xs → count < (get_or xs i d).count → IsRunList low end xs
    → IsRunList low end (set xs i (rest_of (get_or xs i d) count))
IsRunList-set_rest low end xs i d count lt less runs =
    let P : List Run → Type 0 = λ ys. IsRunList low end ys in
    subst P (sym (set_split xs i (rest_of (get_or xs i d) count) lt))
    (IsRunList-rest low end (take i xs) (get_or xs i d) (drop (suc i) xs) count less (whole_at low end xs i d lt runs))

pub Without-set_rest : (low end : ℕ) (xs : List Run) (i : ℕ) (d : Run) (count : ℕ) → i < length xs → count < (get_or xs i d).count → IsRunList low end xs
    → Without xs (set xs i (rest_of (get_or xs i d) count)) (get_or xs i d).first count
Without-set_rest low end xs i d count lt less runs =
    let old : List Run → Type 0 = λ old. Without old (take i xs ++ (rest_of (get_or xs i d) count ∷ drop (suc i) xs)) (get_or xs i d).first count in
    let new : List Run → Type 0 = λ new. Without xs new (get_or xs i d).first count in
    subst new (sym (set_split xs i (rest_of (get_or xs i d) count) lt))
    (subst old (split_at xs i d lt)
    (Without-some low end (take i xs) (get_or xs i d) (drop (suc i) xs) count less (whole_at low end xs i d lt runs)))

-- runs begin in order
pub first_in_order : (low end : ℕ) (xs : List Run) (i j : ℕ) (d : Run) → IsRunList low end xs → i ≤ j → j < length xs
    → (get_or xs i d).first ≤ (get_or xs j d).first
first_in_order low end [] i j d runs le lt = absurd (omega arith)
first_in_order low end (x ∷ xs) zero zero d runs le lt = omega arith
first_in_order low end (x ∷ xs) zero (suc j) d runs le lt =
    let following = run_at (x.first + x.count + 1) end xs j d (omega arith) runs.3 in
    let low = after-low (x.first + x.count + 1) end (take j xs) following.prefix in
    omega (arith, following.from, low)
first_in_order low end (x ∷ xs) (suc i) zero d runs le lt = absurd (omega arith)
first_in_order low end (x ∷ xs) (suc i) (suc j) d runs le lt =
    first_in_order (x.first + x.count + 1) end xs i j d runs.3 (omega arith) (omega arith)

-- whether a run begins before a block parts the runs in two
pub begins_before_parts : (end : ℕ) (xs : List Run) (block : ℕ) → IsRunList 0 end xs → IsPartitionedBy (λ run. ltb run.first block) xs
begins_before_parts end xs block runs i j d le lt before =
    lt-ltb _ _ (omega (arith, first_in_order 0 end xs i j d runs le lt, ltb-true _ _ before))

-- the list has the blocks of its runs
pub HasBlock-at : (xs : List Run) (i : ℕ) (d : Run) (b : ℕ) → i < length xs → InBlocks b (get_or xs i d).first (get_or xs i d).count → HasBlock xs b
HasBlock-at [] i d b lt is_inside = absurd (omega arith)
HasBlock-at (x ∷ xs) zero d b lt is_inside = inl is_inside
HasBlock-at (x ∷ xs) (suc i) d b lt is_inside = inr (HasBlock-at xs i d b (omega arith) is_inside)

-- runs whose blocks are all below a number are a list before it
pub IsRunList-below : (low end used : ℕ) (runs : List Run) → IsRunList low end runs → ((b : ℕ) → HasBlock runs b → b < used) → IsRunList low used runs
IsRunList-below low end used [] list below = tt
IsRunList-below low end used (run ∷ runs) list below =
    let last : run.first + run.count - 1 < used = below (run.first + run.count - 1) (inl (record { low = omega (arith, list.1); high = omega (arith, list.1) })) in
    (list.0, list.1, omega (arith, last, list.1), IsRunList-below (run.first + run.count + 1) end used runs list.3 (λ b h. below b (inr h)))
