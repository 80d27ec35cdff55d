-- Why a run of 16 blocks is free where there are few names. Of the windows of 16 blocks that begin at
-- every 32nd block, an extent of at most 16 blocks meets one at most. So k extents leave one of k + 1
-- windows free, and what is free beside one another is one run.
use Rattle.std.proofs.Common.{◌≡◌, ℕ, suc, zero, ◌+◌, ◌*◌, ◌/◌, ◌<◌, ◌≤◌, ◌^◌, Bool, true, false, cond, eqb, ◌||◌, List, [], ◌∷◌, length, map, Option, Some, None, ◌⊎◌, inl, inr, refl, sym, ap, ◌∙◌, arith}
use Rattle.std.specs.Ordering.{nat_cmp, eq_by_cmp}
use Rattle.std.specs.List.{list_any}
use Rattle.std.specs.FinMap as map
use Rattle.std.specs.FinMap.{find, entries, get-entries, len-entries}
use Rattle.std.proofs.lemmas.Bool.{cases_Bool, cases_eq, cases_lt, eq-eqb, false≢true, true≢false}
use Rattle.std.proofs.lemmas.List.{length-map}
use Rattle.std.proofs.lemmas.Map.Steps.{le-length_from_below}
use Rattle.chain_owners.specs.declared.run.Run.{Run}
use Rattle.swap_store.specs.declared.block_map.Extent.{Extent}
use Rattle.swap_store.specs.Run.{HasBlock, IsRunList, longest}
use Rattle.swap_store.specs.Placement.{Placement, IsPlacement}
use Rattle.swap_store.proofs.RunLists.{HasBlock-low}

-- free blocks beside one another are in one run
pub window-longest : (low end : ℕ) (runs : List Run) (a n : ℕ) → IsRunList low end runs → 1 ≤ n
    → ((b : ℕ) → a ≤ b → b < a + n → HasBlock runs b) → n ≤ longest runs
window-longest low end [] a n list some all = absurd (all a (omega arith) (omega arith))
window-longest low end (x ∷ xs) a n list some all =
    let following : (b : ℕ) → HasBlock xs b → x.first + x.count + 1 ≤ b = λ b h. HasBlock-low (x.first + x.count + 1) end xs b list.3 h in
    elim (all a (omega arith) (omega arith)) [
      | inl here ↦ elim (cases_lt (x.first + x.count) (a + n)) [
        | inl lt ↦ absurd
            (elim (all (x.first + x.count) (omega (arith, here.high)) lt) [
              | inl again ↦ omega (arith, again.high)
              | inr later ↦ omega (arith, following (x.first + x.count) later)
            ])
        | inr ge ↦ omega (arith, here.low)
      ]
      | inr later ↦ omega (
        arith,
        window-longest (x.first + x.count + 1) end xs a n list.3 some
            (λ b le lt. elim (all b le lt) [
              | inl here ↦ absurd (omega (arith, here.high, following a later))
              | inr h ↦ h
            ]),
      )
    ]

-- each number below n is in the list, or one is not
all_or_missing : (ws : List ℕ) (n : ℕ) → ((q : ℕ) → q < n → list_any (eqb q) ws ≡ true) ⊎ ((j : ℕ) × (j < n) × (list_any (eqb j) ws ≡ false))
all_or_missing ws zero = inl (λ q lt. absurd (omega arith))
all_or_missing ws (suc n) = elim (all_or_missing ws n) [
  | inl all ↦ elim (cases_Bool (list_any (eqb n) ws)) [
    | inl here ↦ inl (λ q lt. elim (cases_eq q n) [
      | inl is ↦ ap (λ q. list_any (eqb q) ws) is ∙ here
      | inr ne ↦ all q (omega arith)
    ])
    | inr missing ↦ inr (n, omega arith, missing)
  ]
  | inr found ↦ inr (found.0, omega (arith, found.1), found.2)
]

missing : (ws : List ℕ) → (j : ℕ) × (j < length ws + 1) × (list_any (eqb j) ws ≡ false)
missing ws = elim (all_or_missing ws (length ws + 1)) [
  | inl all ↦ absurd (omega (arith, le-length_from_below ws (length ws + 1) all))
  | inr found ↦ found
]

-- the only window that an extent may meet
abbrev window_of : Extent → ℕ
window_of extent = (extent.first + 15) / 32

abbrev windows : List (ℕ × Extent) → List ℕ
windows es = map (λ (e : ℕ × Extent). window_of e.1) es

or-left : (a b : Bool) → a ≡ true → (a || b) ≡ true
or-left true b is = refl
or-left false b is = absurd (false≢true is)

or-right : (a b : Bool) → b ≡ true → (a || b) ≡ true
or-right true b is = refl
or-right false b is = is

first_or_later : (b : Bool) (x e : Extent) (o : Option Extent) → cond b (Some x) o ≡ Some e → (x ≡ e) ⊎ (o ≡ Some e)
first_or_later true x e o is = inl cc
first_or_later false x e o is = inr is

windows-has : (es : List (ℕ × Extent)) (q : ℕ) (e : Extent) → find nat_cmp q es ≡ Some e → list_any (eqb (window_of e)) (windows es) ≡ true
windows-has [] q e is = absurd (let no_such : None ≡ Some e = is in cc)
windows-has (x ∷ es) q e is = elim (first_or_later (eq_by_cmp nat_cmp q x.0) x.1 e (find nat_cmp q es) is) [
  | inl here ↦ or-left _ _ (eq-eqb (window_of e) (window_of x.1) (ap window_of (sym here)))
  | inr later ↦ or-right _ _ (windows-has es q e later)
]

pub few_names_leave_room : (p : Placement) → IsPlacement p → 32 * (map.len p.extents + 1) ≤ p.used → 16 ≤ longest p.free
few_names_leave_room p laws few =
    let ws = windows (entries p.extents) in
    let count : length ws ≡ map.len p.extents = length-map (entries p.extents) (λ (e : ℕ × Extent). window_of e.1) ∙ sym (len-entries p.extents) in
    let found = missing ws in
    let j = found.0 in
    let below : j < map.len p.extents + 1 = omega (arith, found.1) in
    window-longest 0 (2 ^ 20) p.free (32 * j) 16 laws.runs (omega arith)
    (λ b le lt. (laws.exact b).1 (
      omega (arith, few),
      λ q e known is_inside.
          let size = (laws.fits q e known).0 in
          let met : window_of e ≡ j = omega (arith, is_inside.low, is_inside.high, size.0, size.1) in
          let has = windows-has (entries p.extents) q e (sym (get-entries p.extents q) ∙ known) in
          true≢false (sym has ∙ ap (λ w. list_any (eqb w) ws) met ∙ found.2),
    ))
