-- The four kinds of step on the count of owners, under its invariant. Assumes `Logic`.
--     looks      an owner that lends its token reads the count
--     joins      and adds one to it, where it is the number that the caller has seen
--     claims     an owner that reads 1 has the block
--     leaves     an owner takes one off, and who finds 1 has the block
use Rattle.std.proofs.Common.{◌≡◌, ◌≢◌, ℕ, ◌+◌, ◌-◌, ◌%◌, ◌^◌, ◌<◌, eqb, Bool, true, false, List, [], ◌∷◌, sym, refl, subst, arith, eq-eqb, ne_eqb}
use mathlib.Core.Logic.{dite}
use mathlib.Core.List.{Mem, not-mem-nil}
use native.Mathlib.Decide.{ℕ_discrete}
use seplogic.Ra.Ura.{Ura}
use base.Fraction.{full_share}
use base.Logic.{SProp, ent, sep, wand, ex, all, guard, upd, upd_i, ex_i, ex∗, via, never, never_e, emp}
use base.Fml.{Share, Fml, ftrue, fsep, fex, fall, flft, fdead, flent, finv, fnamed}
use prog.Atomic.{either}
use types.Logic.{Logic, sem}
use types.Kit.{‵, raw, ◌⊛◌, some, given, ◌$◌, ◌∵◌, !, qed, by, move, keep, drop, split, split3, fsplit, fsplit3, fjoin, fjoin3, fpick, fpack, pick, learn, show, check, frame, each, assume, suffices, use1, use2, rewrite, done}
use types.RcWeak.{part, rest, Fine, takes, gives, whole}
use denote.RawPtr.{block_ptr}
use Rattle.core.specs.Sync.RawAtomic.{Shift, rests, ends, enters, leaves as leaving, along, shifted, if_none, found, back, asks, always, word}
use Rattle.core.specs.Thread.Scope.{refcount_state, refcount_if_alive, refcount_invariant}

module _ (P : Fml) (b o a : ℕ) where
  abbrev pub Count : Fml
  Count = refcount_invariant P b o a

  -- what the last owner has, with the count at w
  abbrev pub last : ℕ → Fml
  last w = fsep (word b o w) (fsep (fdead (a ∷ [])) (flent (a ∷ []) P))

  abbrev pub after_look : Share → ℕ → Fml
  after_look s n = fsep (flft (a ∷ []) s) (fex (0 < n) (λ _. ftrue))

  abbrev pub after_join : ℕ → Share → ℕ → Fml
  after_join seen s n = fsep (flft (a ∷ []) s) (fall (n ≡ seen) (λ _. part 63 a))

  abbrev pub after_claim : ℕ → Fml
  after_claim n = fsep (fall (n ≡ 1) (λ _. last 1)) (fall (n ≢ 1) (λ _. part 63 a))

  abbrev pub after_leave : ℕ → Fml
  after_leave n = fall (n ≡ 1) (λ _. last 0)

  module _ {M : Type 1} {𝓤 : Ura M} (𝓛 : Logic 𝓤) where
    open 𝓛 use {H, A}

    abbrev Pr : Type 2
    Pr = SProp 𝓤

    abbrev ◌⊢◌ : Pr → Pr → Type 1
    X ⊢ Y = ent 𝓤 X Y

    abbrev ◌∗◌ : Pr → Pr → Pr
    X ∗ Y = sep 𝓤 X Y

    abbrev ◌-∗◌ : Pr → Pr → Pr
    X -∗ Y = wand 𝓤 X Y

    abbrev ⟦◌⟧ : Fml → Pr
    ⟦ X ⟧ = sem 𝓛 X

    infix 26 ◌⊢◌
    infixr 35 ◌∗◌
    infixr 30 ◌-∗◌
    abbrev state : ℕ → Fml
    state n = refcount_state P b o a n

    abbrev opened : ℕ → List (ℕ × Fml)
    opened j = (j, Count) ∷ []

    abbrev Found : ℕ → (ℕ → ℕ) → (ℕ → Fml) → ℕ → Pr
    Found j f after = found 𝓛 (opened j) b o f always after

    vacuous : (φ : Type 0) → (φ → ⊥) → (X : Pr) → emp 𝓤 ⊢ all 𝓤 (λ (_ : φ). X)
    vacuous φ n X = record { apply = λ r h x. absurd (n x) }

    packs : (n : ℕ) → ⟦ state n ⟧ ⊢ ⟦ Count ⟧
    packs n = qed 𝓛 (‵ (state n) ∷ []) ∵ fpack ! ℕ (refcount_state P b o a) n $ fpack ! Bool (refcount_if_alive P b o a) true $ done !

    -- the invariant is opened for a step
    steps : (f : ℕ → ℕ) (after : ℕ → Fml) (X : Pr) → ((j : ℕ) → ⟦ Count ⟧ ∗ X ⊢ upd 𝓤 (ex 𝓤 (Found j f after))) → A.inv Count ∗ X ⊢ asks 𝓛 (block_ptr b o) f always after
    steps f after X h = let K : List (ℕ × Fml) → Pr = λ l. ex 𝓤 (found 𝓛 l b o f always after) in
        qed 𝓛 (‵ (finv Count) ∷ raw X ∷ []) ∵ use1 𝓛 (some (λ (j : ℕ). ‵ (fnamed j Count))) (𝓛.invs.inv_named Count) $ pick ! (λ j.
        suffices ! _ (ex_i 𝓤 (λ (s : Shift). along 𝓛 s K []) (enters j Count rests)) $
        suffices ! _ (upd_i 𝓤 (guard 𝓤 (¬ Mem j []) (A.named j Count ∗ (⟦ Count ⟧ -∗ upd 𝓤 (K (opened j)))))) $ check ! (λ m. not-mem-nil m) $ frame ! $ assume ! (‵ Count) $ by ! (h j))

    -- and closed again
    closes : (j : ℕ) (Z : Pr) → ⟦ Count ⟧ ∗ Z ⊢ shifted 𝓛 (if_none 𝓛 Z) (opened j)
    closes j Z = qed 𝓛 (‵ Count ∷ raw Z ∷ []) ∵ suffices ! _ (ex_i 𝓤 (λ (s : Shift). along 𝓛 s (if_none 𝓛 Z) (opened j)) (leaving rests)) $
        suffices ! _ (upd_i 𝓤 (⟦ Count ⟧ ∗ upd 𝓤 Z)) $ frame ! $ suffices ! _ (upd_i 𝓤 Z) $ done !

    -- and closed for good
    closes_last : (j w : ℕ) (Z : Pr) → ⟦ last w ⟧ ⊢ Z → A.lft (a ∷ []) full_share ∗ ⟦ word b o w ⟧ ∗ A.lent (a ∷ []) P ⊢ shifted 𝓛 (if_none 𝓛 Z) (opened j)
    closes_last j w Z k = let D : Pr = A.dead (a ∷ []) in
        qed 𝓛 (‵ (flft (a ∷ []) full_share) ∷ ‵ (word b o w) ∷ ‵ (flent (a ∷ []) P) ∷ []) ∵ suffices ! _ (ex_i 𝓤 (λ (s : Shift). along 𝓛 s (if_none 𝓛 Z) (opened j)) (ends a (leaving rests))) $
        suffices ! _ (upd_i 𝓤 (A.lft (a ∷ []) full_share ∗ (D -∗ upd 𝓤 (⟦ Count ⟧ ∗ upd 𝓤 Z)))) $ frame ! $ assume ! (‵ (fdead (a ∷ []))) $ suffices ! _ (upd_i 𝓤 (⟦ Count ⟧ ∗ upd 𝓤 Z)) $
        use1 𝓛 (‵ (fdead (a ∷ [])) ⊛ ‵ (fdead (a ∷ []))) (𝓛.lfts.dead_dup (a ∷ [])) $ split ! $ fpack ! Bool (refcount_if_alive P b o a) false $ frame ! $ suffices ! _ (upd_i 𝓤 Z) $
        move ! (1 ∷ 0 ∷ 2 ∷ []) $ fjoin3 ! $ by ! k

    -- who holds a share of the token finds the count
    finds : (X G : Pr) → A.dead (a ∷ []) ∗ X ⊢ never 𝓤 → ((n : ℕ) → ⟦ state n ⟧ ∗ X ⊢ G) → ⟦ Count ⟧ ∗ X ⊢ G
    finds X G none h = ex∗ 𝓤 (λ (y : Bool). ⟦ refcount_if_alive P b o a y ⟧) X (λ y. elim y as (λ y. ⟦ refcount_if_alive P b o a y ⟧ ∗ X ⊢ G) [
      | true ↦ ex∗ 𝓤 (λ (n : ℕ). ⟦ state n ⟧) X h
      | false ↦ via 𝓤 (never 𝓤) none (never_e 𝓤 G)
    ])

    not_ended : (s : Share) → A.dead (a ∷ []) ∗ A.lft (a ∷ []) s ⊢ never 𝓤
    not_ended s = qed 𝓛 (‵ (fdead (a ∷ [])) ∷ ‵ (flft (a ∷ []) s) ∷ []) ∵ move ! (1 ∷ []) $ by ! (𝓛.lfts.lft-dead (a ∷ []) s)

    not_gone : A.dead (a ∷ []) ∗ ⟦ part 63 a ⟧ ⊢ never 𝓤
    not_gone = qed 𝓛 (‵ (fdead (a ∷ [])) ∷ ‵ (part 63 a) ∷ []) ∵ move ! (1 ∷ []) $ fpick ! (λ e. fpick ! (λ c. by ! (𝓛.lfts.lft-dead (a ∷ []) e)))

    below : (n : ℕ) → ⟦ rest 63 a n ⟧ ⊢ guard 𝓤 ((0 < n) × (n < 2 ^ 63)) ⟦ rest 63 a n ⟧
    below n = qed 𝓛 (‵ (rest 63 a n) ∷ []) ∵ fpick ! (λ r. fpick ! (λ c. check ! (c.0, c.1) $ fpack ! (Fine 63 n r) (λ _. flft (a ∷ []) r) c $ fpack ! Share (λ s. fex (Fine 63 n s) (λ _. flft (a ∷ []) s)) r $ done !))

    module _ (s : Share) where
      abbrev Token : Pr
      Token = A.lft (a ∷ []) s

      pub looks : A.inv Count ∗ Token ⊢ asks 𝓛 (block_ptr b o) (λ n. n) always (after_look s)
      looks = let f : ℕ → ℕ = λ n. n in let after : ℕ → Fml = after_look s in steps f after Token (λ j. finds Token (upd 𝓤 (ex 𝓤 (Found j f after))) (not_ended s) (λ n.
          qed 𝓛 (‵ (state n) ∷ ‵ (flft (a ∷ []) s) ∷ []) ∵ suffices ! _ (upd_i 𝓤 (ex 𝓤 (Found j f after))) $ fsplit3 ! $ show ! (Found j f after) n $ frame ! $
          use1 𝓛 (given ((0 < n) × (n < 2 ^ 63)) (‵ (rest 63 a n))) (below n) $ learn ! (λ fine.
          each ! (λ (_ : Unit {0}). back 𝓛 (opened j) b o f after n) (λ _. assume ! (‵ (word b o n)) $ fjoin3 ! $ use1 𝓛 (‵ Count) (packs n) $ suffices ! _ (closes j ⟦ after n ⟧) $ frame ! $ frame ! $
          types.Kit.use0 𝓛 (‵ ftrue) (base.Logic.id⊢ 𝓤 (emp 𝓤)) $ fpack ! (0 < n) (λ _. ftrue) fine.0 $ done !))))

      module _ (seen : ℕ) (room : seen + 1 < 2 ^ 63) where
        abbrev next : ℕ → ℕ
        next n = either (eqb n seen) (seen + 1) n

        abbrev Joined : ℕ → Pr
        Joined n = ⟦ after_join seen s n ⟧

        hit : (j n : ℕ) → n ≡ seen → ⟦ word b o (seen + 1) ⟧ ∗ (⟦ rest 63 a n ⟧ ∗ A.lent (a ∷ []) P) ∗ Token ⊢ shifted 𝓛 (if_none 𝓛 (Joined n)) (opened j)
        hit j n e = qed 𝓛 (‵ (word b o (seen + 1)) ∷ (‵ (rest 63 a n) ⊛ ‵ (flent (a ∷ []) P)) ∷ ‵ (flft (a ∷ []) s) ∷ []) ∵ move ! (1 ∷ []) $ split ! $
            rewrite ! 0 (λ (k : ℕ). ‵ (rest 63 a k)) e refl $ use1 𝓛 (‵ (rest 63 a (seen + 1)) ⊛ ‵ (part 63 a)) (takes 63 𝓛 a seen room) $ split ! $
            -- [the rest; the part; the right to what is lent; the count; the token]
            move ! (3 ∷ 0 ∷ 2 ∷ []) $ fjoin3 ! $ use1 𝓛 (‵ Count) (packs (seen + 1)) $ suffices ! _ (closes j (Joined n)) $ frame ! $ move ! (1 ∷ []) $ frame ! $
            each ! (λ (_ : n ≡ seen). ⟦ part 63 a ⟧) (λ _. done !)

        miss : (j n : ℕ) → n ≢ seen → ⟦ word b o n ⟧ ∗ (⟦ rest 63 a n ⟧ ∗ A.lent (a ∷ []) P) ∗ Token ⊢ shifted 𝓛 (if_none 𝓛 (Joined n)) (opened j)
        miss j n e = qed 𝓛 (‵ (word b o n) ∷ (‵ (rest 63 a n) ⊛ ‵ (flent (a ∷ []) P)) ∷ ‵ (flft (a ∷ []) s) ∷ []) ∵ move ! (1 ∷ []) $ split ! $
            move ! (2 ∷ []) $ fjoin3 ! $ use1 𝓛 (‵ Count) (packs n) $ suffices ! _ (closes j (Joined n)) $ frame ! $ frame ! $ by ! (vacuous (n ≡ seen) e ⟦ part 63 a ⟧)

        pub joins : A.inv Count ∗ Token ⊢ asks 𝓛 (block_ptr b o) next always (after_join seen s)
        joins = let after : ℕ → Fml = after_join seen s in steps next after Token (λ j. finds Token (upd 𝓤 (ex 𝓤 (Found j next after))) (not_ended s) (λ n.
            let F : Bool → Type 1 = λ y. ⟦ word b o (either y (seen + 1) n) ⟧ ∗ (⟦ rest 63 a n ⟧ ∗ A.lent (a ∷ []) P) ∗ Token ⊢ shifted 𝓛 (if_none 𝓛 (Joined n)) (opened j) in
            let turn : F (eqb n seen) = dite (ℕ_discrete n seen) (λ e. subst F (sym (eq-eqb n seen e)) (hit j n e)) (λ e. subst F (sym (ne_eqb n seen e)) (miss j n e)) in
            qed 𝓛 (‵ (state n) ∷ ‵ (flft (a ∷ []) s) ∷ []) ∵ suffices ! _ (upd_i 𝓤 (ex 𝓤 (Found j next after))) $ fsplit3 ! $ show ! (Found j next after) n $ frame ! $ types.Kit.join ! $
            each ! (λ (_ : Unit {0}). back 𝓛 (opened j) b o next after n) (λ _. assume ! (‵ (word b o (next n))) $ by ! turn)))

    abbrev Part : Pr
    Part = ⟦ part 63 a ⟧

    -- an owner that finds the count n, where the step leaves f n
    module _ (f : ℕ → ℕ) (after : ℕ → Fml) (some_left : (j n : ℕ) → n ≢ 1 → 0 < n → n < 2 ^ 63 → ⟦ word b o (f n) ⟧ ∗ ⟦ rest 63 a n ⟧ ∗ A.lent (a ∷ []) P ∗ Part ⊢ shifted 𝓛 (if_none 𝓛 ⟦ after n ⟧) (opened j)) (none_left : ⟦ last (f 1) ⟧ ⊢ ⟦ after 1 ⟧) where
      alone : (j n : ℕ) → n ≡ 1 → ⟦ word b o (f n) ⟧ ∗ ⟦ rest 63 a n ⟧ ∗ A.lent (a ∷ []) P ∗ Part ⊢ shifted 𝓛 (if_none 𝓛 ⟦ after n ⟧) (opened j)
      alone j n e = subst (λ (k : ℕ). ⟦ word b o (f k) ⟧ ∗ ⟦ rest 63 a k ⟧ ∗ A.lent (a ∷ []) P ∗ Part ⊢ shifted 𝓛 (if_none 𝓛 ⟦ after k ⟧) (opened j)) (sym e)
          (qed 𝓛 (‵ (word b o (f 1)) ∷ ‵ (rest 63 a 1) ∷ ‵ (flent (a ∷ []) P) ∷ ‵ (part 63 a) ∷ []) ∵ move ! (1 ∷ 3 ∷ []) $ use2 𝓛 (‵ (flft (a ∷ []) full_share)) (whole 63 𝓛 a) $ by ! (closes_last j (f 1) ⟦ after 1 ⟧ none_left))

      turns : A.inv Count ∗ Part ⊢ asks 𝓛 (block_ptr b o) f always after
      turns = steps f after Part (λ j. finds Part (upd 𝓤 (ex 𝓤 (Found j f after))) not_gone (λ n.
          qed 𝓛 (‵ (state n) ∷ ‵ (part 63 a) ∷ []) ∵ suffices ! _ (upd_i 𝓤 (ex 𝓤 (Found j f after))) $ fsplit3 ! $ show ! (Found j f after) n $ frame ! $
          use1 𝓛 (given ((0 < n) × (n < 2 ^ 63)) (‵ (rest 63 a n))) (below n) $ learn ! (λ fine.
          each ! (λ (_ : Unit {0}). back 𝓛 (opened j) b o f after n) (λ _. assume ! (‵ (word b o (f n))) $ by ! (dite (ℕ_discrete n 1) (alone j n) (λ e. some_left j n e fine.0 fine.1))))))

    pub claims : A.inv Count ∗ Part ⊢ asks 𝓛 (block_ptr b o) (λ n. n) always after_claim
    claims = turns (λ n. n) after_claim (λ j n e low high.
        qed 𝓛 (‵ (word b o n) ∷ ‵ (rest 63 a n) ∷ ‵ (flent (a ∷ []) P) ∷ ‵ (part 63 a) ∷ []) ∵ fjoin3 ! $ use1 𝓛 (‵ Count) (packs n) $ suffices ! _ (closes j ⟦ after_claim n ⟧) $ frame ! $
        types.Kit.use0 𝓛 (raw (all 𝓤 (λ (_ : n ≡ 1). ⟦ last 1 ⟧))) (vacuous (n ≡ 1) e ⟦ last 1 ⟧) $ frame ! $ each ! (λ (_ : n ≢ 1). Part) (λ _. done !))
        (let Not : Type 0 = ◌≢◌ {A = ℕ} 1 1 in
        qed 𝓛 (‵ (last 1) ∷ []) ∵ use1 𝓛 (raw (all 𝓤 (λ (_ : ◌≡◌ {A = ℕ} 1 1). ⟦ last 1 ⟧))) (base.Logic.all_i 𝓤 (λ (_ : ◌≡◌ {A = ℕ} 1 1). ⟦ last 1 ⟧) (λ _. base.Logic.id⊢ 𝓤 ⟦ last 1 ⟧)) $
        types.Kit.use0 𝓛 (raw (all 𝓤 (λ (_ : Not). Part))) (vacuous Not (λ ne. ne refl) Part) $ move ! (1 ∷ 0 ∷ []) $ done !)

    pub leaves : A.inv Count ∗ Part ⊢ asks 𝓛 (block_ptr b o) (λ n. (n + (2 ^ 64 - 1)) % 2 ^ 64) always after_leave
    leaves = let f : ℕ → ℕ = λ n. (n + (2 ^ 64 - 1)) % 2 ^ 64 in turns f after_leave (λ j n e low high.
        qed 𝓛 (‵ (word b o (f n)) ∷ ‵ (rest 63 a n) ∷ ‵ (flent (a ∷ []) P) ∷ ‵ (part 63 a) ∷ []) ∵ rewrite ! 0 (λ (k : ℕ). ‵ (word b o k)) (let m : f n ≡ n - 1 = omega arith in m) refl $
        move ! (1 ∷ 3 ∷ []) $ use2 𝓛 (‵ (rest 63 a (n - 1))) (gives 63 𝓛 a n (omega arith)) $ move ! (1 ∷ []) $ fjoin3 ! $ use1 𝓛 (‵ Count) (packs (n - 1)) $ suffices ! _ (closes j ⟦ after_leave n ⟧) $
        frame ! $ by ! (vacuous (n ≡ 1) e ⟦ last 0 ⟧))
        (qed 𝓛 (‵ (last 0) ∷ []) ∵ each ! (λ (_ : 1 ≡ 1). ⟦ last 0 ⟧) (λ _. done !))
