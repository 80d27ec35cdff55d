-- Each step of a batch keeps its rule.
use Rattle.std.proofs.Common.{◌≡◌, ◌≢◌, ℕ, zero, suc, ◌+◌, ◌-◌, ◌<◌, ◌≤◌, ◌==◌, cond, List, [], ◌∷◌, ◌++◌, length, set, Some, slice_get, refl, sym, ap, ◌∙◌, subst, ⊎_elim, length-append, arith}
use mathlib.Core.Option.{some, some-injective, some-ne-none}
use lib.ListN.{get_elem?}
use Rattle.crossbeam_deque.specs.Tasks.{Pushes, Takes, Forks, Merges, Learns}
use Rattle.crossbeam_deque.proofs.Lists.{at_set, at_snoc}
use Rattle.std.proofs.lemmas.Bool.Decides.{nat_tests}
use Rattle.work_batches.specs.declared.pieces.Piece.{Piece}
use Rattle.work_batches.specs.declared.pieces.Hand.{Hand}
use Rattle.work_batches.specs.declared.pieces.Answer.{Answer}
use Rattle.work_batches.specs.Pool.{Answers, CanDo, numbered, hand, times, total, IsPushed, Each, once_below, Shared, AllTaken}

once_more : (k n : ℕ) → once_below k (suc n) ≡ cond (k == n) 1 0 + once_below k n
once_more k n = grind (arith, nat_tests)

module _ {T : Type 0} where
  total_set : (f : Hand T → ℕ) (views : List (Hand T)) (port : ℕ) (v w : Hand T) → get_elem? views port ≡ some v → total f (set views port w) + f v ≡ total f views + f w
  total_set f [] port v w e = absurd (some-ne-none v (sym e))
  total_set f (x ∷ xs) zero v w e = let h : f x ≡ f v = ap f (some-injective x v e) in omega arith
  total_set f (x ∷ xs) (suc port) v w e = let h = total_set f xs port v w e in omega arith

  total_snoc : (f : Hand T → ℕ) (views : List (Hand T)) (w : Hand T) → total f (views ++ w ∷ []) ≡ total f views + f w
  total_snoc f [] w = omega arith
  total_snoc f (x ∷ xs) w = let h = total_snoc f xs w in omega arith

  abbrev All : (ℕ → Hand T → Type 0) → List (Hand T) → Type 0
  All F views = (port : ℕ) (v : Hand T) → get_elem? views port ≡ some v → F port v

  all_set : (F : ℕ → Hand T → Type 0) (views : List (Hand T)) (port : ℕ) (w : Hand T) → F port w → ((j : ℕ) (u : Hand T) → j ≢ port → get_elem? views j ≡ some u → F j u) → All F (set views port w)
  all_set F views port w mine others j u e = ⊎_elim (λ (x : (j ≡ port) × (w ≡ u)). subst (λ (y : ℕ × Hand T). F y.0 y.1) (λ i. (sym x.0 i, x.1 i)) mine)
      (λ (x : (j ≢ port) × (get_elem? views j ≡ some u)). others j u x.0 x.1) (at_set views port j w u e)

  all_snoc : (F : ℕ → Hand T → Type 0) (views : List (Hand T)) (w : Hand T) → All F views → ((j : ℕ) → F j w) → All F (views ++ w ∷ [])
  all_snoc F views w old new j u e = ⊎_elim (λ (x : get_elem? views j ≡ some u). old j u x) (λ (x : w ≡ u). subst (F j) x (new j)) (at_snoc views w u j e)

  times_append : (k : ℕ) (xs ys : List (Piece T)) → times k (xs ++ ys) ≡ times k xs + times k ys
  times_append k [] ys = omega arith
  times_append k (x ∷ xs) ys = let h = times_append k xs ys in omega arith

  each_append : (P : Piece T → Type 0) (xs ys : List (Piece T)) → Each P xs → Each P ys → Each P (xs ++ ys)
  each_append P [] ys a b = b
  each_append P (x ∷ xs) ys a b = (a.0, each_append P xs ys a.1 b)

  each_front : (P : Piece T → Type 0) (xs ys : List (Piece T)) → Each P (xs ++ ys) → Each P xs
  each_front P [] ys a = tt
  each_front P (x ∷ xs) ys a = (a.0, each_front P xs ys a.1)

  each_back : (P : Piece T → Type 0) (xs ys : List (Piece T)) → Each P (xs ++ ys) → Each P ys
  each_back P [] ys a = a
  each_back P (x ∷ xs) ys a = each_back P xs ys a.1

  each_more : (P Q : Piece T → Type 0) → ((p : Piece T) → P p → Q p) → (xs : List (Piece T)) → Each P xs → Each Q xs
  each_more P Q f [] a = tt
  each_more P Q f (x ∷ xs) a = (f x a.0, each_more P Q f xs a.1)

  get_longer : (xs ys : List (Piece T)) (k : ℕ) (p : Piece T) → slice_get xs k ≡ Some p → slice_get (xs ++ ys) k ≡ Some p
  get_longer [] ys k p e = absurd (cc)
  get_longer (x ∷ xs) ys zero p e = e
  get_longer (x ∷ xs) ys (suc k) p e = get_longer xs ys k p e

  get_last : (xs : List (Piece T)) (p : Piece T) → slice_get (xs ++ p ∷ []) (length xs) ≡ Some p
  get_last [] p = refl
  get_last (x ∷ xs) p = get_last xs p

  first_only : (F : ℕ → Hand T → Type 0) (w : Hand T) → F 0 w → All F (w ∷ [])
  first_only F w h zero u e = subst (F 0) (some-injective w u e) h
  first_only F w h (suc j) u e = absurd (some-ne-none u (sym e))

  part_at_most : (views : List (Hand T)) (j : ℕ) (u : Hand T) → get_elem? views j ≡ some u → u.parts ≤ total (λ w. w.parts) views
  part_at_most [] j u e = absurd (some-ne-none u (sym e))
  part_at_most (x ∷ xs) zero u e = let h : x.parts ≡ u.parts = ap (λ (w : Hand T). w.parts) (some-injective x u e) in omega arith
  part_at_most (x ∷ xs) (suc j) u e = let h = part_at_most xs j u e in omega arith

  -- beside who has every part, no pass has one
  others_none : (views : List (Hand T)) (port : ℕ) (v : Hand T) (j : ℕ) (u : Hand T) → get_elem? views port ≡ some v → get_elem? views j ≡ some u → j ≢ port → total (λ w. w.parts) views ≡ v.parts → u.parts ≡ 0
  others_none [] port v j u at there apart all = absurd (some-ne-none v (sym at))
  others_none (x ∷ xs) zero v zero u at there apart all = absurd (apart refl)
  others_none (x ∷ xs) zero v (suc j) u at there apart all =
      let is : x.parts ≡ v.parts = ap (λ (w : Hand T). w.parts) (some-injective x v at) in
      let most = part_at_most xs j u there in omega arith
  others_none (x ∷ xs) (suc port) v zero u at there apart all =
      let is : x.parts ≡ u.parts = ap (λ (w : Hand T). w.parts) (some-injective x u there) in
      let most = part_at_most xs port v at in omega arith
  others_none (x ∷ xs) (suc port) v (suc j) u at there apart all =
      let most = part_at_most xs port v at in
      others_none xs port v j u at there (λ e. apart (ap suc e)) (omega arith)

  -- a pass takes pieces
  pub takes : (port : ℕ) (v : Hand T) → 0 < v.parts → Takes Shared port v 1 (λ xs w. (w ≡ hand v.parts v.pushed (v.taken ++ xs)) × Each (IsPushed v.pushed) xs)
  takes port v part xs items views _ _ h at =
      let w : Hand T = hand v.parts v.pushed (v.taken ++ xs) in (
        w,
        record {
          pushed = h.pushed;
          parts = (let s = total_set (λ u. u.parts) views port v w at in let p = h.parts in omega arith);
          numbers = (λ k. let s = total_set (λ u. times k u.taken) views port v w at in let n = h.numbers k in let a = times_append k v.taken xs in let b = times_append k xs items in omega arith);
          lengths = (let s = total_set (λ u. length u.taken) views port v w at in let n = h.lengths in let a = length-append v.taken xs in let b = length-append xs items in omega arith);
          items_are = each_back (IsPushed h.pushed) xs items h.items_are;
          idle = all_set (λ j u. u.parts ≡ 0 → u.taken ≡ []) views port w (λ none. absurd (omega arith)) (λ j u _ is. h.idle j u is);
          knows = all_set (λ j u. 0 < u.parts → u.pushed ≡ h.pushed) views port w (h.knows port v at) (λ j u _ is. h.knows j u is);
          taken_are = all_set (λ j u. Each (IsPushed h.pushed) u.taken) views port w (each_append (IsPushed h.pushed) v.taken xs (h.taken_are port v at) (each_front (IsPushed h.pushed) xs items h.items_are)) (λ j u _ is. h.taken_are j u is);
        },
        (refl, subst (λ (l : List (Piece T)). Each (IsPushed l) xs) (sym (h.knows port v at part)) (each_front (IsPushed h.pushed) xs items h.items_are)),
      )

  -- the owner pushes the next piece
  pub pushes : (port : ℕ) (v : Hand T) (x : Piece T) → v.parts ≡ 1024 → x.number ≡ length v.pushed → Pushes Shared port v (x ∷ []) (λ w. w ≡ hand v.parts (v.pushed ++ x ∷ []) v.taken)
  pushes port v x may next items views h at =
      let w : Hand T = hand v.parts (v.pushed ++ x ∷ []) v.taken in
      let mine : v.pushed ≡ h.pushed = h.knows port v at (omega (arith, may)) in
      let all : List (Piece T) = h.pushed ++ x ∷ [] in
      let number : x.number ≡ length h.pushed = next ∙ ap length mine in
      let longer : (p : Piece T) → IsPushed h.pushed p → IsPushed all p = λ p e. get_longer h.pushed (x ∷ []) p.number p e in
      let here : IsPushed all x = subst (λ (n : ℕ). slice_get all n ≡ Some x) (sym number) (get_last h.pushed x) in (
        w,
        record {
          pushed = all;
          parts = (let s = total_set (λ u. u.parts) views port v w at in let p = h.parts in omega arith);
          numbers = (λ k. let s = total_set (λ u. times k u.taken) views port v w at in let n = h.numbers k in let a = times_append k items (x ∷ []) in
              let l : length all ≡ suc (length h.pushed) = omega (arith, length-append h.pushed (x ∷ [])) in
              let o = once_more k (length h.pushed) in
              let c : cond {A = ℕ} (k == x.number) 1 0 ≡ cond {A = ℕ} (k == length h.pushed) 1 0 = ap (λ n. cond {A = ℕ} (k == n) 1 0) number in
              let e : once_below k (length all) ≡ once_below k (suc (length h.pushed)) = ap (once_below k) l in omega arith);
          lengths = (let s = total_set (λ u. length u.taken) views port v w at in let n = h.lengths in let a = length-append items (x ∷ []) in let b = length-append h.pushed (x ∷ []) in omega arith);
          items_are = each_append (IsPushed all) items (x ∷ []) (each_more (IsPushed h.pushed) (IsPushed all) longer items h.items_are) (here, tt);
          idle = all_set (λ j u. u.parts ≡ 0 → u.taken ≡ []) views port w (h.idle port v at) (λ j u _ is. h.idle j u is);
          knows = all_set (λ j u. 0 < u.parts → u.pushed ≡ all) views port w (λ _. ap (λ l. l ++ x ∷ []) mine) (λ j u other is some. let none = others_none views port v j u at is other (h.parts ∙ sym may) in absurd (omega (arith, none, some)));
          taken_are = all_set (λ j u. Each (IsPushed all) u.taken) views port w (each_more (IsPushed h.pushed) (IsPushed all) longer v.taken (h.taken_are port v at)) (λ j u _ is. each_more (IsPushed h.pushed) (IsPushed all) longer u.taken (h.taken_are j u is));
        },
        refl,
      )

  abbrev empty : ℕ → Hand T → Type 0
  empty j u = u.parts ≡ 0 → u.taken ≡ []

  -- where the parts of the others are 0, so is what they took
  none_taken : (f : Hand T → ℕ) (views : List (Hand T)) → ((j : ℕ) (u : Hand T) → get_elem? views j ≡ some u → u.parts ≡ 0 → f u ≡ 0) → total (λ u. u.parts) views ≡ 0 → total f views ≡ 0
  none_taken f [] idle e = refl
  none_taken f (x ∷ xs) idle e = let a : f x ≡ 0 = idle 0 x refl (omega arith) in let b = none_taken f xs (λ j u is. idle (suc j) u is) (omega arith) in omega arith

  at_most : (f : Hand T → ℕ) (views : List (Hand T)) (port : ℕ) (v : Hand T) → get_elem? views port ≡ some v → f v ≤ total f views
  at_most f [] port v e = absurd (some-ne-none v (sym e))
  at_most f (x ∷ xs) zero v e = let h : f x ≡ f v = ap f (some-injective x v e) in omega arith
  at_most f (x ∷ xs) (suc port) v e = let h = at_most f xs port v e in omega arith

  sole : (f : Hand T → ℕ) (views : List (Hand T)) (port : ℕ) (v : Hand T) → ((j : ℕ) (u : Hand T) → get_elem? views j ≡ some u → u.parts ≡ 0 → f u ≡ 0) → get_elem? views port ≡ some v → total (λ u. u.parts) views ≡ v.parts → total f views ≡ f v
  sole f [] port v idle at e = absurd (some-ne-none v (sym at))
  sole f (x ∷ xs) zero v idle at e =
      let is : x ≡ v = some-injective x v at in
      let p : x.parts ≡ v.parts = ap (λ (u : Hand T). u.parts) is in
      let n = none_taken f xs (λ j u t. idle (suc j) u t) (omega arith) in
      let s : f x ≡ f v = ap f is in omega arith
  sole f (x ∷ xs) (suc port) v idle at e =
      let m = at_most (λ u. u.parts) xs port v at in
      let a : f x ≡ 0 = idle 0 x refl (omega arith) in
      let b = sole f xs port v (λ j u is. idle (suc j) u is) at (omega arith) in omega arith

  idle_length : (views : List (Hand T)) → All empty views → (j : ℕ) (u : Hand T) → get_elem? views j ≡ some u → u.parts ≡ 0 → length u.taken ≡ 0
  idle_length views h j u is none = ap length (h j u is none)

  idle_times : (k : ℕ) (views : List (Hand T)) → All empty views → (j : ℕ) (u : Hand T) → get_elem? views j ≡ some u → u.parts ≡ 0 → times k u.taken ≡ 0
  idle_times k views h j u is none = ap (times k) (h j u is none)

  -- who has every part knows the whole
  pub learns : (port : ℕ) (v : Hand T) → v.parts ≡ 1024 → Learns Shared port v (λ items. (length v.taken + length items ≡ length v.pushed) × (items ≡ [] → AllTaken v.pushed v.taken))
  learns port v whole items views h at =
      let mine : v.pushed ≡ h.pushed = h.knows port v at (omega (arith, whole)) in
      let all : total (λ u. u.parts) views ≡ v.parts = h.parts ∙ sym whole in
      let l = sole (λ u. length u.taken) views port v (idle_length views h.idle) at all in
      let e : length v.pushed ≡ length h.pushed = ap length mine in
      let n = h.lengths in (
        omega arith,
        λ none. record {
          numbers = λ k. let s = sole (λ u. times k u.taken) views port v (idle_times k views h.idle) at all in
              let m = h.numbers k in
              let z : times k items ≡ 0 = ap (times k) none in
              let o : once_below k (length h.pushed) ≡ once_below k (length v.pushed) = ap (once_below k) (sym e) in omega arith;
          are = subst (λ (l : List (Piece T)). Each (IsPushed l) v.taken) (sym mine) (h.taken_are port v at);
        },
      )

  pub begins : Shared {T = T} [] (hand 1024 [] [] ∷ [])
  begins = record {
    pushed = [];
    parts = refl;
    numbers = λ k. grind (arith, nat_tests);
    lengths = refl;
    items_are = tt;
    idle = first_only (λ j u. u.parts ≡ 0 → u.taken ≡ []) (hand 1024 [] []) (λ _. refl);
    knows = first_only (λ j u. 0 < u.parts → u.pushed ≡ []) (hand 1024 [] []) (λ _. refl);
    taken_are = first_only (λ j u. Each (IsPushed []) u.taken) (hand 1024 [] []) tt;
  }

  pub forks : (port : ℕ) (v : Hand T) → 1 < v.parts → Forks Shared port v (hand (v.parts - 1) v.pushed v.taken) (hand 1 v.pushed [])
  forks port v parts items views h at =
      let l : Hand T = hand (v.parts - 1) v.pushed v.taken in
      let r : Hand T = hand 1 v.pushed [] in
      let vs : List (Hand T) = set views port l in record {
        pushed = h.pushed;
        parts = (let s = total_set (λ u. u.parts) views port v l at in let t = total_snoc (λ u. u.parts) vs r in let p = h.parts in omega arith);
        numbers = (λ k. let s = total_set (λ u. times k u.taken) views port v l at in let t = total_snoc (λ u. times k u.taken) vs r in let n = h.numbers k in omega arith);
        lengths = (let s = total_set (λ u. length u.taken) views port v l at in let t = total_snoc (λ u. length u.taken) vs r in let n = h.lengths in omega arith);
        items_are = h.items_are;
        idle = all_snoc (λ j u. u.parts ≡ 0 → u.taken ≡ []) vs r (all_set (λ j u. u.parts ≡ 0 → u.taken ≡ []) views port l (λ none. absurd (omega arith)) (λ j u _ is. h.idle j u is)) (λ j _. refl);
        knows = all_snoc (λ j u. 0 < u.parts → u.pushed ≡ h.pushed) vs r (all_set (λ j u. 0 < u.parts → u.pushed ≡ h.pushed) views port l (λ _. h.knows port v at (omega (arith, parts))) (λ j u _ is. h.knows j u is)) (λ j _. h.knows port v at (omega (arith, parts)));
        taken_are = all_snoc (λ j u. Each (IsPushed h.pushed) u.taken) vs r (all_set (λ j u. Each (IsPushed h.pushed) u.taken) views port l (h.taken_are port v at) (λ j u _ is. h.taken_are j u is)) (λ j. tt);
      }

  pub merges : (port : ℕ) (v : Hand T) (other : ℕ) (w : Hand T) → 0 < v.parts → 0 < w.parts → Merges Shared port v other w (hand (v.parts + w.parts) v.pushed (v.taken ++ w.taken)) (hand 0 [] [])
  merges port v other w mine part items views h at apart there =
      let b : Hand T = hand (v.parts + w.parts) v.pushed (v.taken ++ w.taken) in
      let z : Hand T = hand 0 [] [] in
      let vs : List (Hand T) = set views port b in
      let was : get_elem? views other ≡ some w = ⊎_elim (λ x. absurd (apart x.0)) (λ x. x.1) (at_set views port other b w there) in record {
        pushed = h.pushed;
        parts = (let s = total_set (λ u. u.parts) views port v b at in let t = total_set (λ u. u.parts) vs other w z there in let p = h.parts in omega arith);
        numbers = (λ k. let s = total_set (λ u. times k u.taken) views port v b at in let t = total_set (λ u. times k u.taken) vs other w z there in let a = times_append k v.taken w.taken in let n = h.numbers k in omega arith);
        lengths = (let s = total_set (λ u. length u.taken) views port v b at in let t = total_set (λ u. length u.taken) vs other w z there in let a = length-append v.taken w.taken in let n = h.lengths in omega arith);
        items_are = h.items_are;
        idle = all_set (λ j u. u.parts ≡ 0 → u.taken ≡ []) vs other z (λ _. refl) (λ j u _ is. all_set (λ j u. u.parts ≡ 0 → u.taken ≡ []) views port b (λ none. absurd (omega arith)) (λ j u _ t. h.idle j u t) j u is);
        knows = all_set (λ j u. 0 < u.parts → u.pushed ≡ h.pushed) vs other z (λ t. absurd (omega (arith, t))) (λ j u _ is. all_set (λ j u. 0 < u.parts → u.pushed ≡ h.pushed) views port b (λ _. h.knows port v at mine) (λ j u _ t. h.knows j u t) j u is);
        taken_are = all_set (λ j u. Each (IsPushed h.pushed) u.taken) vs other z tt (λ j u _ is. all_set (λ j u. Each (IsPushed h.pushed) u.taken) views port b (each_append (IsPushed h.pushed) v.taken w.taken (h.taken_are port v at) (h.taken_are other w was)) (λ j u _ t. h.taken_are j u t) j u is);
      }

  pub answers_more : {R : Type 0} (post : T → R → Type 0) (ps : List (Piece T)) (ds : List (Answer R)) (p : Piece T) (d : Answer R) → Answers post ps ds → d.number ≡ p.number → post p.value d.value → Answers post (ps ++ p ∷ []) (ds ++ d ∷ [])
  answers_more post [] [] p d h n a = (n, a, tt)
  answers_more post [] (e ∷ es) p d h n a = elim h [ ]
  answers_more post (q ∷ qs) [] p d h n a = elim h [ ]
  answers_more post (q ∷ qs) (e ∷ es) p d h n a = (h.0, h.1, answers_more post qs es p d h.2 n a)

  pub answers_append : {R : Type 0} (post : T → R → Type 0) (ps qs : List (Piece T)) (ds es : List (Answer R)) → Answers post ps ds → Answers post qs es → Answers post (ps ++ qs) (ds ++ es)
  answers_append post [] qs [] es a b = b
  answers_append post [] qs (d ∷ ds) es a b = elim a [ ]
  answers_append post (p ∷ ps) qs [] es a b = elim a [ ]
  answers_append post (p ∷ ps) qs (d ∷ ds) es a b = (a.0, a.1, answers_append post ps qs ds es a.2 b)

  pub taken_more : (v w : Hand T) (p : Piece T) (parts : ℕ) (pushed : List (Piece T)) → v ≡ hand parts pushed v.taken → w ≡ hand v.parts v.pushed (v.taken ++ p ∷ []) → (w ≡ hand parts pushed w.taken) × (w.taken ≡ v.taken ++ p ∷ [])
  taken_more v w p parts pushed h e =
      let t : w.taken ≡ v.taken ++ p ∷ [] = ap (λ (u : Hand T). u.taken) e in
      (e ∙ (ap (λ (u : Hand T). hand u.parts u.pushed (v.taken ++ p ∷ [])) h ∙ ap (hand parts pushed) (sym t)), t)

  pub answers_next : {R : Type 0} (post : T → R → Type 0) (ps qs : List (Piece T)) (ds es fs : List (Answer R)) (p : Piece T) (d : Answer R) → Answers post ps ds → qs ≡ ps ++ p ∷ [] → fs ≡ es ++ d ∷ [] → es ≡ ds → d.number ≡ p.number → post p.value d.value → Answers post qs fs
  answers_next post ps qs ds es fs p d h q f e n a = rw (q, f, e) (answers_more post ps ds p d h n a)

  pub answers_length : {R : Type 0} (post : T → R → Type 0) (ps : List (Piece T)) (ds : List (Answer R)) → Answers post ps ds → length ds ≡ length ps
  answers_length post [] [] h = refl
  answers_length post [] (d ∷ ds) h = elim h [ ]
  answers_length post (p ∷ ps) [] h = elim h [ ]
  answers_length post (p ∷ ps) (d ∷ ds) h = ap suc (answers_length post ps ds h.2)

  pub has_part : (v : Hand T) (n : ℕ) (pushed taken : List (Piece T)) → v ≡ hand (suc n) pushed taken → 0 < v.parts
  has_part v n pushed taken e = let p : v.parts ≡ suc n = ap (λ (u : Hand T). u.parts) e in omega arith

  pub numbered_length : (k : ℕ) (xs : List T) → length (numbered k xs) ≡ length xs
  numbered_length k [] = refl
  numbered_length k (x ∷ xs) = ap suc (numbered_length (k + 1) xs)

  pub numbered_more : (k : ℕ) (xs : List T) (x : T) (n : ℕ) → n ≡ k + length xs → numbered k (xs ++ x ∷ []) ≡ numbered k xs ++ record { number = n; value = x } ∷ []
  numbered_more k [] x n e = let h : k ≡ n = omega arith in ap (λ (m : ℕ). record { number = m; value = x } ∷ []) h
  numbered_more k (y ∷ ys) x n e = ap (λ ps. record { number = k; value = y } ∷ ps) (numbered_more (k + 1) ys x n (omega arith))

  pub pushed_more : (v w : Hand T) (xs : List T) (x : T) (n : ℕ) → v ≡ hand 1024 (numbered 0 xs) [] → n ≡ length xs → w ≡ hand v.parts (v.pushed ++ record { number = n; value = x } ∷ []) v.taken → w ≡ hand 1024 (numbered 0 (xs ++ x ∷ [])) []
  pushed_more v w xs x n h e is = is ∙ (ap (λ (u : Hand T). hand u.parts (u.pushed ++ record { number = n; value = x } ∷ []) u.taken) h ∙ ap (λ ps. hand 1024 ps []) (sym (numbered_more 0 xs x n (omega arith))))

  pub pushed_length : (v : Hand T) (xs : List T) (n : ℕ) → v ≡ hand 1024 (numbered 0 xs) [] → n ≡ length xs → n ≡ length v.pushed
  pushed_length v xs n h e = e ∙ (sym (numbered_length 0 xs) ∙ ap (λ (u : Hand T). length u.pushed) (sym h))

  no_items : (xs : List (Piece T)) → length xs ≡ 0 → xs ≡ []
  no_items [] e = refl
  no_items (x ∷ xs) e = absurd (omega arith)

  -- who has every part has all, once it has as many as were pushed
  pub all_taken : (v w : Hand T) (pushed items : List (Piece T)) (count n : ℕ) → v ≡ hand 1024 pushed v.taken → w ≡ v → length pushed ≡ count → count ≤ n → n ≡ length v.taken
      → (v.parts ≡ 1024 → (length v.taken + length items ≡ length v.pushed) × (items ≡ [] → AllTaken v.pushed v.taken)) → AllTaken pushed w.taken
  all_taken v w pushed items count n is same c most len fact =
      let f = fact (ap (λ (u : Hand T). u.parts) is) in
      let p : v.pushed ≡ pushed = ap (λ (u : Hand T). u.pushed) is in
      let l : length v.pushed ≡ length pushed = ap length p in
      let none : length items ≡ 0 = omega (arith, f.0) in
      subst (λ (t : List (Piece T) × List (Piece T)). AllTaken t.0 t.1) (λ i. (p i, sym (ap (λ (u : Hand T). u.taken) same) i)) (f.1 (no_items items none))

  pub not_all : (v : Hand T) (pushed : List (Piece T)) (count n : ℕ) → v ≡ hand 1024 pushed v.taken → length pushed ≡ count → n < count → n ≡ length v.taken → (v.parts ≡ 1024 → length v.taken ≡ length v.pushed) → ⊥
  not_all v pushed count n is c few len fact =
      let f = fact (ap (λ (u : Hand T). u.parts) is) in
      let l : length v.pushed ≡ length pushed = ap (λ (u : Hand T). length u.pushed) is in absurd (omega (arith, f))

  -- the answers of both, behind one another
  pub joined : {R : Type 0} (post : T → R → Type 0) (v w u : Hand T) (mine theirs all : List (Answer R)) → u ≡ hand (v.parts + w.parts) v.pushed (v.taken ++ w.taken) → all ≡ mine ++ theirs → Answers post v.taken mine → Answers post w.taken theirs → Answers post u.taken all
  joined post v w u mine theirs all e is a b = let t : u.taken ≡ v.taken ++ w.taken = ap (λ (x : Hand T). x.taken) e in rw (t, is) (answers_append post v.taken w.taken mine theirs a b)

  -- a piece that was pushed is one on which the work can be done
  pub can : (pre : T → Type 0) (v : Hand T) (parts : ℕ) (pushed taken : List (Piece T)) (p : Piece T) → v ≡ hand parts pushed taken → CanDo pre pushed → IsPushed v.pushed p → pre p.value
  can pre v parts pushed taken p e may is = may p (subst (λ l. IsPushed l p) (ap (λ (u : Hand T). u.pushed) e) is)
