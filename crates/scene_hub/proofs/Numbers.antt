-- Lists of scenes that follow one another, whose numbers rise, and their last numbers.
use Rattle.std.proofs.Common.{◌≡◌, ℕ, ◌+◌, ◌<◌, ◌≤◌, ◌⊎◌, List, [], ◌∷◌, ◌++◌, length, drop, fold, refl, ap, sym, ◌∙◌, subst, arith, append_assoc, length-append, Option, Some, None, ⊎_elim, slice_index_or}
use Rattle.std.specs.Prelude.{AllPairs, option_map}
use Rattle.std.specs.Option.{ForSome}
use Rattle.std.proofs.lemmas.Bool.{cases_lt}
use Rattle.std.proofs.lemmas.List.{append-nil}
use Rattle.std.proofs.lemmas.List.Sums.{fold-append}
use Rattle.std.proofs.lemmas.List.Quantifiers.{all_pairs_push}
use Rattle.std.proofs.Math.Seq.{get_or-append_seam}
use Rattle.std.proofs.Math.Logic.{∥∥₁_map₂}
use Rattle.std.proofs.lemmas.Grind.{not_there}
use Rattle.scene_hub.specs.SceneLog.{AllFollow, Begins, IsNext, last_of}
use Rattle.scene_hub.proofs.Prefixes.{begins_same, begins_rest}

module _ {S : Type 0} where
  -- each number is less than each later one
  abbrev pub NumbersRise : (S → ℕ) → List S → Type 0
  NumbersRise number scenes = AllPairs (λ s t. number s < number t) scenes

  ends : (xs : List S) (y : S) → (before : List S) × (z : S) × (fold (λ _ x. Some x) (Some y) xs ≡ Some z) × (y ∷ xs ≡ before ++ z ∷ [])
  ends [] y = ([], y, refl, refl)
  ends (x ∷ xs) y = let r = ends xs x in (y ∷ r.0, r.1, r.2, cc (r.3))

  last_at : (xs : List S) (z : S) → last_of xs ≡ Some z → (before : List S) × (xs ≡ before ++ z ∷ [])
  last_at [] z is = absurd (cc is)
  last_at (x ∷ xs) z is = let r = ends xs x in
      let same : r.1 ≡ z = cc (r.2, is) in
      (r.0, r.3 ∙ ap (λ w. r.0 ++ w ∷ []) same)

  pub last_of-push : (xs : List S) (z : S) → last_of (xs ++ z ∷ []) ≡ Some z
  last_of-push xs z = fold-append (λ (_ : Option S) (x : S). Some x) None xs (z ∷ [])

  of_map : (number : S → ℕ) (o : Option S) (m : ℕ) → option_map number o ≡ Some m → (s : S) × (o ≡ Some s) × (number s ≡ m)
  of_map number None m is = absurd (cc is)
  of_map number (Some s) m is = (s, refl, cc is)

  -- where the last number is m, the list ends with a scene of this number
  last_numbered : (number : S → ℕ) (xs : List S) (m : ℕ) → option_map number (last_of xs) ≡ Some m → (before : List S) × (s : S) × (xs ≡ before ++ s ∷ []) × (number s ≡ m)
  last_numbered number xs m is = let o = of_map number (last_of xs) m is in let l = last_at xs o.0 o.1 in (l.0, o.0, l.1, o.2)

  -- a list whose numbers rise, and that goes on after another, has a greater last number
  goes_on : (number : S → ℕ) (ps pb qb rs : List S) (s t r : S) → NumbersRise number ps → ps ≡ pb ++ s ∷ [] → ps ≡ (qb ++ t ∷ []) ++ r ∷ rs → number t < number s
  goes_on number ps pb qb rs s t r rises p q =
      let q' : ps ≡ qb ++ t ∷ (r ∷ rs) = q ∙ append_assoc qb (t ∷ []) (r ∷ rs) in
      let i : slice_index_or ps (length qb) s ≡ t = ap (λ l. slice_index_or l (length qb) s) q' ∙ get_or-append_seam qb t (r ∷ rs) s in
      let j : slice_index_or ps (length pb) s ≡ s = ap (λ l. slice_index_or l (length pb) s) p ∙ get_or-append_seam pb s [] s in
      let np : length ps ≡ length pb + 1 = ap length p ∙ length-append pb (s ∷ []) in
      let nq : length ps ≡ length qb + (2 + length rs) = ap length q' ∙ (length-append qb (t ∷ r ∷ rs) ∙ omega arith) in
      let less = rises (length qb) (length pb) s (omega arith) (omega arith) in
      subst (λ w. w < number s) (ap number i) (subst (λ w. number (slice_index_or ps (length qb) s) < w) (ap number j) less)

  newer_from : (number : S → ℕ) (ps qs rest : List S) (m n : ℕ) → qs ++ rest ≡ ps → NumbersRise number ps → option_map number (last_of ps) ≡ Some m → option_map number (last_of qs) ≡ Some n → m ≤ n → Begins ps qs
  newer_from number ps qs [] m n is rises p q le = subst (λ l. Begins l qs) (sym (append-nil qs) ∙ is) (begins_same qs)
  newer_from number ps qs (r ∷ rs) m n is rises p q le =
      let a = last_numbered number ps m p in
      let b = last_numbered number qs n q in
      let less = goes_on number ps a.0 b.0 rs a.1 b.1 r rises a.2 (sym is ∙ ap (λ l. l ++ r ∷ rs) b.2) in
      absurd (omega (arith, less, a.3, b.3, le))

  -- of two prefixes of a list whose numbers rise, the one with the greater last number is the longer
  pub newer_is_longer : (number : S → ℕ) (ps qs : List S) (m n : ℕ) → Begins ps qs ⊎ Begins qs ps → NumbersRise number ps → option_map number (last_of ps) ≡ Some m → option_map number (last_of qs) ≡ Some n → m ≤ n → Begins ps qs
  newer_is_longer number ps qs m n either rises p q le = ⊎_elim (λ (b : Begins ps qs). b) (λ (b : Begins qs ps). newer_from number ps qs (drop (length qs) ps) m n (begins_rest qs ps b) rises p q le) either

  -- the numbers of scenes that follow one another rise
  pub numbers_rise : (number : S → ℕ) (follows : S → S → Type 0) → ((a b : S) → follows a b → number a < number b) → (xs : List S) → AllFollow follows xs → NumbersRise number xs
  numbers_rise number follows rises xs all = λ i j d less lt.
      let a = slice_index_or xs i d in
      let b = slice_index_or xs j d in
      ⊎_elim (λ (l : number a < number b). l)
      (λ (ge : number b ≤ number a). absurd (not_there (all i j d less lt) (λ f. let r = rises a b f in omega (arith, r, ge))))
      (cases_lt (number a) (number b))

  at_last : (xs before : List S) (z : S) → xs ≡ before ++ z ∷ [] → (d : S) → slice_index_or xs (length before) d ≡ z
  at_last xs before z is d = ap (λ l. slice_index_or l (length before) d) is ∙ get_or-append_seam before z [] d

  -- what the last item is related to, each item is
  related_to : (R : S → S → Type 0) → ((a b c : S) → R a b → R b c → R a c) → (xs before : List S) (z s : S) → AllPairs R xs → xs ≡ before ++ z ∷ []
      → R z s → (k : ℕ) (d : S) → k < length xs → R (slice_index_or xs k d) s
  related_to R transitive xs before z s all is next k d lt =
      let size : length xs ≡ length before + 1 = ap length is ∙ length-append before (z ∷ []) in
      let item = slice_index_or xs k d in
      let ended : slice_index_or xs (length before) d ≡ z = at_last xs before z is d in
      ⊎_elim (λ (less : k < length before). transitive item z s (subst (λ t. R item t) ended (all k (length before) d less (omega arith))) next)
      (λ (le : length before ≤ k). let same : k ≡ length before = omega arith in subst (λ t. R t s) (sym (ap (λ j. slice_index_or xs j d) same ∙ ended)) next)
      (cases_lt k (length before))

  pairs_push : (R : S → S → Type 0) → ((a b c : S) → R a b → R b c → R a c) → (xs : List S) (s : S) → AllPairs R xs
      → ForSome (last_of xs) (λ last. R last s) → AllPairs R (xs ++ s ∷ [])
  pairs_push R transitive [] s all next = all_pairs_push R [] s all (λ k d lt. absurd (omega (arith, lt)))
  pairs_push R transitive (x ∷ xs) s all next =
      let e = ends xs x in
      all_pairs_push R (x ∷ xs) s all (related_to R transitive (x ∷ xs) e.0 e.1 s all e.3 (next e.1 e.2))

  -- a scene that follows the last one may come next
  pub follows_push : (follows : S → S → Type 0) → ((a b c : S) → follows a b → follows b c → follows a c) → (xs : List S) (s : S)
      → AllFollow follows xs → IsNext follows xs s → AllFollow follows (xs ++ s ∷ [])
  follows_push follows transitive xs s all next =
      pairs_push (λ a b. ∥ follows a b ∥₁) (λ a b c p q. ∥∥₁_map₂ p q (transitive a b c)) xs s all (λ z is. ∣ next z is ∣₁)
