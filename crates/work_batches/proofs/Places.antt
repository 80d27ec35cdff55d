-- Answers that are placed by their numbers.
use Rattle.std.proofs.Common.{◌≡◌, ℕ, zero, suc, ◌+◌, ◌<◌, ◌==◌, true, false, Bool, cond, List, [], ◌∷◌, ◌++◌, map, length, slice_get, slice_index_or, slice_set, Option, Some, None, All, IsSome, IfOk, Result, Ok, Err, refl, ap, length-append, sym, ◌∙◌, subst, arith, option_map}
use Rattle.std.specs.List.{AllZip}
use Rattle.std.proofs.lemmas.Option.{none-some, same_Some, slice_get-map, slice_get_within, slice_get-get_or, get_or_from_slice_get}
use Rattle.work_batches.specs.Pool.{AllTaken, Answers, CanDo, Each, IsPushed, numbered, once_below, times}
use Rattle.work_batches.specs.Placing.{AreBelow, HaveAnswers, found, instead}
use Rattle.work_batches.proofs.Rules.{numbered_length}
use Rattle.work_batches.specs.declared.pieces.Piece.{Piece}
use Rattle.work_batches.specs.declared.pieces.Answer.{Answer}
use Rattle.std.proofs.lemmas.Bool.Decides.{nat_tests}

pub ok_more : {A E : Type 0} (r : Result A E) (P Q : A → Type 0) → ((x : A) → P x → Q x) → IfOk r P → IfOk r Q
ok_more (Ok x) P Q f h = f x h
ok_more (Err e) P Q f h = h

suc_zero : (k : ℕ) → (suc k == 0) ≡ false
suc_zero k = grind (arith, nat_tests)

zero_suc : (k : ℕ) → (0 == suc k) ≡ false
zero_suc k = grind (arith, nat_tests)

sucs : (k i : ℕ) → (suc k == suc i) ≡ (k == i)
sucs k i = grind (arith, nat_tests)

module _ {X : Type 0} where
  set_length : (xs : List X) (i : ℕ) (x : X) → length (slice_set xs i x) ≡ length xs
  set_length [] i x = refl
  set_length (y ∷ ys) zero x = refl
  set_length (y ∷ ys) (suc i) x = ap suc (set_length ys i x)

  -- a list after a write
  set_index : (xs : List X) (i k : ℕ) (x d : X) → k < length xs → slice_index_or (slice_set xs i x) k d ≡ cond (k == i) x (slice_index_or xs k d)
  set_index [] i k x d h = absurd (omega arith)
  set_index (y ∷ ys) zero zero x d h = refl
  set_index (y ∷ ys) zero (suc k) x d h = ap (λ b. cond b x (slice_index_or ys k d)) (sym (suc_zero k))
  set_index (y ∷ ys) (suc i) zero x d h = ap (λ b. cond b x y) (sym (zero_suc i))
  set_index (y ∷ ys) (suc i) (suc k) x d h = set_index ys i k x d (omega arith) ∙ ap (λ b. cond b x (slice_index_or ys k d)) (sym (sucs k i))

  last_index : (xs : List X) (x : X) (k : ℕ) (d : X) → k < suc (length xs) → ((j : ℕ) → j < length xs → slice_index_or xs j d ≡ x) → slice_index_or (xs ++ x ∷ []) k d ≡ x
  last_index [] x zero d h all = refl
  last_index [] x (suc k) d h all = absurd (omega arith)
  last_index (y ∷ ys) x zero d h all = all 0 (omega arith)
  last_index (y ∷ ys) x (suc k) d h all = last_index ys x k d (omega arith) (λ j l. all (suc j) (omega arith))

module _ {U : Type 0} where
  instead-none : (o : Option U) → instead o None ≡ o
  instead-none None = refl
  instead-none (Some x) = refl

  instead-cond : (b : Bool) (x : U) (o p : Option U) → instead (cond b (Some x) o) p ≡ cond b (Some x) (instead o p)
  instead-cond true x o p = refl
  instead-cond false x o p = refl

  found_more : (k : ℕ) (ds : List (Answer U)) (d : Answer U) → found k (ds ++ d ∷ []) ≡ cond (k == d.number) (Some d.value) (found k ds)
  found_more k [] d = refl
  found_more k (e ∷ ds) d = ap (λ o. instead o (cond (k == e.number) (Some e.value) None)) (found_more k ds d) ∙ instead-cond (k == d.number) d.value (found k ds) (cond (k == e.number) (Some e.value) None)

  pub no_answers : HaveAnswers {U = U} 0 [] []
  no_answers = record { all = refl; each = λ k o h. absurd (omega arith) }

  pub empty_more : (n : ℕ) (slots : List (Option U)) → HaveAnswers n slots [] → HaveAnswers (suc n) (slots ++ None ∷ []) []
  empty_more n slots h = record {
    all = omega (arith, h.all, length-append slots (None ∷ []));
    each = λ k o l. last_index slots None k o (let a = h.all in omega arith) (λ j m. h.each j o (let a = h.all in omega arith));
  }

  pub values_more : (values : List U) (value : U) (slots : List (Option U)) (slot : Option U) → map Some values ≡ slots → slot ≡ Some value → map Some (values ++ value ∷ []) ≡ slots ++ slot ∷ []
  values_more values value slots slot e is = snoc values value ∙ (ap (λ l. l ++ Some value ∷ []) e ∙ ap (λ o. slots ++ o ∷ []) (sym is))
    where
      snoc : (values : List U) (value : U) → map Some (values ++ value ∷ []) ≡ map Some values ++ Some value ∷ []
      snoc [] value = refl
      snoc (v ∷ values) value = ap (λ l. Some v ∷ l) (snoc values value)

  pub answers_set : (n : ℕ) (slots : List (Option U)) (ds : List (Answer U)) (d : Answer U) → HaveAnswers n slots ds → HaveAnswers n (slice_set slots d.number (Some d.value)) (ds ++ d ∷ [])
  answers_set n slots ds d h = record {
    all = set_length slots d.number (Some d.value) ∙ h.all;
    each = λ k o l. set_index slots d.number k (Some d.value) o (let a = h.all in omega arith)
        ∙ (ap (cond (k == d.number) (Some d.value)) (h.each k o l) ∙ sym (found_more k ds d));
  }

same_number : (k n : ℕ) → (k == n) ≡ true → k ≡ n
same_number k n e = grind (arith, nat_tests)

once : (k n : ℕ) → k < n → once_below k n ≡ 1
once k n h = grind (arith, nat_tests)

module _ {T U : Type 0} (post : T → U → Type 0) (pushed : List (Piece T)) where
  -- the piece of a number, with its answer
  record IsAnswered (k : ℕ) (ds : List (Answer U)) : Type 0 where
    pub piece : Piece T
    pub value : U
    pub pushed_is : slice_get pushed k ≡ Some piece
    pub answer : post piece.value value
    pub found_is : found k ds ≡ Some value

  not_found : (k : ℕ) (ps : List (Piece T)) (ds : List (Answer U)) → Answers post ps ds → times k ps ≡ 0 → found k ds ≡ None
  not_found k [] [] h none = refl
  not_found k [] (d ∷ ds) h none = elim h [ ]
  not_found k (p ∷ ps) [] h none = elim h [ ]
  not_found k (p ∷ ps) (d ∷ ds) h none = subst (λ n. instead (found k ds) (cond (k == n) (Some d.value) None) ≡ None) (sym h.0) (cases (k == p.number) none (not_found k ps ds h.2))
    where
      cases : (b : Bool) → cond b 1 0 + times k ps ≡ 0 → (times k ps ≡ 0 → found k ds ≡ None) → instead (found k ds) (cond b (Some d.value) None) ≡ None
      cases true e rest = absurd (omega (arith, e))
      cases false e rest = instead-none (found k ds) ∙ rest (omega (arith, e))

  answered : (k : ℕ) (ps : List (Piece T)) (ds : List (Answer U)) → Answers post ps ds → Each (IsPushed pushed) ps → 0 < times k ps → IsAnswered k ds
  answered k [] [] h are some = absurd (omega (arith, some))
  answered k [] (d ∷ ds) h are some = elim h [ ]
  answered k (p ∷ ps) [] h are some = elim h [ ]
  answered k (p ∷ ps) (d ∷ ds) h are some = cases (times k ps) refl (k == p.number) refl some (answered k ps ds h.2 are.1)
    where
      cases : (n : ℕ) → times k ps ≡ n → (b : Bool) → (k == p.number) ≡ b → 0 < cond b 1 0 + n → (0 < times k ps → IsAnswered k ds) → IsAnswered k (d ∷ ds)
      cases (suc n) e b is more rest =
          let i = rest (omega (arith, e)) in record {
            piece = i.piece;
            value = i.value;
            pushed_is = i.pushed_is;
            answer = i.answer;
            found_is = ap (λ o. instead o (cond (k == d.number) (Some d.value) None)) i.found_is;
          }
      cases zero e true is more rest = record {
        piece = p;
        value = d.value;
        pushed_is = ap (slice_get pushed) (same_number k p.number is) ∙ are.0;
        answer = h.1;
        found_is = ap (λ o. instead o (cond (k == d.number) (Some d.value) None)) (not_found k ps ds h.2 e)
            ∙ ap (λ b. cond b (Some d.value) None) (ap (λ n. k == n) h.0 ∙ is);
      }
      cases zero e false is more rest = absurd (omega (arith, more))

  pub below : (n : ℕ) (ps : List (Piece T)) (ds : List (Answer U)) → length pushed ≡ n → Answers post ps ds → Each (IsPushed pushed) ps → AreBelow n ds
  below n [] [] is h are k d l = absurd (omega (arith, l))
  below n [] (e ∷ ds) is h are k d l = elim h [ ]
  below n (p ∷ ps) [] is h are k d l = elim h [ ]
  below n (p ∷ ps) (e ∷ ds) is h are zero d l =
      let in_it : p.number < length pushed = slice_get_within pushed p.number p are.0 in
      let same : e.number ≡ p.number = h.0 in omega (arith, in_it, same, is)
  below n (p ∷ ps) (e ∷ ds) is h are (suc k) d l = below n ps ds is h.2 are.1 k d (omega (arith, l))

module _ {T : Type 0} where
  numbered_at : (j : ℕ) (xs : List T) (k : ℕ) (p : Piece T) → slice_get (numbered j xs) k ≡ Some p → slice_get xs k ≡ Some p.value
  numbered_at j [] k p e = absurd (none-some p e)
  numbered_at j (x ∷ xs) zero p e = ap (option_map (λ (q : Piece T). q.value)) e
  numbered_at j (x ∷ xs) (suc k) p e = numbered_at (j + 1) xs k p e

  pub can_all : (pre : T → Type 0) (xs : List T) → All pre xs → CanDo pre (numbered 0 xs)
  can_all pre xs all p is =
      let at = numbered_at 0 xs p.number p is in
      subst pre (get_or_from_slice_get xs p.number p.value p.value at) (all p.number p.value (slice_get_within xs p.number p.value at))

module _ {T U : Type 0} (post : T → U → Type 0) where
  zip_at : (xs : List T) (ys : List U) → length xs ≡ length ys → ((k : ℕ) (x : T) → slice_get xs k ≡ Some x → (y : U) × (slice_get ys k ≡ Some y) × post x y) → AllZip post xs ys
  zip_at [] [] e h = tt
  zip_at [] (y ∷ ys) e h = absurd (omega (arith, e))
  zip_at (x ∷ xs) [] e h = absurd (omega (arith, e))
  zip_at (x ∷ xs) (y ∷ ys) e h =
      let f = h 0 x refl in (
        subst (post x) (sym (same_Some y f.0 f.1)) f.2,
        zip_at xs ys (omega (arith, e)) (λ k z at. h (suc k) z at),
      )

  unmapped : (o : Option U) (v : U) → option_map Some o ≡ Some (Some v) → o ≡ Some v
  unmapped None v e = absurd (none-some (Some v) e)
  unmapped (Some x) v e = same_Some (Some x) (Some v) e

  map-length : {X Y : Type 0} (f : X → Y) (xs : List X) → length (map f xs) ≡ length xs
  map-length f [] = refl
  map-length f (x ∷ xs) = ap suc (map-length f xs)

  answer_of : (xs : List T) (taken : List (Piece T)) (ds : List (Answer U)) (k : ℕ) → AllTaken (numbered 0 xs) taken → Answers post taken ds → k < length xs → IsAnswered post (numbered 0 xs) k ds
  answer_of xs taken ds k all h in_it =
      let n = all.numbers k in
      let l = numbered_length 0 xs in
      let one = once k (length (numbered 0 xs)) (omega (arith, l, in_it)) in
      answered post (numbered 0 xs) k taken ds h all.are (omega (arith, n, one))

  pub full : (xs : List T) (taken : List (Piece T)) (ds : List (Answer U)) (slots : List (Option U)) → AllTaken (numbered 0 xs) taken → Answers post taken ds → HaveAnswers (length xs) slots ds → All IsSome slots
  full xs taken ds slots all h have k d in_it =
      let n = have.all in
      let there : k < length xs = omega (arith, n, in_it) in
      let a = answer_of xs taken ds k all h there in
      subst IsSome (sym (have.each k d there ∙ a.found_is)) refl

  pub placed : (xs : List T) (taken : List (Piece T)) (ds : List (Answer U)) (slots : List (Option U)) (values : List U) → AllTaken (numbered 0 xs) taken → Answers post taken ds → HaveAnswers (length xs) slots ds
      → map Some values ≡ slots → AllZip post xs values
  placed xs taken ds slots values all h have is =
      let lengths : length values ≡ length slots = sym (map-length Some values) ∙ ap length is in
      let n = have.all in
      zip_at xs values (omega (arith, lengths, n)) (λ k x at.
      let there : k < length xs = slice_get_within xs k x at in
      let a = answer_of xs taken ds k all h there in
      let slot = slice_get-get_or slots k (Some a.value) (omega (arith, n, there)) ∙ ap Some (have.each k (Some a.value) there ∙ a.found_is) in
      let value = unmapped (slice_get values k) a.value (sym (slice_get-map Some values k) ∙ (ap (λ l. slice_get l k) is ∙ slot)) in
      let same : x ≡ a.piece.value = same_Some x a.piece.value (sym at ∙ numbered_at 0 xs k a.piece a.pushed_is) in
      (a.value, value, subst (λ z. post z a.value) (sym same) a.answer))
