-- What a map of pages answers, and how it changes with a page.
use Rattle.std.proofs.Common.{◌≡◌, ◌≢◌, ℕ, zero, suc, ◌+◌, ◌*◌, ◌/◌, ◌%◌, ◌<◌, ◌≤◌, cond, eqb, List, [], ◌∷◌, Option, Some, None, ◌⊎◌, inl, inr, refl, sym, ap, ◌∙◌, arith, get_or}
use Rattle.std.specs.Global.{Vec}
use Rattle.std.specs.Ordering.{nat_cmp}
use Rattle.std.specs.FinMap as map
use Rattle.std.specs.FinMap.{get-empty}
use Rattle.std.specs.Map.{lookup}
use Rattle.std.proofs.lemmas.Bool.{cases_eq, cases_lt, eq-eqb, ne_eqb}
use Rattle.chain_owners.specs.Values.{Named}
use Rattle.chain_owners.proofs.Names.{get_here, get_elsewhere, get_gone, get_left, get-inserted, get-removed, same_names}
use Rattle.name_maps.specs.Pages.{with_value, with_page, names_of}

module _ {X : Type 0} where
  value_here : (name : ℕ) (o : Option X) (m : Named X) → map.get (with_value name o m) name ≡ o
  value_here name None m = get_gone m name
  value_here name (Some v) m = get_here m name v

  value_elsewhere : (name : ℕ) (o : Option X) (m : Named X) (q : ℕ) → q ≢ name → map.get (with_value name o m) q ≡ map.get m q
  value_elsewhere name None m q ne = get_left m name q ne
  value_elsewhere name (Some v) m q ne = get_elsewhere m name v q ne

  value_at : (name : ℕ) (o : Option X) (m : Named X) (q : ℕ) → map.get (with_value name o m) q ≡ cond (eqb q name) o (map.get m q)
  value_at name None m q = get-removed m name q
  value_at name (Some v) m q = get-inserted m name v q

  in_page : (n first : ℕ) (page : List (Option X)) (m : Named X) (i : ℕ) → i < n
      → map.get (with_page n first page m) (first + i) ≡ get_or page i None
  in_page zero first page m i lt = absurd (omega (arith, lt))
  in_page (suc n) first page m i lt = elim (cases_eq i n) [
    | inl is ↦ rw is (value_here (first + n) (get_or page n None) (with_page n first page m))
    | inr ne ↦ value_elsewhere (first + n) (get_or page n None) (with_page n first page m) (first + i) (λ is. ne (omega (arith, is)))
        ∙ in_page n first page m i (omega (arith, lt, ne))
  ]

  out_of_page : (n first : ℕ) (page : List (Option X)) (m : Named X) (q : ℕ) → (q < first) ⊎ (first + n ≤ q)
      → map.get (with_page n first page m) q ≡ map.get m q
  out_of_page zero first page m q out = refl
  out_of_page (suc n) first page m q out =
      value_elsewhere (first + n) (get_or page n None) (with_page n first page m) q
      (λ is. elim out [ inl lt ↦ absurd (omega (arith, is, lt)) | inr ge ↦ absurd (omega (arith, is, ge)) ])
      ∙ out_of_page n first page m q (elim out [ inl lt ↦ inl lt | inr ge ↦ inr (omega (arith, ge)) ])

  -- the values of a page, or none
  abbrev pub values_of : Option (Vec (Option X)) → List (Option X)
  values_of None = []
  values_of (Some page) = page.items

  abbrev pub page_at : List (ℕ × Vec (Option X)) → ℕ → List (Option X)
  page_at es number = values_of (lookup (eqb number) es)

  pub names_of-get : (es : List (ℕ × Vec (Option X))) (q : ℕ) → map.get (names_of es) q ≡ get_or (page_at es (q / 32)) (q % 32) None
  unfolding names_of
  names_of-get [] q = get-empty nat_cmp q
  names_of-get (e ∷ es) q = elim (cases_eq (q / 32) e.0) [
    | inl is ↦ let whole : 32 * e.0 + q % 32 ≡ q = omega (arith, is) in
        ap (map.get (with_page 32 (32 * e.0) e.1.items (names_of es))) (sym whole)
        ∙ in_page 32 (32 * e.0) e.1.items (names_of es) (q % 32) (omega arith)
        ∙ ap (λ b. get_or (values_of (cond b (Some e.1) (lookup (eqb (q / 32)) es))) (q % 32) None) (sym (eq-eqb (q / 32) e.0 is))
    | inr ne ↦ out_of_page 32 (32 * e.0) e.1.items (names_of es) q (outside q e.0 ne)
        ∙ names_of-get es q
        ∙ ap (λ b. get_or (values_of (cond b (Some e.1) (lookup (eqb (q / 32)) es))) (q % 32) None) (sym (ne_eqb (q / 32) e.0 ne))
  ]
    where
      outside : (q number : ℕ) → q / 32 ≢ number → (q < 32 * number) ⊎ (32 * number + 32 ≤ q)
      outside q number ne = elim (cases_lt q (32 * number)) [
        | inl lt ↦ inl lt
        | inr ge ↦ inr (elim (cases_lt q (32 * number + 32)) [
          | inl lt ↦ absurd (ne (omega (arith, ge, lt)))
          | inr ge' ↦ ge'
        ])
      ]

  -- one value of one page has changed
  pub changed : (es fs : List (ℕ × Vec (Option X))) (name : ℕ) (o : Option X)
      → ((k : ℕ) → k ≢ name / 32 → page_at fs k ≡ page_at es k)
      → ((i : ℕ) → get_or (page_at fs (name / 32)) i None ≡ cond (eqb i (name % 32)) o (get_or (page_at es (name / 32)) i None))
      → names_of fs ≡ with_value name o (names_of es)
  changed es fs name o others same = same_names _ _ (λ q.
      names_of-get fs q ∙ by_page q ∙ ap (cond (eqb q name) o) (sym (names_of-get es q)) ∙ sym (value_at name o (names_of es) q))
    where
      by_page : (q : ℕ) → get_or (page_at fs (q / 32)) (q % 32) None ≡ cond (eqb q name) o (get_or (page_at es (q / 32)) (q % 32) None)
      by_page q = elim (cases_eq (q / 32) (name / 32)) [
        | inl is ↦ ap (λ k. get_or (page_at fs k) (q % 32) None) is ∙ same (q % 32)
            ∙ ap (λ k. cond (eqb (q % 32) (name % 32)) o (get_or (page_at es k) (q % 32) None)) (sym is)
            ∙ ap (λ b. cond b o (get_or (page_at es (q / 32)) (q % 32) None)) (elim (cases_eq q name) [
              | inl is_name ↦ ap (λ k. eqb (k % 32) (name % 32)) is_name ∙ eq-eqb (name % 32) (name % 32) refl ∙ sym (eq-eqb q name is_name)
              | inr ne ↦ ne_eqb (q % 32) (name % 32) (λ rest. ne (omega (arith, is, rest))) ∙ sym (ne_eqb q name ne)
            ])
        | inr ne ↦ ap (λ page. get_or page (q % 32) None) (others (q / 32) ne)
            ∙ ap (λ b. cond b o (get_or (page_at es (q / 32)) (q % 32) None)) (sym (ne_eqb q name (λ is. ne (ap (λ k. k / 32) is))))
      ]

  -- the entries of a page's number have become one
  pub changed_page : (es fs : List (ℕ × Vec (Option X))) (name : ℕ) (o : Option X) (page : Vec (Option X))
      → ((k : ℕ) → lookup (eqb k) fs ≡ cond (eqb (name / 32) k) (Some page) (lookup (eqb k) es))
      → ((i : ℕ) → get_or page.items i None ≡ cond (eqb i (name % 32)) o (get_or (page_at es (name / 32)) i None))
      → names_of fs ≡ with_value name o (names_of es)
  changed_page es fs name o page is same = changed es fs name o
      (λ k ne. ap values_of (is k ∙ ap (λ b. cond b (Some page) (lookup (eqb k) es)) (ne_eqb (name / 32) k (λ e. ne (sym e)))))
      (λ i. ap (λ found. get_or (values_of found) i None)
      (is (name / 32) ∙ ap (λ b. cond b (Some page) (lookup (eqb (name / 32)) es)) (eq-eqb (name / 32) (name / 32) refl)) ∙ same i)

  -- a page without values has gone
  pub dropped_page : (es fs : List (ℕ × Vec (Option X))) (number : ℕ)
      → ((k : ℕ) → lookup (eqb k) fs ≡ cond (eqb number k) None (lookup (eqb k) es))
      → ((i : ℕ) → get_or (page_at es number) i None ≡ None)
      → names_of fs ≡ names_of es
  dropped_page es fs number is blank = same_names _ _ (λ q. names_of-get fs q ∙ by_page q ∙ sym (names_of-get es q))
    where
      by_page : (q : ℕ) → get_or (page_at fs (q / 32)) (q % 32) None ≡ get_or (page_at es (q / 32)) (q % 32) None
      by_page q = elim (cases_eq number (q / 32)) [
        | inl here ↦ ap (λ found. get_or (values_of found) (q % 32) None)
            (is (q / 32) ∙ ap (λ b. cond b None (lookup (eqb (q / 32)) es)) (eq-eqb number (q / 32) here))
            ∙ sym (ap (λ k. get_or (page_at es k) (q % 32) None) (sym here) ∙ blank (q % 32))
        | inr ne ↦ ap (λ found. get_or (values_of found) (q % 32) None)
            (is (q / 32) ∙ ap (λ b. cond b None (lookup (eqb (q / 32)) es)) (ne_eqb number (q / 32) ne))
      ]

  -- a page that was there has another value of a name, or none
  pub written_page : (es fs : List (ℕ × Vec (Option X))) (name index : ℕ) (o : Option X) (page page' : Vec (Option X))
      → Some page ≡ lookup (eqb (name / 32)) es
      → ((k : ℕ) → lookup (eqb k) fs ≡ cond (eqb (name / 32) k) (Some page') (lookup (eqb k) es))
      → index ≡ name % 32
      → ((i : ℕ) → get_or page'.items i None ≡ cond (eqb i index) o (get_or page.items i None))
      → names_of fs ≡ with_value name o (names_of es)
  written_page es fs name index o page page' was is at same = changed_page es fs name o page' is
      (λ i. same i ∙ ap (λ k. cond (eqb i k) o (get_or page.items i None)) at
      ∙ ap (λ found. cond (eqb i (name % 32)) o (get_or (values_of found) i None)) was)

  -- the page of a name isn't there, so neither is the name
  pub no_page : (es : List (ℕ × Vec (Option X))) (name : ℕ) → None ≡ lookup (eqb (name / 32)) es → None ≡ map.get (names_of es) name
  no_page es name none = ap (λ found. get_or (values_of found) (name % 32) None) none ∙ sym (names_of-get es name)

  -- to take out a name that isn't there changes nothing
  pub not_removed : (m : Named X) (name : ℕ) → None ≡ map.get m name → m ≡ map.remove m name
  not_removed m name none = same_names _ _ (λ q. elim (cases_eq q name) [
    | inl is ↦ ap (map.get m) is ∙ sym none ∙ sym (get_gone m name) ∙ ap (map.get (map.remove m name)) (sym is)
    | inr ne ↦ sym (get_left m name q ne)
  ])

  -- a page that wasn't there has the first value of a name
  pub new_page : (es fs : List (ℕ × Vec (Option X))) (name index : ℕ) (v : X) (page page' : Vec (Option X))
      → None ≡ lookup (eqb (name / 32)) es → page.items ≡ []
      → ((k : ℕ) → lookup (eqb k) fs ≡ cond (eqb (name / 32) k) (Some page') (lookup (eqb k) es))
      → index ≡ name % 32
      → ((i : ℕ) → get_or page'.items i None ≡ cond (eqb i index) (Some v) (get_or page.items i None))
      → names_of fs ≡ map.insert (names_of es) name v
  new_page es fs name index v page page' was blank is at same = changed_page es fs name (Some v) page' is
      (λ i. same i ∙ ap (λ k. cond (eqb i k) (Some v) (get_or page.items i None)) at
      ∙ ap (λ items. cond (eqb i (name % 32)) (Some v) (get_or items i None)) blank
      ∙ ap (λ found. cond (eqb i (name % 32)) (Some v) (get_or (values_of found) i None)) was)

  -- a page that has the values that it had
  pub same_page : (es fs : List (ℕ × Vec (Option X))) (number : ℕ) (page page' : Vec (Option X))
      → Some page ≡ lookup (eqb number) es
      → ((k : ℕ) → lookup (eqb k) fs ≡ cond (eqb number k) (Some page') (lookup (eqb k) es))
      → page'.items ≡ page.items
      → names_of fs ≡ names_of es
  same_page es fs number page page' was is same = same_names _ _ (λ q. names_of-get fs q ∙ by_page q ∙ sym (names_of-get es q))
    where
      by_page : (q : ℕ) → get_or (page_at fs (q / 32)) (q % 32) None ≡ get_or (page_at es (q / 32)) (q % 32) None
      by_page q = elim (cases_eq number (q / 32)) [
        | inl here ↦ ap (λ found. get_or (values_of found) (q % 32) None)
            (is (q / 32) ∙ ap (λ b. cond b (Some page') (lookup (eqb (q / 32)) es)) (eq-eqb number (q / 32) here))
            ∙ ap (λ items. get_or items (q % 32) None) same
            ∙ ap (λ found. get_or (values_of found) (q % 32) None) (was ∙ ap (λ k. lookup (eqb k) es) here)
        | inr ne ↦ ap (λ found. get_or (values_of found) (q % 32) None)
            (is (q / 32) ∙ ap (λ b. cond b (Some page') (lookup (eqb (q / 32)) es)) (ne_eqb number (q / 32) ne))
      ]
