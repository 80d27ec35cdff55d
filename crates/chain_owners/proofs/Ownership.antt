-- Laws of names, of their owners, and of what a call respects.
use Rattle.std.proofs.Common.{◌≡◌, ◌≢◌, ℕ, ◌+◌, ◌-◌, ◌<◌, ◌≤◌, cond, List, [], ◌∷◌, ◌++◌, length, Option, Some, None, ◌⊎◌, inl, inr, refl, sym, ap, subst, ◌∙◌, arith}
use Rattle.std.specs.Prelude.{if◌then◌else◌, nat_le, is_some}
use Rattle.std.specs.Option.{option_and_then, option_map, unwrap_or}
use Rattle.std.specs.FinMap as map
use Rattle.std.proofs.lemmas.Bool.{cases_eq, cases_lt, eq-eqb, ne_eqb, le-leb, lt-leb}
use Rattle.chain_owners.specs.Values.{Named}
use Rattle.chain_owners.specs.Held.{Held, disowned, max_owners, owned, owners_of, with_name, with_owners, with_tile, without_name}
use Rattle.chain_owners.specs.Owners.{HasOther, IsFramed, Owns, Respects, Unchanged, times}
use Rattle.chain_owners.proofs.Names.{get_here, get_elsewhere, get_gone, get_left}

-- ---- how often a value holds a name

pub times-append : (a b : List ℕ) (name : ℕ) → times (a ++ b) name ≡ times a name + times b name
times-append [] b name = omega arith
times-append (x ∷ a) b name = omega (arith, times-append a b name)

pub times-here : (names : List ℕ) (name : ℕ) → times (name ∷ names) name ≡ 1 + times names name
times-here names name = ap (λ b. cond b 1 0 + times names name) (eq-eqb name name refl)

pub times-elsewhere : (names : List ℕ) (name q : ℕ) → q ≢ name → times (name ∷ names) q ≡ times names q
times-elsewhere names name q ne =
    let other : times (name ∷ names) q ≡ 0 + times names q = ap (λ b. cond b 1 0 + times names q) (ne_eqb name q (λ e. ne (sym e))) in
    omega (arith, other)

-- ---- owners

pub owns-fewer : (held : Held) (names fewer : List ℕ) → ((q : ℕ) → times fewer q ≤ times names q) → Owns held names → Owns held fewer
owns-fewer held names fewer le owns = record {
  counted = λ q. elim (owns.counted q) [ inl is ↦ inl is | inr enough ↦ inr (omega (arith, le q, enough)) ];
}

other-of-owns : (held : Held) (names others : List ℕ) (q : ℕ) → Owns held (names ++ others) → 0 < times others q → HasOther held names q
other-of-owns held names others q owns some = elim (owns.counted q) [
  | inl is ↦ inl is
  | inr enough ↦ inr (omega (arith, enough, times-append names others q, some))
]

-- ---- what a call respects

pub unchanged-same : (held : Held) (q : ℕ) → Unchanged held held q
unchanged-same held q = record { length = refl; bytes = refl }

pub unchanged-both : (a b c : Held) (q : ℕ) → Unchanged a b q → Unchanged b c q → Unchanged a c q
unchanged-both a b c q u v = record { length = v.length ∙ u.length; bytes = v.bytes ∙ u.bytes }

pub respects-same : (held : Held) (names : List ℕ) → Respects held held names names
respects-same held names = record {
  stopped = λ q is. is;
  others = λ q. inr refl;
  unshared = λ q none some. refl;
  unchanged = λ q other. unchanged-same held q;
  exposed = refl;
}

module _ (a b : Held) (before after : List ℕ) (first : Respects a b before after) where
  other-after : (q : ℕ) → HasOther a before q → HasOther b after q
  other-after q other = elim other [
    | inl is ↦ inl (first.stopped q is)
    | inr more ↦ elim (first.others q) [ inl is ↦ inl is | inr same ↦ inr (omega (arith, more, same)) ]
  ]

  -- a name that the first call was handed nothing of is none of the second's either
  unshared-both : (c : Held) (last : List ℕ) → Respects b c after last
      → (q : ℕ) → times before q ≡ 0 → 0 < owners_of a q → owners_of c q ≡ owners_of a q
  unshared-both c last second q none some =
      let same : owners_of b q ≡ owners_of a q = first.unshared q none some in
      elim (cases_eq (owners_of a q) max_owners) [
        | inl is ↦ second.stopped q (first.stopped q is) ∙ sym is
        | inr ne ↦ elim (first.others q) [
          | inl is ↦ absurd (ne (sym same ∙ is))
          | inr counts ↦ second.unshared q (omega (arith, counts, none, same)) (omega (arith, same, some)) ∙ same
        ]
      ]

  pub respects-both : (c : Held) (last : List ℕ) → Respects b c after last → Respects a c before last
  respects-both c last second = record {
    unshared = unshared-both c last second;
    stopped = λ q is. second.stopped q (first.stopped q is);
    others = λ q. elim (first.others q) [
      | inl is ↦ inl (second.stopped q is)
      | inr same ↦ elim (second.others q) [ inl is ↦ inl is | inr same' ↦ inr (omega (arith, same, same')) ]
    ];
    unchanged = λ q other. unchanged-both a b c q (first.unchanged q other) (second.unchanged q (other-after q other));
    exposed = second.exposed ∙ first.exposed;
  }

  -- names count as often as they are held, in whatever order, and what is held besides doesn't count
  pub respects-beside : (before' after' beside : List ℕ)
      → ((q : ℕ) → times before' q ≡ times before q + times beside q)
      → ((q : ℕ) → times after' q ≡ times after q + times beside q)
      → Respects a b before' after'
  respects-beside before' after' beside is is' = record {
    stopped = first.stopped;
    others = λ q. elim (first.others q) [ inl is ↦ inl is | inr same ↦ inr (omega (arith, same, is q, is' q)) ];
    unshared = λ q none some. first.unshared q (omega (arith, none, is q)) some;
    unchanged = λ q other. first.unchanged q (elim other [ inl is ↦ inl is | inr more ↦ inr (omega (arith, more, is q)) ]);
    exposed = first.exposed;
  }

  pub others-unchanged : (others : List ℕ) → Owns a (before ++ others) → (q : ℕ) → 0 < times others q → Unchanged a b q
  others-unchanged others owns q some = first.unchanged q (other-of-owns a before others q owns some)

  pub others-own : (others : List ℕ) → Owns a (before ++ others) → Owns b (after ++ others)
  others-own others owns = record {
    counted = λ q. elim (owns.counted q) [
      | inl is ↦ inl (first.stopped q is)
      | inr enough ↦ elim (first.others q) [
        | inl is ↦ inl is
        | inr same ↦ inr (omega (arith, enough, same, times-append before others q, times-append after others q))
      ]
    ];
  }

  -- a name that another value holds alone
  pub alone-stays : (others : List ℕ) → Owns a (before ++ others) → (q : ℕ) → 0 < times others q → owners_of a q ≡ 1 → owners_of b q ≡ 1
  alone-stays others owns q some one =
      let none : times before q ≡ 0 = elim (owns.counted q) [
        | inl is ↦ absurd (omega (arith, is, one))
        | inr enough ↦ omega (arith, enough, times-append before others q, some, one)
      ] in
      first.unshared q none (omega (arith, one)) ∙ one

  pub seen-unchanged : {X : Type 0} (others : List ℕ) (seen : Held → X) → IsFramed others seen → Owns a (before ++ others) → seen b ≡ seen a
  seen-unchanged others seen framed owns = framed a b first.exposed (others-unchanged others owns)

-- ---- one name more or fewer

exposed-map : {X Y : Type 0} (f : X → Y) (o : Option X) → is_some (option_map f o) ≡ is_some o
exposed-map f None = refl
exposed-map f (Some x) = refl

owners-here : (held : Held) (name count : ℕ) → owners_of (with_owners held name count) name ≡ count
owners-here held name count = ap (λ o. unwrap_or o 0) (get_here held.owners name count)

owners-elsewhere : (held : Held) (name count q : ℕ) → q ≢ name → owners_of (with_owners held name count) q ≡ owners_of held q
owners-elsewhere held name count q ne = ap (λ o. unwrap_or o 0) (get_elsewhere held.owners name count q ne)

bytes-inserted : (content : Option (Named (List ℕ))) (name : ℕ) (bytes : List ℕ) (q : ℕ) → q ≢ name
    → option_and_then (λ (c : Named (List ℕ)). map.get c q) (option_map (λ (c : Named (List ℕ)). map.insert c name bytes) content)
    ≡ option_and_then (λ (c : Named (List ℕ)). map.get c q) content
bytes-inserted None name bytes q ne = refl
bytes-inserted (Some content) name bytes q ne = get_elsewhere content name bytes q ne

bytes-removed : (content : Option (Named (List ℕ))) (name q : ℕ) → q ≢ name
    → option_and_then (λ (c : Named (List ℕ)). map.get c q) (option_map (λ (c : Named (List ℕ)). map.remove c name) content)
    ≡ option_and_then (λ (c : Named (List ℕ)). map.get c q) content
bytes-removed None name q ne = refl
bytes-removed (Some content) name q ne = get_left content name q ne

pub put-unchanged : (held : Held) (name : ℕ) (bytes : List ℕ) (q : ℕ) → q ≢ name → Unchanged held (with_tile held name bytes) q
put-unchanged held name bytes q ne = record {
  length = get_elsewhere held.lengths name (length bytes) q ne;
  bytes = bytes-inserted held.content name bytes q ne;
}

pub removed-unchanged : (held : Held) (name q : ℕ) → q ≢ name → Unchanged held (without_name held name) q
removed-unchanged held name q ne = record {
  length = get_left held.lengths name q ne;
  bytes = bytes-removed held.content name q ne;
}

pub owned-stopped : (held : Held) (name : ℕ) → owners_of held name ≡ max_owners → owned held name ≡ held
unfolding owned
owned-stopped held name is =
    ap (λ b. cond b held (with_owners held name (owners_of held name + 1))) (eq-eqb (owners_of held name) max_owners is)

pub owned-more : (held : Held) (name : ℕ) → owners_of held name ≢ max_owners → owned held name ≡ with_owners held name (owners_of held name + 1)
unfolding owned
owned-more held name ne =
    ap (λ b. cond b held (with_owners held name (owners_of held name + 1))) (ne_eqb (owners_of held name) max_owners ne)

module _ (held : Held) (name : ℕ) where
  abbrev lower : Held
  lower = if nat_le (owners_of held name) 1 then without_name held name else with_owners held name (owners_of held name - 1)

  pub disowned-stopped : owners_of held name ≡ max_owners → disowned held name ≡ held
  unfolding disowned
  disowned-stopped is = ap (λ b. cond b held lower) (eq-eqb (owners_of held name) max_owners is)

  disowned-lower : owners_of held name ≢ max_owners → disowned held name ≡ lower
  unfolding disowned
  disowned-lower ne = ap (λ b. cond b held lower) (ne_eqb (owners_of held name) max_owners ne)

  pub disowned-last : owners_of held name ≤ 1 → disowned held name ≡ without_name held name
  disowned-last le =
      disowned-lower (λ is. absurd (omega (arith, is, le)))
      ∙ ap (λ b. cond b (without_name held name) (with_owners held name (owners_of held name - 1))) (le-leb (owners_of held name) 1 le)

  pub disowned-fewer : owners_of held name ≢ max_owners → 1 < owners_of held name
      → disowned held name ≡ with_owners held name (owners_of held name - 1)
  disowned-fewer ne more =
      disowned-lower ne
      ∙ ap (λ b. cond b (without_name held name) (with_owners held name (owners_of held name - 1))) (lt-leb (owners_of held name) 1 more)

-- ---- one owner more

-- Where the owners of one name alone changed, which nobody held or this value too, and nothing else, the
-- count of that name decides.
respects-owners : (held : Held) (name count : ℕ) (before after : List ℕ) → owners_of held name ≢ max_owners
    → count + times before name ≡ owners_of held name + times after name
    → ((q : ℕ) → q ≢ name → times before q ≡ times after q)
    → (owners_of held name ≡ 0) ⊎ (0 < times before name)
    → Respects held (with_owners held name count) before after
respects-owners held name count before after ne here elsewhere there = record {
  stopped = λ q is. elim (cases_eq q name) [
    | inl e ↦ absurd (ne (ap (owners_of held) (sym e) ∙ is))
    | inr other ↦ owners-elsewhere held name count q other ∙ is
  ];
  others = λ q. elim (cases_eq q name) [
    | inl e ↦ inr (let P : ℕ → Type 0 = λ q. owners_of (with_owners held name count) q + times before q ≡ owners_of held q + times after q in
        subst P (sym e) (omega (arith, here, owners-here held name count)))
    | inr other ↦ inr (omega (arith, elsewhere q other, owners-elsewhere held name count q other))
  ];
  unshared = λ q none more. elim (cases_eq q name) [
    | inl e ↦ absurd (elim there [
      | inl free ↦ omega (arith, ap (owners_of held) e, free, more)
      | inr some ↦ omega (arith, ap (times before) e, some, none)
    ])
    | inr other ↦ owners-elsewhere held name count q other
  ];
  unchanged = λ q other. record { length = refl; bytes = refl };
  exposed = refl;
}

-- a name whose count stopped is held as before, whoever claims or leaves it
respects-stopped : (held : Held) (name : ℕ) (before after : List ℕ) → owners_of held name ≡ max_owners
    → ((q : ℕ) → q ≢ name → times before q ≡ times after q) → Respects held held before after
respects-stopped held name before after is elsewhere = record {
  stopped = λ q is. is;
  others = λ q. elim (cases_eq q name) [
    | inl e ↦ inl (ap (owners_of held) e ∙ is)
    | inr other ↦ inr (omega (arith, elsewhere q other))
  ];
  unshared = λ q none some. refl;
  unchanged = λ q other. unchanged-same held q;
  exposed = refl;
}

pub owned-respects : (held : Held) (names : List ℕ) (name : ℕ) → (owners_of held name ≡ 0) ⊎ (0 < times names name)
    → Respects held (owned held name) names (name ∷ names)
owned-respects held names name there = elim (cases_eq (owners_of held name) max_owners) [
  | inl is ↦ rw (owned-stopped held name is) (respects-stopped held name names (name ∷ names) is (λ q other. sym (times-elsewhere names name q other)))
  | inr ne ↦ rw (owned-more held name ne)
      (respects-owners held name (owners_of held name + 1) names (name ∷ names) ne
      (omega (arith, times-here names name))
      (λ q other. sym (times-elsewhere names name q other))
      there)
]

-- ---- one owner fewer

pub disowned-respects : (held : Held) (names : List ℕ) (name : ℕ) → Owns held (name ∷ names) → Respects held (disowned held name) (name ∷ names) names
disowned-respects held names name owns = elim (cases_eq (owners_of held name) max_owners) [
  | inl is ↦ rw (disowned-stopped held name is) (respects-stopped held name (name ∷ names) names is (times-elsewhere names name))
  | inr ne ↦ elim (owns.counted name) [
    | inl is ↦ absurd (ne is)
    | inr enough ↦ elim (cases_lt 1 (owners_of held name)) [
      | inl more ↦ rw (disowned-fewer held name ne more)
          (respects-owners held name (owners_of held name - 1) (name ∷ names) names ne
          (omega (arith, times-here names name, more))
          (times-elsewhere names name)
          (inr (omega (arith, times-here names name))))
      | inr le ↦ rw (disowned-last held name le) (last ne (omega (arith, le, enough, times-here names name)) (omega (arith, le, enough, times-here names name)))
    ]
  ]
]
  where
    gone : (q : ℕ) → q ≡ name → owners_of (without_name held name) q ≡ 0
    gone q e = ap (λ q. unwrap_or (map.get (map.remove held.owners name) q) 0) e ∙ ap (λ o. unwrap_or o 0) (get_gone held.owners name)

    left : (q : ℕ) → q ≢ name → owners_of (without_name held name) q ≡ owners_of held q
    left q other = ap (λ o. unwrap_or o 0) (get_left held.owners name q other)

    last : owners_of held name ≢ max_owners → owners_of held name ≡ 1 → times names name ≡ 0 → Respects held (without_name held name) (name ∷ names) names
    last ne one none = record {
      stopped = λ q is. elim (cases_eq q name) [
        | inl e ↦ absurd (ne (ap (owners_of held) (sym e) ∙ is))
        | inr other ↦ left q other ∙ is
      ];
      others = λ q. elim (cases_eq q name) [
        | inl e ↦ inr (omega (arith, gone q e, ap (times (name ∷ names)) e, times-here names name, ap (times names) e, ap (owners_of held) e, one, none))
        | inr other ↦ inr (omega (arith, left q other, times-elsewhere names name q other))
      ];
      unshared = λ q free more. elim (cases_eq q name) [
        | inl e ↦ absurd (omega (arith, free, ap (times (name ∷ names)) e, times-here names name))
        | inr other ↦ left q other
      ];
      unchanged = λ q has. elim (cases_eq q name) [
        | inl e ↦ absurd (elim has [
          | inl is ↦ ne (ap (owners_of held) (sym e) ∙ is)
          | inr more ↦ omega (arith, more, ap (times (name ∷ names)) e, times-here names name, ap (owners_of held) e, one)
        ])
        | inr other ↦ removed-unchanged held name q other
      ];
      exposed = exposed-map (λ (c : Named (List ℕ)). map.remove c name) held.content;
    }

-- ---- new bytes

pub new_name-respects : (held : Held) (names : List ℕ) (name : ℕ) (bytes : List ℕ) → owners_of held name ≡ 0
    → Respects held (with_name held name bytes) names (name ∷ names)
new_name-respects held names name bytes none = record {
  stopped = λ q is. elim (cases_eq q name) [
    | inl e ↦ absurd (omega (arith, is, ap (owners_of held) e, none))
    | inr other ↦ owners-elsewhere held name 1 q other ∙ is
  ];
  others = λ q. elim (cases_eq q name) [
    | inl e ↦ inr (omega (arith, ap (owners_of (with_name held name bytes)) e, owners-here held name 1, ap (times (name ∷ names)) e, times-here names name, ap (times names) e, ap (owners_of held) e, none))
    | inr other ↦ inr (omega (arith, owners-elsewhere held name 1 q other, times-elsewhere names name q other))
  ];
  unshared = λ q free some. elim (cases_eq q name) [
    | inl e ↦ absurd (omega (arith, some, ap (owners_of held) e, none))
    | inr other ↦ owners-elsewhere held name 1 q other
  ];
  unchanged = λ q has. elim (cases_eq q name) [
    | inl e ↦ absurd (elim has [
      | inl is ↦ omega (arith, is, ap (owners_of held) e, none)
      | inr more ↦ omega (arith, more, ap (owners_of held) e, none)
    ])
    | inr other ↦ let same = put-unchanged held name bytes q other in record { length = same.length; bytes = same.bytes }
  ];
  exposed = exposed-map (λ (c : Named (List ℕ)). map.insert c name bytes) held.content;
}

pub rewritten-respects : (held : Held) (names : List ℕ) (name : ℕ) (bytes : List ℕ) → owners_of held name ≡ 1 → 0 < times names name
    → Respects held (with_tile held name bytes) names names
rewritten-respects held names name bytes one some = record {
  stopped = λ q is. is;
  others = λ q. inr refl;
  unshared = λ q free more. refl;
  unchanged = λ q has. elim (cases_eq q name) [
    | inl e ↦ absurd (elim has [
      | inl is ↦ omega (arith, is, ap (owners_of held) e, one)
      | inr more ↦ omega (arith, more, ap (owners_of held) e, one, ap (times names) e, some)
    ])
    | inr other ↦ put-unchanged held name bytes q other
  ];
  exposed = exposed-map (λ (c : Named (List ℕ)). map.insert c name bytes) held.content;
}
