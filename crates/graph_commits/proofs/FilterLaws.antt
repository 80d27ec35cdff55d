-- The names of nodes that pass a test, one after another.
use Rattle.std.proofs.Common.{◌≡◌, ℕ, suc, ◌+◌, ◌<◌, ◌≤◌, Bool, true, false, cond, List, [], ◌∷◌, ◌++◌, length, get_or, drop, drop-cons, filter, append_assoc, sym, ap, ◌∙◌, arith}
use Rattle.std.proofs.lemmas.List.{append-nil, at_drop_all}
use Rattle.model_graphs.specs.declared.node.NodeFact.{NodeFact}
use Rattle.model_graphs.specs.Facts.{specs_of}
use Rattle.model_states.specs.Valid.{node_names}

module _ {Op : Type 0} (test : List ℕ → Bool) (nodes : List (NodeFact Op)) where
  abbrev passing : List (NodeFact Op) → List (List ℕ)
  passing facts = filter test (node_names (specs_of facts))

  passing_from : (i : ℕ) (fact : NodeFact Op) → i < length nodes → get_or nodes i fact ≡ fact →
      passing (drop i nodes) ≡ cond (test fact.spec.name) (fact.spec.name ∷ passing (drop (i + 1) nodes)) (passing (drop (i + 1) nodes))
  passing_from i fact inside is =
      let next : suc i ≡ i + 1 = omega arith in
      ap passing (drop-cons nodes i fact inside ∙ ap (λ (f : NodeFact Op). f ∷ drop (suc i) nodes) is ∙ ap (λ j. fact ∷ drop j nodes) next)

  module _ (known whole : List (List ℕ)) (i : ℕ) (so_far : known ++ passing (drop i nodes) ≡ whole) where
    pub taken : (now : List (List ℕ)) (fact : NodeFact Op) → i < length nodes → get_or nodes i fact ≡ fact → test fact.spec.name ≡ true →
        now ≡ known ++ fact.spec.name ∷ [] → now ++ passing (drop (i + 1) nodes) ≡ whole
    taken now fact inside is passes pushed =
        ap (λ names. names ++ passing (drop (i + 1) nodes)) pushed
        ∙ append_assoc known (fact.spec.name ∷ []) (passing (drop (i + 1) nodes))
        ∙ ap (λ rest. known ++ rest) (sym (passing_from i fact inside is
        ∙ ap (λ b. cond b (fact.spec.name ∷ passing (drop (i + 1) nodes)) (passing (drop (i + 1) nodes))) passes))
        ∙ so_far

    pub skipped : (now : List (List ℕ)) (fact : NodeFact Op) → i < length nodes → get_or nodes i fact ≡ fact → test fact.spec.name ≡ false →
        now ≡ known → now ++ passing (drop (i + 1) nodes) ≡ whole
    skipped now fact inside is fails kept =
        ap (λ names. names ++ passing (drop (i + 1) nodes)) kept
        ∙ ap (λ rest. known ++ rest) (sym (passing_from i fact inside is
        ∙ ap (λ b. cond b (fact.spec.name ∷ passing (drop (i + 1) nodes)) (passing (drop (i + 1) nodes))) fails))
        ∙ so_far

    pub all_tested : length nodes ≤ i → known ≡ whole
    all_tested past = sym (append-nil known) ∙ ap (λ rest. known ++ rest) (sym (at_drop_all passing nodes i past)) ∙ so_far
