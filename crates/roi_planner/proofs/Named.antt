-- Stated nodes by their names.
use Rattle.std.proofs.Common.{◌≡◌, ℕ, ◌+◌, List, [], ◌∷◌, length, not, cond, Some, None, refl, ap, ◌∙◌, unwrap_or}
use Rattle.std.specs.Prelude.{nat_lt, position}
use Rattle.std.specs.List.{prefix_len}
use Rattle.std.specs.Str.{bytes_eq}
use Rattle.std.proofs.lemmas.List.{length-map}
use Rattle.model_graphs.specs.declared.node.NodeFact.{NodeFact}
use Rattle.model_graphs.specs.Facts.{specs_of}
use Rattle.model_graphs.specs.Node.{Node, index_of}
use Rattle.model_states.proofs.PrefixLaws.{before_name}

before-facts : {Op : Type 0} (facts : List (NodeFact Op)) (name : List ℕ) → before_name (specs_of facts) name ≡ prefix_len (λ (fact : NodeFact Op). not (bytes_eq fact.spec.name name)) facts
before-facts [] name = refl
before-facts (fact ∷ facts) name = ap (λ n. cond (not (bytes_eq fact.spec.name name)) (1 + n) 0) (before-facts facts name)

-- the position of a name among stated nodes
pub index_of-facts : {Op : Type 0} (facts : List (NodeFact Op)) (name : List ℕ) →
    index_of (specs_of facts) name ≡ unwrap_or (position (λ (fact : NodeFact Op). bytes_eq fact.spec.name name) facts) (length facts)
index_of-facts {Op} facts name =
    let spec : NodeFact Op → Node Op = λ fact. fact.spec in
    let before = prefix_len (λ (fact : NodeFact Op). not (bytes_eq fact.spec.name name)) facts in
    ap (λ p. unwrap_or (cond (nat_lt p (length (specs_of facts))) (Some p) None) (length (specs_of facts))) (before-facts facts name)
    ∙ ap (λ n. unwrap_or (cond (nat_lt before n) (Some before) None) n) (length-map facts spec)
