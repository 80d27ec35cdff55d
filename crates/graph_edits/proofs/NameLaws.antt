-- Names by their positions, and those of nodes.
use Rattle.std.proofs.Common.{◌≡◌, ℕ, suc, ◌+◌, ◌<◌, ◌≤◌, Bool, true, false, not, cond, List, [], ◌∷◌, ◌++◌, length, take, drop, refl, sym, ap, ◌∙◌, subst, arith, slice_set, Some, None, unwrap_or}
use Rattle.std.specs.Prelude.{nat_lt}
use Rattle.std.specs.List.{list_any, prefix_len, remove}
use Rattle.std.specs.Str.{bytes_eq}
use Rattle.std.proofs.lemmas.Bool.Decides.{nat_tests, same_from_decides}
use Rattle.std.proofs.lemmas.List.{length-map, set_split}
use Rattle.indexmap.proofs.SetLemmas.{map-remove}
use Rattle.std.proofs.lemmas.List.Sums.{prefix_len-le-length}
use Rattle.std.proofs.lemmas.Slice.Eq.{bytes_eq-Decides}
use Rattle.model_graphs.specs.Node.{Node, index_of}
use Rattle.model_states.specs.Valid.{node_names}
use Rattle.model_states.proofs.PrefixLaws.{before_name, index_of-is}
use Rattle.graph_edits.specs.Names.{name_index}

pub bytes_eq-sym : (a b : List ℕ) → bytes_eq a b ≡ bytes_eq b a
bytes_eq-sym a b =
    same_from_decides (bytes_eq a b) (bytes_eq b a) (bytes_eq-Decides a b)
    ((λ test. sym ((bytes_eq-Decides b a).0 test)), (λ same. (bytes_eq-Decides b a).1 (sym same)))

-- how many names stand before the first that is this one
abbrev pub before : List (List ℕ) → List ℕ → ℕ
before names name = prefix_len (λ other. not (bytes_eq other name)) names

pub name_index-is : (names : List (List ℕ)) (name : List ℕ) → name_index names name ≡ before names name
name_index-is names name = by (nat_lt (before names name) (length names)) refl
  where
    by : (b : Bool) → nat_lt (before names name) (length names) ≡ b → unwrap_or (cond b (Some (before names name)) None) (length names) ≡ before names name
    by true e = refl
    by false e =
        let le = prefix_len-le-length (λ other. not (bytes_eq other name)) names in
        let after : length names ≤ before names name = grind (arith, nat_tests) in
        omega (arith, le, after)

-- a name that is not there is none of them
absent : (names : List (List ℕ)) (name : List ℕ) → before names name ≡ length names → list_any (bytes_eq name) names ≡ false
absent [] name past = refl
absent (first ∷ names) name past = by (bytes_eq first name) (bytes_eq-sym name first) past (absent names name)
  where
    by : (b : Bool) → bytes_eq name first ≡ b → cond (not b) (1 + before names name) 0 ≡ suc (length names) →
        (before names name ≡ length names → list_any (bytes_eq name) names ≡ false) → list_any (bytes_eq name) (first ∷ names) ≡ false
    by true e none rest = absurd (omega (arith, none))
    by false e more rest = let past : before names name ≡ length names = omega (arith, more) in cc (e, rest past)

pub none_equal : (names : List (List ℕ)) (name : List ℕ) → name_index names name ≡ length names → list_any (bytes_eq name) names ≡ false
none_equal names name past = absent names name (sym (name_index-is names name) ∙ past)

-- so it is put after them
pub pushed : (old names new : List (List ℕ)) (name : List ℕ) → old ≡ names → name_index names name ≡ length names →
    new ≡ cond (list_any (bytes_eq name) old) old (old ++ name ∷ []) → new ≡ names ++ name ∷ []
pushed old names new name is past inserted =
    inserted ∙ ap (λ keys. cond (list_any (bytes_eq name) keys) keys (keys ++ name ∷ [])) is
    ∙ ap (λ b. cond b names (names ++ name ∷ [])) (none_equal names name past)

-- ---- nodes

module _ {Op : Type 0} where
  before-names : (nodes : List (Node Op)) (name : List ℕ) → before (node_names nodes) name ≡ before_name nodes name
  before-names [] name = refl
  before-names (node ∷ nodes) name = ap (λ n. cond (not (bytes_eq node.name name)) (1 + n) 0) (before-names nodes name)

  -- the position of a name is that of the first node that has it
  pub index_of-names : (nodes : List (Node Op)) (name : List ℕ) → name_index (node_names nodes) name ≡ index_of nodes name
  index_of-names nodes name = name_index-is (node_names nodes) name ∙ before-names nodes name ∙ sym (index_of-is nodes name)

  -- a node in the place of the one at a position
  abbrev set_at : List (Node Op) → Node Op → ℕ → List (Node Op)
  set_at nodes node index = take index nodes ++ node ∷ drop (suc index) nodes

  set_before : (nodes : List (Node Op)) (node : Node Op) → before_name nodes node.name < length nodes →
      node_names (set_at nodes node (before_name nodes node.name)) ≡ node_names nodes
  set_before [] node there = absurd (omega (arith, there))
  set_before (first ∷ nodes) node there = by (bytes_eq first.name node.name) refl there (set_before nodes node)
    where
      by : (b : Bool) → bytes_eq first.name node.name ≡ b → cond (not b) (1 + before_name nodes node.name) 0 < suc (length nodes) →
          (before_name nodes node.name < length nodes → node_names (set_at nodes node (before_name nodes node.name)) ≡ node_names nodes) →
          node_names (set_at (first ∷ nodes) node (cond (not b) (1 + before_name nodes node.name) 0)) ≡ node_names (first ∷ nodes)
      by true e less rest = ap (λ name. name ∷ node_names nodes) (sym ((bytes_eq-Decides first.name node.name).0 e))
      by false e less rest =
          let next : suc (before_name nodes node.name) ≡ 1 + before_name nodes node.name = omega arith in
          subst (λ index. node_names (set_at (first ∷ nodes) node index) ≡ node_names (first ∷ nodes)) next
          (ap (λ names. first.name ∷ names) (rest (omega (arith, less))))

  -- a node that takes the place of its name leaves the names
  pub set_names : (nodes : List (Node Op)) (node : Node Op) → index_of nodes node.name < length nodes →
      node_names (set_at nodes node (index_of nodes node.name)) ≡ node_names nodes
  set_names nodes node there =
      let is = index_of-is nodes node.name in
      subst (λ index. node_names (set_at nodes node index) ≡ node_names nodes) (sym is) (set_before nodes node (omega (arith, there, is)))

  -- ---- nodes beside the index of their names

  -- what the index finds is the position of the node of a name
  pub position_is : (names : List (List ℕ)) (inner nodes : List (Node Op)) (name : List ℕ) (found : ℕ) →
      names ≡ node_names inner → inner ≡ nodes → found ≡ name_index names name → found ≡ index_of nodes name
  position_is names inner nodes name found beside is looked =
      looked ∙ ap (λ names. name_index names name) (beside ∙ ap node_names is) ∙ index_of-names nodes name

  -- the index stays beside the nodes where one goes
  pub beside_removed : (names rest : List (List ℕ)) (nodes left : List (Node Op)) (i : ℕ) →
      names ≡ node_names nodes → rest ≡ remove names i → left ≡ remove nodes i → rest ≡ node_names left
  beside_removed names rest nodes left i beside removed gone =
      removed ∙ ap (λ names. remove names i) beside ∙ sym (map-remove (λ (node : Node Op). node.name) nodes i) ∙ ap node_names (sym gone)

  -- where one takes the place of its name
  pub beside_replaced : (names : List (List ℕ)) (inner nodes after : List (Node Op)) (node : Node Op) →
      names ≡ node_names inner → inner ≡ nodes → index_of nodes node.name < length nodes →
      after ≡ set_at nodes node (index_of nodes node.name) → names ≡ node_names after
  beside_replaced names inner nodes after node beside is there set =
      beside ∙ ap node_names is ∙ sym (set_names nodes node there) ∙ ap node_names (sym set)

  -- a name of no node is past the index
  pub position_past : (names : List (List ℕ)) (inner nodes : List (Node Op)) (name : List ℕ) →
      names ≡ node_names inner → inner ≡ nodes → index_of nodes name ≡ length nodes → name_index names name ≡ length names
  position_past names inner nodes name beside is past =
      position_is names inner nodes name (name_index names name) beside is refl ∙ past
      ∙ sym (length-map nodes (λ (node : Node Op). node.name)) ∙ ap length (sym (beside ∙ ap node_names is))

  -- ---- what edits make of nodes

  pub replaced_nodes : (inner nodes : List (Node Op)) (node : Node Op) (index : ℕ) → inner ≡ nodes → index ≡ index_of nodes node.name → index < length nodes →
      slice_set inner index node ≡ set_at nodes node (index_of nodes node.name)
  replaced_nodes inner nodes node index is at there =
      ap (λ ns. slice_set ns index node) is ∙ set_split nodes index node there ∙ ap (set_at nodes node) at

  pub removed_nodes : (inner nodes left : List (Node Op)) (name : List ℕ) (index : ℕ) → inner ≡ nodes → index ≡ index_of nodes name →
      left ≡ remove inner index → left ≡ remove nodes (index_of nodes name)
  removed_nodes inner nodes left name index is at gone = gone ∙ ap (λ ns. remove ns index) is ∙ ap (remove nodes) at

  -- past the last one, nothing is replaced
  set_past : (nodes : List (Node Op)) (node : Node Op) → set_at nodes node (length nodes) ≡ nodes ++ node ∷ []
  set_past [] node = refl
  set_past (first ∷ nodes) node = ap (λ rest. first ∷ rest) (set_past nodes node)

  pub appended_nodes : (inner nodes after : List (Node Op)) (node : Node Op) → inner ≡ nodes → index_of nodes node.name ≡ length nodes →
      after ≡ inner ++ node ∷ [] → after ≡ set_at nodes node (index_of nodes node.name)
  appended_nodes inner nodes after node is past appended =
      appended ∙ ap (λ ns. ns ++ node ∷ []) is ∙ sym (set_past nodes node) ∙ ap (set_at nodes node) (sym past)
