-- The nodes of names, and their positions.
use Rattle.std.proofs.Common.{◌≡◌, ℕ, ◌<◌, Bool, true, false, not, cond, List, [], length, Option, Some, None, nat_lt, unwrap_or, refl, sym, ap, ◌∙◌, arith}
use Rattle.std.specs.Prelude.{is_some, option_map, position, slice_get}
use Rattle.std.specs.List.{prefix_len}
use Rattle.std.specs.Str.{bytes_eq}
use Rattle.std.proofs.lemmas.Bool.{le-ltb, ltb-true}
use Rattle.std.proofs.lemmas.List.{length-map}
use Rattle.std.proofs.lemmas.Option.{get_or_from_slice_get, slice_get-map}
use Rattle.model_graphs.specs.declared.node.NodeFact.{NodeFact}
use Rattle.model_graphs.specs.Facts.{specs_of}
use Rattle.model_graphs.specs.Node.{Node, index_of}
use Rattle.model_states.specs.Edits.{has_node}
use Rattle.model_states.specs.Valid.{node_names}
use Rattle.model_states.proofs.Indices.{found_name}
use Rattle.roi_planner.proofs.Named.{index_of-facts}
use Rattle.strip_patches.proofs.Served.{member-at}
use Rattle.strip_patches.specs.Nodes.{name_at}

module _ {Op : Type 0} (nodes : List (NodeFact Op)) where
  name-is : (n : ℕ) (node : Node Op) → slice_get (specs_of nodes) n ≡ Some node → name_at nodes n ≡ node.name
  name-is n node found =
      let of : Node Op → List ℕ = λ node. node.name in
      get_or_from_slice_get (node_names (specs_of nodes)) n node.name [] (slice_get-map of (specs_of nodes) n ∙ ap (option_map of) found)

  -- a node of the name is at its position
  pub node-inside : (name : List ℕ) → has_node (specs_of nodes) name ≡ true → index_of (specs_of nodes) name < length nodes
  node-inside name there =
      let among : index_of (specs_of nodes) name < length (specs_of nodes) = ltb-true (index_of (specs_of nodes) name) (length (specs_of nodes)) there in
      let spec : NodeFact Op → Node Op = λ fact. fact.spec in
      omega (arith, among, length-map nodes spec)

  pub name-found : (name : List ℕ) → has_node (specs_of nodes) name ≡ true → name_at nodes (index_of (specs_of nodes) name) ≡ name
  name-found name there =
      let i = index_of (specs_of nodes) name in
      let node = member-at (specs_of nodes) i (ltb-true i (length (specs_of nodes)) there) in
      name-is i node.0 node.1 ∙ found_name (specs_of nodes) name node.0 node.1

-- a position is found where it is before the end
counted : (b : Bool) (before end : ℕ) → nat_lt before end ≡ b → is_some (cond b (Some before) None) ≡ nat_lt (unwrap_or (cond b (Some before) None) end) end
counted true before end e = sym e
counted false before end e = sym (le-ltb end end (omega arith))

-- whether a node of a name is there, by the position that a search finds
pub there-is : {Op : Type 0} (nodes : List (NodeFact Op)) (name : List ℕ) (found : Option ℕ) → found ≡ position (λ (fact : NodeFact Op). bytes_eq fact.spec.name name) nodes
    → is_some found ≡ has_node (specs_of nodes) name
there-is {Op} nodes name found is =
    let spec : NodeFact Op → Node Op = λ fact. fact.spec in
    let before = prefix_len (λ (fact : NodeFact Op). not (bytes_eq fact.spec.name name)) nodes in
    ap is_some is
    ∙ counted (nat_lt before (length nodes)) before (length nodes) refl
    ∙ ap (λ (n : ℕ). nat_lt n (length nodes)) (sym (index_of-facts nodes name))
    ∙ ap (nat_lt (index_of (specs_of nodes) name)) (sym (length-map nodes spec))
