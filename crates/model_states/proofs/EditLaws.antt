-- Edits of nodes leave valid nodes.
use Rattle.std.proofs.Common.{◌≡◌, ℕ, zero, suc, ◌+◌, ◌<◌, ◌≤◌, ◌⊎◌, Bool, true, false, not, ◌&&◌, cond, eqb, List, [], ◌∷◌, ◌++◌, take, drop, length, inl, inr, refl, sym, ap, subst, arith, Option, Some, None, IfOk, Result, Ok, Err}
use Rattle.std.specs.Prelude.{nat_lt}
use Rattle.std.specs.List.{AllByRecursion, IsDistinct, remove}
use Rattle.std.specs.Str.{bytes_eq}
use Rattle.std.proofs.lemmas.Bool.Decides.{nat_tests}
use Rattle.std.proofs.lemmas.List.{length-append, length-map}
use Rattle.std.proofs.lemmas.Slice.Eq.{bytes_eq-Decides}
use Rattle.model_graphs.specs.Node.{Node, index_of}
use Rattle.pixel_formats.specs.Limits.{max_nodes}
use Rattle.model_states.specs.Edits.{edit_refused, edited, has_node, reads_earlier, steps_refused, then_edit, unless_refused, walked, with_edit, with_edits}
use Rattle.model_graphs.specs.declared.node.NodeEdit.{NodeEdit}
use Rattle.model_graphs.specs.declared.node.NodeEdit.TheVariants.{Set, Remove}
use Rattle.model_states.specs.declared.refused.StateRefused.{StateRefused}
use Rattle.model_states.specs.declared.refused.StateRefused.TheVariants.{UnknownInput, TooManyNodes}
use Rattle.model_graphs.specs.Meanings.{Meanings}
use Rattle.model_graphs.specs.Shapes.{Shapes}
use Rattle.model_states.specs.Valid.{AreValid, node_names, steps_of}
use Rattle.model_states.proofs.PrefixLaws.{before_name, index_of-is}
use Rattle.model_states.proofs.Walks.{valid_steps}

-- few enough nodes, of distinct names
pub record AreNodes {Op : Type 0} (nodes : List (Node Op)) : Type 0 where
  pub few : length nodes ≤ max_nodes
  pub distinct : IsDistinct bytes_eq (node_names nodes)

-- none of these names is another one
abbrev Lack : List (List ℕ) → List ℕ → Type 0
Lack names name = AllByRecursion (λ other. bytes_eq other name ≡ false) names

all_push : (P : List ℕ → Type 0) (names : List (List ℕ)) (name : List ℕ) → AllByRecursion P names → P name → AllByRecursion P (names ++ name ∷ [])
all_push P [] name all p = (p, tt)
all_push P (first ∷ names) name all p = (all.0, all_push P names name all.1 p)

distinct_push : (names : List (List ℕ)) (name : List ℕ) → IsDistinct bytes_eq names → Lack names name → IsDistinct bytes_eq (names ++ name ∷ [])
unfolding IsDistinct
distinct_push [] name distinct lack = (tt, tt)
distinct_push (first ∷ names) name distinct lack =
    (all_push (λ other. bytes_eq first other ≡ false) names name distinct.0 lack.0, distinct_push names name distinct.1 lack.1)

-- a new name that is not refused has room
room : (reads there full : Bool) → cond (not reads) (Some UnknownInput) (cond (not there && full) (Some TooManyNodes) None) ≡ None → there ≡ false → full ≡ false
room false there full passed new = absurd (cc)
room true true full passed new = absurd (cc)
room true false true passed new = absurd (cc)
room true false false passed new = refl

module _ {Op : Type 0} where
  length-names : (nodes : List (Node Op)) → length (node_names nodes) ≡ length nodes
  length-names nodes = length-map nodes (λ (node : Node Op). node.name)

  -- ---- a node is set

  -- a node in the place of the one at a position
  abbrev set_at : List (Node Op) → Node Op → ℕ → List (Node Op)
  set_at nodes node index = take index nodes ++ node ∷ drop (suc index) nodes

  -- the names are the same, or the name is a new one after them
  abbrev HasSet : List (Node Op) → Node Op → ℕ → Type 0
  HasSet nodes node index =
      ((index < length nodes) × (node_names (set_at nodes node index) ≡ node_names nodes))
      ⊎ ((index ≡ length nodes) × (node_names (set_at nodes node index) ≡ node_names nodes ++ node.name ∷ []) × Lack (node_names nodes) node.name)

  set_after : (first : Node Op) (nodes : List (Node Op)) (node : Node Op) (index : ℕ) → bytes_eq first.name node.name ≡ false → HasSet nodes node index → HasSet (first ∷ nodes) node (suc index)
  set_after first nodes node index other (inl there) = inl (omega (arith, there.0), ap (λ names. first.name ∷ names) there.1)
  set_after first nodes node index other (inr new) = inr (omega (arith, new.0), ap (λ names. first.name ∷ names) new.1, (other, new.2))

  has_set : (nodes : List (Node Op)) (node : Node Op) → HasSet nodes node (before_name nodes node.name)
  has_set [] node = inr (refl, refl, tt)
  has_set (first ∷ nodes) node = by (bytes_eq first.name node.name) refl (has_set nodes node)
    where
      by : (b : Bool) → bytes_eq first.name node.name ≡ b → HasSet nodes node (before_name nodes node.name) → HasSet (first ∷ nodes) node (cond (not b) (1 + before_name nodes node.name) 0)
      by true e rest = inl (omega arith, ap (λ name. name ∷ node_names nodes) (sym ((bytes_eq-Decides first.name node.name).0 e)))
      by false e rest =
          let next : suc (before_name nodes node.name) ≡ 1 + before_name nodes node.name = omega arith in
          subst (HasSet (first ∷ nodes) node) next (set_after first nodes node (before_name nodes node.name) e rest)

  set_keeps : (shapes : Shapes) (nodes : List (Node Op)) (node : Node Op) → AreNodes nodes → edit_refused shapes nodes (Set node) ≡ None → AreNodes (with_edit nodes (Set node))
  set_keeps shapes nodes node are passed =
      of (subst (HasSet nodes node) (sym (index_of-is nodes node.name)) (has_set nodes node))
    where
      index : ℕ
      index = index_of nodes node.name

      of : HasSet nodes node index → AreNodes (set_at nodes node index)
      of (inl there) =
          let count = ap length there.1 in
          record {
            few = omega (arith, count, are.few, length-names nodes, length-names (set_at nodes node index));
            distinct = subst (IsDistinct bytes_eq) (sym there.1) are.distinct;
          }
      of (inr new) =
          let count = ap length new.1 in
          let is : index ≡ length nodes = new.0 in
          let none : nat_lt index (length nodes) ≡ false = grind (arith, nat_tests, is) in
          let free : eqb (length nodes) max_nodes ≡ false =
          room (reads_earlier shapes nodes index node.body) (has_node nodes node.name) (eqb (length nodes) max_nodes) passed none in
          let less : length nodes < max_nodes = grind (arith, nat_tests, free, are.few) in
          record {
            few = omega (arith, less, count, length-append (node_names nodes) (node.name ∷ []), length-names nodes, length-names (set_at nodes node index));
            distinct = subst (IsDistinct bytes_eq) (sym new.1) (distinct_push (node_names nodes) node.name are.distinct new.2);
          }

  -- ---- a node goes

  all_left : (P : List ℕ → Type 0) (nodes : List (Node Op)) (index : ℕ) → AllByRecursion P (node_names nodes) → AllByRecursion P (node_names (remove nodes index))
  all_left P [] zero all = tt
  all_left P [] (suc index) all = tt
  all_left P (first ∷ nodes) zero all = all.1
  all_left P (first ∷ nodes) (suc index) all = (all.0, all_left P nodes index all.1)

  distinct_left : (nodes : List (Node Op)) (index : ℕ) → IsDistinct bytes_eq (node_names nodes) → IsDistinct bytes_eq (node_names (remove nodes index))
  unfolding IsDistinct
  distinct_left [] zero distinct = tt
  distinct_left [] (suc index) distinct = tt
  distinct_left (first ∷ nodes) zero distinct = distinct.1
  distinct_left (first ∷ nodes) (suc index) distinct =
      (all_left (λ other. bytes_eq first.name other ≡ false) nodes index distinct.0, distinct_left nodes index distinct.1)

  fewer_left : (nodes : List (Node Op)) (index : ℕ) → length (remove nodes index) ≤ length nodes
  fewer_left [] zero = omega arith
  fewer_left [] (suc index) = omega arith
  fewer_left (first ∷ nodes) zero = omega arith
  fewer_left (first ∷ nodes) (suc index) = let less = fewer_left nodes index in omega (arith, less)

  -- ---- all edits

  edit_keeps : (shapes : Shapes) (nodes : List (Node Op)) (edit : NodeEdit Op) → AreNodes nodes → edit_refused shapes nodes edit ≡ None → AreNodes (with_edit nodes edit)
  edit_keeps shapes nodes (Set node) are passed = set_keeps shapes nodes node are passed
  edit_keeps shapes nodes (Remove name) are passed =
      record {
        few = let less = fewer_left nodes (index_of nodes name) in omega (arith, less, are.few);
        distinct = distinct_left nodes (index_of nodes name) are.distinct;
      }

  then_keeps : (shapes : Shapes) (r : Result (List (Node Op)) StateRefused) (edit : NodeEdit Op) → IfOk r AreNodes → IfOk (then_edit shapes r edit) AreNodes
  then_keeps shapes (Err refused) edit are = tt
  then_keeps shapes (Ok nodes) edit are = by (edit_refused shapes nodes edit) refl
    where
      by : (o : Option StateRefused) → edit_refused shapes nodes edit ≡ o → IfOk (unless_refused o (with_edit nodes edit)) AreNodes
      by None e = edit_keeps shapes nodes edit are e
      by (Some refused) e = tt

  edits_keep : (shapes : Shapes) (r : Result (List (Node Op)) StateRefused) (edits : List (NodeEdit Op)) → IfOk r AreNodes → IfOk (with_edits shapes r edits) AreNodes
  edits_keep shapes r [] are = are
  edits_keep shapes r (edit ∷ edits) are = edits_keep shapes (then_edit shapes r edit) edits (then_keeps shapes r edit are)

  pub edits_leave_valid : (meanings : Meanings Op) (shapes : Shapes) (nodes : List (Node Op)) (edits : List (NodeEdit Op)) →
      length nodes ≤ max_nodes → IsDistinct bytes_eq (node_names nodes) →
      IfOk (edited meanings shapes nodes edits) (AreValid meanings shapes)
  edits_leave_valid meanings shapes nodes edits few distinct =
      of_result (with_edits shapes (Ok nodes) edits) (edits_keep shapes (Ok nodes) edits (record { few = few; distinct = distinct }))
    where
      of_option : (next : List (Node Op)) → AreNodes next → (refused : Option StateRefused) → steps_refused meanings shapes [] (steps_of next) ≡ refused →
          IfOk (unless_refused refused next) (AreValid meanings shapes)
      of_option next are None e =
          record { few = are.few; distinct = are.distinct; steps = valid_steps meanings shapes [] (steps_of next) e }
      of_option next are (Some refused) e = tt

      of_result : (r : Result (List (Node Op)) StateRefused) → IfOk r AreNodes → IfOk (walked meanings shapes r) (AreValid meanings shapes)
      of_result (Ok next) are = of_option next are (steps_refused meanings shapes [] (steps_of next)) refl
      of_result (Err refused) are = tt
