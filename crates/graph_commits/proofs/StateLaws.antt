-- What edits make of a state.
use Rattle.std.proofs.Common.{◌≡◌, List, [], ◌∷◌, map, refl, sym, ap, ◌∙◌, subst, Option, Some, None, Result, Ok, Err}
use Rattle.std.specs.List.{AllByRecursion, zip}
use Rattle.std.proofs.lemmas.Result.{IfOk-at_ok}
use Rattle.plane_rect.specs.Rectangle.{IsRectangle}
use Rattle.model_graphs.specs.declared.node.NodeEdit.{NodeEdit}
use Rattle.model_graphs.specs.declared.node.NodeFact.{NodeFact}
use Rattle.model_graphs.specs.Facts.{Facts, shapes_of_facts, specs_of}
use Rattle.model_graphs.specs.Meanings.{Meanings}
use Rattle.model_graphs.specs.Node.{Node}
use Rattle.model_graphs.specs.Shapes.{Shape, Shapes}
use Rattle.model_states.specs.declared.refused.StateRefused.{StateRefused}
use Rattle.model_states.specs.Damage.{Side}
use Rattle.model_states.specs.Edits.{steps_refused, unless_refused, walked, with_edits}
use Rattle.model_states.specs.Valid.{AreStated, AreValid, node_names, shapes_of, steps_of, with_shape}
use Rattle.model_states.proofs.EditLaws.{edits_leave_valid}
use Rattle.model_states.proofs.Stated.{stated-nodes, stated_valid}
use Rattle.graph_edits.specs.declared.refused.GraphRefused.{GraphRefused}
use Rattle.graph_edits.specs.declared.refused.GraphRefused.TheVariants.{State, NoMemory}
use Rattle.graph_edits.specs.Refusals.{IsRefusalOf}
use Rattle.graph_commits.specs.States.{HaveRectangularBoxes, IsGraphState, edited_side, shapes_unless_refused, side_of_result}

module _ {Op : Type 0} (meanings : Meanings Op) where
  -- ---- the walk, after the edits

  -- a walk that refuses none gives the shapes of the nodes
  pub record Walked (buffers : Shapes) (nodes : List (Node Op)) (shapes : List Shape) : Type 0 where
    pub none : steps_refused meanings buffers [] (steps_of nodes) ≡ None
    pub shapes_are : shapes_of meanings buffers nodes ≡ shapes

  walked_shapes : (buffers : Shapes) (nodes : List (Node Op)) (shapes : List Shape) →
      shapes_unless_refused meanings buffers [] (steps_of nodes) ≡ Ok shapes → Walked buffers nodes shapes
  walked_shapes buffers nodes shapes e = by (steps_refused meanings buffers [] (steps_of nodes)) refl e
    where
      by : (o : Option StateRefused) → steps_refused meanings buffers [] (steps_of nodes) ≡ o → unless_refused o (shapes_of meanings buffers nodes) ≡ Ok shapes → Walked buffers nodes shapes
      by None is e = record { none = is; shapes_are = cc }
      by (Some why) is e = absurd (cc e)

  walk_refusal : (buffers : Shapes) (nodes : List (Node Op)) (why : StateRefused) →
      shapes_unless_refused meanings buffers [] (steps_of nodes) ≡ Err why → walked meanings buffers (Ok nodes) ≡ Err why
  walk_refusal buffers nodes why e = by (steps_refused meanings buffers [] (steps_of nodes)) refl e
    where
      by : (o : Option StateRefused) → steps_refused meanings buffers [] (steps_of nodes) ≡ o → unless_refused o (shapes_of meanings buffers nodes) ≡ Err why → walked meanings buffers (Ok nodes) ≡ Err why
      by None is e = absurd (cc e)
      by (Some w) is e = ap (λ o. unless_refused o nodes) is ∙ cc

  -- ---- the state after edits

  module _ (side : Side Op) (edits : List (NodeEdit Op)) (buffers : Facts) where
    abbrev edited_nodes : Result (List (Node Op)) StateRefused
    edited_nodes = with_edits (shapes_of_facts buffers) (Ok (specs_of side.nodes)) edits

    module _ (nodes : List (Node Op)) (made : edited_nodes ≡ Ok nodes) where
      pub walk_refused : (why : GraphRefused) → IsRefusalOf (shapes_unless_refused meanings (shapes_of_facts buffers) [] (steps_of nodes)) why →
          IsRefusalOf (edited_side meanings side edits buffers) why
      walk_refused NoMemory refused = tt
      walk_refused (State why) refused =
          ap (λ r. side_of_result meanings buffers (walked meanings (shapes_of_facts buffers) r)) made
          ∙ ap (side_of_result meanings buffers) (walk_refusal (shapes_of_facts buffers) nodes why refused)

      module _ (shapes : List Shape) (given : shapes_unless_refused meanings (shapes_of_facts buffers) [] (steps_of nodes) ≡ Ok shapes) where
        abbrev facts : List (NodeFact Op)
        facts = map with_shape (zip nodes shapes)

        walk : Walked (shapes_of_facts buffers) nodes shapes
        walk = walked_shapes (shapes_of_facts buffers) nodes shapes given

        edited_is : walked meanings (shapes_of_facts buffers) edited_nodes ≡ Ok nodes
        edited_is = ap (walked meanings (shapes_of_facts buffers)) made ∙ ap (λ o. unless_refused o nodes) walk.none

        pub edited_side-is : edited_side meanings side edits buffers ≡ Ok (record { buffers = buffers; nodes = map with_shape (zip nodes shapes) })
        edited_side-is =
            ap (side_of_result meanings buffers) edited_is
            ∙ ap (λ shapes. Ok (record { buffers = buffers; nodes = map with_shape (zip nodes shapes) })) walk.shapes_are

        pub names_of_facts : node_names nodes ≡ node_names (specs_of (map with_shape (zip nodes shapes)))
        names_of_facts =
            ap node_names (sym (stated-nodes meanings (shapes_of_facts buffers) nodes))
            ∙ ap (λ shapes. node_names (specs_of (map with_shape (zip nodes shapes)))) walk.shapes_are

        -- so it is a state of a graph, where the one before is
        pub edited_state : IsGraphState meanings side → HaveRectangularBoxes shapes →
            IsGraphState meanings (record { buffers = buffers; nodes = map with_shape (zip nodes shapes) })
        edited_state state boxes =
            let old = state.stated.valid in
            let valid : AreValid meanings (shapes_of_facts buffers) nodes =
            IfOk-at_ok (AreValid meanings (shapes_of_facts buffers)) edited_is
            (edits_leave_valid meanings (shapes_of_facts buffers) (specs_of side.nodes) edits old.few old.distinct) in
            record {
              stated =
                  subst (λ shapes. AreStated meanings (shapes_of_facts buffers) (map with_shape (zip nodes shapes))) walk.shapes_are
                  (stated_valid meanings (shapes_of_facts buffers) nodes valid);
              rectangles = rectangles nodes shapes boxes;
            }
          where
            rectangles : (nodes : List (Node Op)) (shapes : List Shape) → HaveRectangularBoxes shapes →
                AllByRecursion (λ (fact : NodeFact Op). IsRectangle fact.bounds) (map with_shape (zip nodes shapes))
            rectangles [] shapes all = tt
            rectangles (node ∷ nodes) [] all = tt
            rectangles (node ∷ nodes) (shape ∷ shapes) all = (all.0, rectangles nodes shapes all.1)
