-- Nodes with the shapes that they have.
use Rattle.std.proofs.Common.{◌≡◌, ℕ, ◌+◌, List, [], ◌∷◌, ◌++◌, map, length, get_or, refl, sym, ap, ◌∙◌, subst, arith}
use Rattle.std.specs.List.{zip}
use Rattle.std.proofs.lemmas.List.{length-append, length-map}
use Rattle.model_graphs.specs.declared.node.NodeFact.{NodeFact}
use Rattle.model_graphs.specs.Evaluation.{Buffers}
use Rattle.model_graphs.specs.Facts.{AreImagesOf, specs_of, stated_shapes}
use Rattle.model_graphs.specs.Node.{Node, Step, index_of, step_of}
use Rattle.model_graphs.specs.Shapes.{Shape, Shapes, no_shape, shape_of_image}
use Rattle.model_graphs.specs.Meanings.{Meanings}
use Rattle.model_states.specs.Damage.{IsStated, Side, side_shape}
use Rattle.model_states.specs.Neighbors.{scene_of_side}
use Rattle.model_states.specs.State.{IsValidScene, Scene, image_of, node_shapes, shape_of}
use Rattle.model_states.specs.Valid.{AreStated, AreValid, shapes_after, shapes_of, stated, step_shape, steps_of, with_shape}
use Rattle.model_states.proofs.Shapes.{shape_at}

pub length-shapes_after : {Op : Type 0} (meanings : Meanings Op) (shapes : Shapes) (known : List Shape) (steps : List (Step Op)) →
    length (shapes_after meanings shapes known steps) ≡ length known + length steps
length-shapes_after meanings shapes known [] = omega arith
length-shapes_after meanings shapes known (step ∷ steps) =
    let next = step_shape meanings shapes known step ∷ [] in
    length-shapes_after meanings shapes (known ++ next) steps ∙ omega (arith, length-append known next)

pub length-shapes_of : {Op : Type 0} (meanings : Meanings Op) (shapes : Shapes) (nodes : List (Node Op)) → length (shapes_of meanings shapes nodes) ≡ length nodes
length-shapes_of {Op} meanings shapes nodes =
    omega (arith, length-shapes_after meanings shapes [] (steps_of nodes), length-map nodes (λ (node : Node Op). step_of nodes node.body))

module _ {Op : Type 0} where
  nodes_zipped : (nodes : List (Node Op)) (shapes : List Shape) → length shapes ≡ length nodes → specs_of (map with_shape (zip nodes shapes)) ≡ nodes
  nodes_zipped [] shapes count = refl
  nodes_zipped (node ∷ nodes) [] count = absurd (omega (arith, count))
  nodes_zipped (node ∷ nodes) (shape ∷ shapes) count = ap (λ rest. node ∷ rest) (nodes_zipped nodes shapes (omega (arith, count)))

  shapes_zipped : (nodes : List (Node Op)) (shapes : List Shape) → length shapes ≡ length nodes → stated_shapes (map with_shape (zip nodes shapes)) ≡ shapes
  shapes_zipped [] [] count = refl
  shapes_zipped [] (shape ∷ shapes) count = absurd (omega (arith, count))
  shapes_zipped (node ∷ nodes) [] count = absurd (omega (arith, count))
  shapes_zipped (node ∷ nodes) (shape ∷ shapes) count = ap (λ rest. shape ∷ rest) (shapes_zipped nodes shapes (omega (arith, count)))

  pub stated-nodes : (meanings : Meanings Op) (shapes : Shapes) (nodes : List (Node Op)) → specs_of (stated meanings shapes nodes) ≡ nodes
  stated-nodes meanings shapes nodes = nodes_zipped nodes (shapes_of meanings shapes nodes) (length-shapes_of meanings shapes nodes)

  pub stated-shapes : (meanings : Meanings Op) (shapes : Shapes) (nodes : List (Node Op)) → stated_shapes (stated meanings shapes nodes) ≡ shapes_of meanings shapes nodes
  stated-shapes meanings shapes nodes = shapes_zipped nodes (shapes_of meanings shapes nodes) (length-shapes_of meanings shapes nodes)

  -- valid nodes with the shapes that they have are stated as they are
  pub stated_valid : (meanings : Meanings Op) (shapes : Shapes) (nodes : List (Node Op)) → AreValid meanings shapes nodes → AreStated meanings shapes (stated meanings shapes nodes)
  stated_valid meanings shapes nodes valid =
      let same = stated-nodes meanings shapes nodes in
      record {
        valid = subst (AreValid meanings shapes) (sym same) valid;
        shapes = stated-shapes meanings shapes nodes ∙ ap (shapes_of meanings shapes) (sym same);
      }

  -- and there are no others
  zipped_again : (facts : List (NodeFact Op)) → map with_shape (zip (specs_of facts) (stated_shapes facts)) ≡ facts
  zipped_again [] = refl
  zipped_again (fact ∷ facts) = ap (λ rest. fact ∷ rest) (zipped_again facts)

  pub stated_only : (meanings : Meanings Op) (shapes : Shapes) (facts : List (NodeFact Op)) → AreStated meanings shapes facts → facts ≡ stated meanings shapes (specs_of facts)
  stated_only meanings shapes facts are =
      sym (zipped_again facts) ∙ ap (λ shapes. map with_shape (zip (specs_of facts) shapes)) are.shapes

  -- ---- a state with the images of its buffers

  -- the shape of a node is that of its image
  pub scene_shape-is : (meanings : Meanings Op) (scene : Scene Op) (name : List ℕ) → shape_of meanings scene name ≡ shape_of_image (image_of meanings scene name)
  scene_shape-is meanings scene name = shape_at meanings scene.table (steps_of scene.nodes) (index_of scene.nodes name)

  module _ (meanings : Meanings Op) (side : Side Op) (images : Buffers) (are : IsStated meanings side) (shown : AreImagesOf side.buffers images) where
    pub side_valid : IsValidScene meanings (scene_of_side side images)
    side_valid = subst (λ shapes. AreValid meanings shapes (specs_of side.nodes)) (sym shown) are.valid

    pub side_shapes : stated_shapes side.nodes ≡ node_shapes meanings (scene_of_side side images)
    side_shapes = are.shapes ∙ ap (λ shapes. shapes_of meanings shapes (specs_of side.nodes)) (sym shown)

    pub side_shape-is : (name : List ℕ) → side_shape side name ≡ shape_of_image (image_of meanings (scene_of_side side images) name)
    side_shape-is name =
        ap (λ shapes. get_or shapes (index_of (specs_of side.nodes) name) no_shape) side_shapes
        ∙ shape_at meanings images (steps_of (specs_of side.nodes)) (index_of (specs_of side.nodes) name)

    pub side_shape-of : (name : List ℕ) → side_shape side name ≡ shape_of meanings (scene_of_side side images) name
    side_shape-of name = ap (λ shapes. get_or shapes (index_of (specs_of side.nodes) name) no_shape) side_shapes
