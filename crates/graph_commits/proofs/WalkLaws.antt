-- The walk over nodes, one after another.
use Rattle.std.proofs.Common.{◌≡◌, ℕ, suc, ◌+◌, ◌<◌, List, [], ◌∷◌, ◌++◌, map, length, get_or, drop, refl, sym, ap, ◌∙◌, drop-cons, arith, Option, Some, None, Result, Ok}
use Rattle.std.specs.Option.{option_or}
use Rattle.plane_rect.specs.Rectangle.{IsRectangle}
use Rattle.model_graphs.specs.Meanings.{Meanings}
use Rattle.model_graphs.specs.Node.{Node, Step, step_of}
use Rattle.model_graphs.specs.Shapes.{Shape, Shapes}
use Rattle.model_states.specs.declared.refused.StateRefused.{StateRefused}
use Rattle.model_states.specs.Edits.{step_refused, steps_refused, unless_refused}
use Rattle.model_states.specs.Valid.{shapes_after, step_shape}
use Rattle.graph_commits.specs.States.{HaveRectangularBoxes, shape_unless_refused, shapes_unless_refused}

-- ---- one node after another

module _ {Op : Type 0} where
  -- the steps of the nodes from a position on
  abbrev pub steps_from : List (Node Op) → ℕ → List (Step Op)
  steps_from nodes index = map (λ (node : Node Op). step_of nodes node.body) (drop index nodes)

  steps_cons : (nodes : List (Node Op)) (i : ℕ) (node : Node Op) → i < length nodes → get_or nodes i node ≡ node →
      steps_from nodes i ≡ step_of nodes node.body ∷ steps_from nodes (i + 1)
  steps_cons nodes i node inside is =
      let next : suc i ≡ i + 1 = omega arith in
      ap (λ rest. map (λ (n : Node Op). step_of nodes n.body) rest)
      (drop-cons nodes i node inside ∙ ap (λ (n : Node Op). n ∷ drop (suc i) nodes) is ∙ ap (λ j. node ∷ drop j nodes) next)

module _ {Op : Type 0} (meanings : Meanings Op) (buffers : Shapes) where
  cons_given : (known : List Shape) (step : Step Op) (steps : List (Step Op)) (shape : Shape) → shape_unless_refused meanings buffers known step ≡ Ok shape →
      shapes_unless_refused meanings buffers known (step ∷ steps) ≡ shapes_unless_refused meanings buffers (known ++ shape ∷ []) steps
  cons_given known step steps shape e = by (step_refused meanings buffers known step) refl e
    where
      by : (o : Option StateRefused) → step_refused meanings buffers known step ≡ o → unless_refused o (step_shape meanings buffers known step) ≡ Ok shape →
          shapes_unless_refused meanings buffers known (step ∷ steps) ≡ shapes_unless_refused meanings buffers (known ++ shape ∷ []) steps
      by None is e =
          let same : step_shape meanings buffers known step ≡ shape = cc in
          ap (λ o. unless_refused (option_or o (steps_refused meanings buffers (known ++ step_shape meanings buffers known step ∷ []) steps)) (shapes_after meanings buffers (known ++ step_shape meanings buffers known step ∷ []) steps)) is
          ∙ ap (λ (s : Shape). shapes_unless_refused meanings buffers (known ++ s ∷ []) steps) same
      by (Some why) is e = absurd (cc e)

  -- the walk goes on after a node that has a shape
  pub walk_goes : (known : List Shape) (nodes : List (Node Op)) (i : ℕ) (node : Node Op) (shape : Shape) (all : Result (List Shape) StateRefused) →
      i < length nodes → get_or nodes i node ≡ node → shape_unless_refused meanings buffers known (step_of nodes node.body) ≡ Ok shape →
      shapes_unless_refused meanings buffers known (steps_from nodes i) ≡ all →
      shapes_unless_refused meanings buffers (known ++ shape ∷ []) (steps_from nodes (i + 1)) ≡ all
  walk_goes known nodes i node shape all inside is given so_far =
      sym (ap (shapes_unless_refused meanings buffers known) (steps_cons nodes i node inside is)
      ∙ cons_given known (step_of nodes node.body) (steps_from nodes (i + 1)) shape given) ∙ so_far

-- ---- boxes

pub boxes_more : (known : List Shape) (shape : Shape) → HaveRectangularBoxes known → IsRectangle shape.box → HaveRectangularBoxes (known ++ shape ∷ [])
boxes_more [] shape all one = (one, tt)
boxes_more (first ∷ known) shape all one = (all.0, boxes_more known shape all.1 one)
