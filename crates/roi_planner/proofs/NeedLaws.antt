-- What is needed of some nodes, from what is needed of those before the last.
use Rattle.std.proofs.Common.{◌≡◌, ℕ, suc, ◌<◌, List, [], ◌∷◌, ◌++◌, length, get_or, take, reverse, refl, sym, ap, ◌∙◌, arith}
use Rattle.std.proofs.Math.Seq.{take-suc}
use Rattle.std.proofs.lemmas.List.{length-map, length-reverse, length-take-le, reverse-append}
use Rattle.plane_rect.specs.Tile.{Tile}
use Rattle.model_graphs.specs.declared.node.NodeFact.{NodeFact}
use Rattle.model_graphs.specs.Facts.{specs_of, stated_shapes}
use Rattle.model_graphs.specs.Meanings.{Meanings}
use Rattle.model_graphs.specs.Node.{FromBuffer, Node, Step, step_of}
use Rattle.model_graphs.specs.Shapes.{Shape, no_shape}
use Rattle.model_states.specs.Need.{Asked, Needed, asked_by, asked_of, needed, needed_of}
use Rattle.model_states.specs.Regions.{tiles_of_any}
use Rattle.model_states.specs.Valid.{steps_of}
use Rattle.roi_planner.specs.Inputs.{box_at, step_at}

reverse-take-suc : {A : Type 0} (xs : List A) (n : ℕ) (d : A) → n < length xs → reverse (take (suc n) xs) ≡ get_or xs n d ∷ reverse (take n xs)
reverse-take-suc xs n d inside = ap reverse (take-suc xs n d inside) ∙ reverse-append (take n xs) (get_or xs n d ∷ [])

length-before : {A : Type 0} (xs : List A) (n : ℕ) → n < length xs → length (reverse (take n xs)) ≡ n
length-before xs n inside = length-reverse (take n xs) ∙ length-take-le n xs (omega arith)

module _ {Op : Type 0} (meanings : Meanings Op) where
  needed-cons : (shapes : List Shape) (asked : List Asked) (step : Step Op) (before : List (Step Op)) (n : ℕ) → length before ≡ n →
      needed meanings shapes asked (step ∷ before)
      ≡ needed meanings shapes (asked ++ asked_by meanings shapes step (get_or shapes n no_shape).box (tiles_of_any (asked_of asked n))) before
      ++ needed_of n step (tiles_of_any (asked_of asked n))
  needed-cons shapes asked step before n count = rw (← count) refl

  pub needed-last : (facts : List (NodeFact Op)) (asked : List Asked) (n : ℕ) (tiles : List Tile) (before list : List Needed) →
      n < length facts → tiles ≡ tiles_of_any (asked_of asked n) →
      before
      ≡ needed meanings (stated_shapes facts) (asked ++ asked_by meanings (stated_shapes facts) (step_at facts n) (box_at facts n) (tiles_of_any (asked_of asked n)))
      (reverse (take n (steps_of (specs_of facts)))) →
      list ≡ before ++ needed_of n (step_at facts n) tiles →
      list ≡ needed meanings (stated_shapes facts) asked (reverse (take (suc n) (steps_of (specs_of facts))))
  needed-last facts asked n tiles before list inside of_tiles earlier joined =
      let nodes = specs_of facts in
      let steps = steps_of nodes in
      let shapes = stated_shapes facts in
      let spec : NodeFact Op → Node Op = λ fact. fact.spec in
      let step : Node Op → Step Op = λ node. step_of nodes node.body in
      let some : n < length steps = omega (arith, inside, length-map nodes step, length-map facts spec) in
      joined
      ∙ ap (λ (xs : List Needed). xs ++ needed_of n (step_at facts n) tiles) earlier
      ∙ ap (λ (ts : List Tile). needed meanings shapes (asked ++ asked_by meanings shapes (step_at facts n) (box_at facts n) (tiles_of_any (asked_of asked n))) (reverse (take n steps)) ++ needed_of n (step_at facts n) ts) of_tiles
      ∙ sym (needed-cons shapes asked (step_at facts n) (reverse (take n steps)) n (length-before steps n some))
      ∙ ap (needed meanings shapes asked) (sym (reverse-take-suc steps n (FromBuffer []) some))
