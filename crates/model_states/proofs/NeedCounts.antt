-- How many pairs a strip and a request need at most.
use Rattle.std.proofs.Common.{◌≡◌, ℕ, suc, ◌*◌, ◌^◌, ◌<◌, ◌≤◌, List, [], ◌∷◌, ◌++◌, map, reverse, take, length, get_or, IsSomeAnd, refl, sym, ◌∙◌, subst, arith, Option, Some, None, length-append}
use Rattle.std.specs.Prelude.{option_map, slice_get, unwrap_or}
use Rattle.std.specs.List.{AllByRecursion, flat_map, range_with_len}
use Rattle.std.proofs.lemmas.List.{length-map, length-reverse, length-take}
use Rattle.std.proofs.lemmas.List.FromFn.{length-range_with_len}
use Rattle.std.proofs.lemmas.Option.{same_Some, slice_get-map}
use Rattle.plane_rect.specs.Rectangle.{InLimits, Includes, Rectangle, empty, meet}
use Rattle.plane_rect.specs.Tile.{Tile, tile_lines, tile_of, strip_rectangles, tile_line}
use Rattle.plane_rect.proofs.Rectangles.{Inside-meet}
use Rattle.model_graphs.specs.declared.node.NodeFact.{NodeFact}
use Rattle.model_graphs.specs.Facts.{specs_of, stated_shapes}
use Rattle.model_graphs.specs.Laws.{IsBoxed}
use Rattle.model_graphs.specs.Meanings.{Meanings}
use Rattle.model_graphs.specs.Node.{Apply, FromBuffer, Node, Step, step_of}
use Rattle.model_graphs.specs.Shapes.{Shape, Shapes, no_shape}
use Rattle.model_states.specs.declared.strip.Strip.{Strip}
use Rattle.model_states.specs.Need.{Asked, Needed, asked_by, asked_of, need, needed, needed_of, strip_of}
use Rattle.model_states.specs.Regions.{tiles_of_any}
use Rattle.model_states.specs.Valid.{AreStated, AreValid, input_boxes, shapes_of, steps_of}
use Rattle.model_states.proofs.AskedInside.{InsideBox, all-append, asked_by_inside, asked_inside}
use Rattle.model_states.proofs.NeededRight.{AreFirst, first_steps}
use Rattle.model_states.proofs.Suited.{IsSuited, suited_at}
use Rattle.model_states.proofs.TileCounts.{lines-few, tiles_of_any-few}

module _ {Op : Type 0} (meanings : Meanings Op) (boxed : IsBoxed meanings) where
  -- ---- what is needed

  -- the box of each operation is in limits
  abbrev AreInLimits : List Shape → List (Step Op) → Type 0
  AreInLimits shapes all =
      (i : ℕ) (operation : Op) (inputs : List ℕ) → slice_get all i ≡ Some (Apply operation inputs) → InLimits (get_or shapes i no_shape).box

  few_of_node : (shapes : List Shape) (all : List (Step Op)) (node : ℕ) (step : Step Op) (rs : List Rectangle) → AreInLimits shapes all → slice_get all node ≡ Some step →
      AllByRecursion (Includes (get_or shapes node no_shape).box) rs → length (needed_of node step (tiles_of_any rs)) ≤ 10244
  few_of_node shapes all node (FromBuffer buffer) rs limits here inside = omega arith
  few_of_node shapes all node (Apply operation inputs) rs limits here inside =
      let tile : Tile → Needed = λ tile. (node, tile) in
      let count : length (map tile (tiles_of_any rs)) ≡ length (tiles_of_any rs) = length-map (tiles_of_any rs) tile in
      let few = tiles_of_any-few (get_or shapes node no_shape).box rs (limits node operation inputs here) inside in
      omega (arith, count, few)

  needed_few : (shapes : List Shape) (all : List (Step Op)) (asked : List Asked) (steps : List (Step Op)) → AreInLimits shapes all → AreFirst all steps → AllByRecursion (InsideBox shapes) asked →
      length (needed meanings shapes asked steps) ≤ length steps * 10244
  needed_few shapes all asked [] limits first inside = omega arith
  needed_few shapes all asked (step ∷ before) limits first inside =
      let node = length before in
      let box = (get_or shapes node no_shape).box in
      let ts = tiles_of_any (asked_of asked node) in
      let more = asked_by meanings shapes step box ts in
      let rest = needed_few shapes all (asked ++ more) before limits first.1 (all-append (InsideBox shapes) asked more inside (asked_by_inside meanings boxed shapes step box ts)) in
      let here = few_of_node shapes all node step (asked_of asked node) limits first.0 (asked_inside shapes node asked inside) in
      omega (arith, rest, here, length-append (needed meanings shapes (asked ++ more) before) (needed_of node step ts))

  -- ---- stated nodes

  limits_of_box : (o : Option Rectangle) → IsSomeAnd o InLimits → InLimits (unwrap_or o empty)
  limits_of_box None is = absurd is
  limits_of_box (Some r) is = is

  suited_in_limits : (shapes : Shapes) (all : List Shape) (i : ℕ) (operation : Op) (inputs : List ℕ) → IsSuited meanings shapes all i (Apply operation inputs) → InLimits (get_or all i no_shape).box
  suited_in_limits shapes all i operation inputs is =
      subst (λ (s : Shape). InLimits s.box) (sym is.shape) (limits_of_box (meanings.box operation (input_boxes all inputs)) is.valid.box)

  valid_in_limits : (shapes : Shapes) (nodes : List (Node Op)) → AreValid meanings shapes nodes → AreInLimits (shapes_of meanings shapes nodes) (steps_of nodes)
  valid_in_limits shapes nodes valid i operation inputs found =
      by (slice_get nodes i) refl (sym (slice_get-map (λ (node : Node Op). step_of nodes node.body) nodes i) ∙ found)
    where
      by : (o : Option (Node Op)) → slice_get nodes i ≡ o → option_map (λ (node : Node Op). step_of nodes node.body) o ≡ Some (Apply operation inputs) → InLimits (get_or (shapes_of meanings shapes nodes) i no_shape).box
      by None e is = absurd (cc)
      by (Some node) e is =
          suited_in_limits shapes (shapes_of meanings shapes nodes) i operation inputs
          (subst (λ step. IsSuited meanings shapes (shapes_of meanings shapes nodes) i step) (same_Some (step_of nodes node.body) (Apply operation inputs) is)
          (suited_at meanings shapes nodes i node valid e))

  stated_in_limits : (buffers : Shapes) (facts : List (NodeFact Op)) → AreStated meanings buffers facts → AreInLimits (stated_shapes facts) (steps_of (specs_of facts))
  stated_in_limits buffers facts is =
      subst (λ shapes. AreInLimits shapes (steps_of (specs_of facts))) (sym is.shapes) (valid_in_limits buffers (specs_of facts) is.valid)

  -- ---- strips

  pub strip_few : (buffers : Shapes) (facts : List (NodeFact Op)) (node : ℕ) (rectangle : Rectangle) → AreStated meanings buffers facts →
      length (strip_of meanings facts node rectangle).need ≤ 256 * 10244
  strip_few buffers facts node rectangle is =
      let shapes = stated_shapes facts in
      let steps = steps_of (specs_of facts) in
      let box = (get_or shapes node no_shape).box in
      let first = take (suc node) steps in
      let few = needed_few shapes steps ((node, meet rectangle box) ∷ []) (reverse first) (stated_in_limits buffers facts is) (first_steps steps (suc node))
      (λ u v there. ((Inside-meet u v rectangle box).0 there).1, tt) in
      let count : length (reverse first) ≤ 256 =
      omega (arith, is.valid.few, length-reverse first, length-take (suc node) steps, length-map (specs_of facts) (λ (node : Node Op). step_of (specs_of facts) node.body)) in
      omega (arith, few, count)

  each_few : (buffers : Shapes) (facts : List (NodeFact Op)) (node : ℕ) (rectangles : List Rectangle) → AreStated meanings buffers facts →
      AllByRecursion (λ (strip : Strip). length strip.need < 2 ^ 32) (map (strip_of meanings facts node) rectangles)
  each_few buffers facts node [] is = tt
  each_few buffers facts node (rectangle ∷ rectangles) is =
      let few = strip_few buffers facts node rectangle is in
      (omega (arith, few), each_few buffers facts node rectangles is)

  all_few : (buffers : Shapes) (facts : List (NodeFact Op)) (node : ℕ) (rectangles : List Rectangle) → AreStated meanings buffers facts →
      length (flat_map (λ (strip : Strip). strip.need) (map (strip_of meanings facts node) rectangles)) ≤ length rectangles * (256 * 10244)
  all_few buffers facts node [] is = omega arith
  all_few buffers facts node (rectangle ∷ rectangles) is =
      let here = strip_few buffers facts node rectangle is in
      let rest = all_few buffers facts node rectangles is in
      omega (
        arith,
        here,
        rest,
        length-append (strip_of meanings facts node rectangle).need (flat_map (λ (strip : Strip). strip.need) (map (strip_of meanings facts node) rectangles)),
      )

  -- ---- the laws

  pub strips_few : (buffers : Shapes) (facts : List (NodeFact Op)) (node : ℕ) (request : Rectangle) → AreStated meanings buffers facts →
      AllByRecursion (λ (strip : Strip). length strip.need < 2 ^ 32) (need meanings facts node request)
  strips_few buffers facts node request is = each_few buffers facts node (strip_rectangles request) is

  pub request_few : (buffers : Shapes) (facts : List (NodeFact Op)) (node : ℕ) (request : Rectangle) → AreStated meanings buffers facts → InLimits request →
      length (flat_map (λ (strip : Strip). strip.need) (need meanings facts node request)) < 2 ^ 32
  request_few buffers facts node request is limits =
      let rows = range_with_len (tile_of request.first_row) (tile_lines request) in
      let few = all_few buffers facts node (strip_rectangles request) is in
      let count : length (strip_rectangles request) ≡ tile_lines request =
      length-map rows (λ row. meet request (tile_line row)) ∙ length-range_with_len (tile_of request.first_row) (tile_lines request) in
      omega (arith, few, count, lines-few request limits)
