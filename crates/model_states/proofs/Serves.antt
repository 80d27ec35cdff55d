-- A strip's need serves itself.
use Rattle.std.proofs.Common.{◌≡◌, ℕ, zero, suc, ◌+◌, ◌<◌, ◌≤◌, ◌⊎◌, Bool, true, false, ◌||◌, eqb, List, [], ◌∷◌, ◌++◌, map, filter, reverse, take, length, get_or, inl, inr, refl, sym, ap, ◌∙◌, subst, arith, Some, All, Contains}
use Rattle.std.specs.Prelude.{slice_get}
use Rattle.std.specs.List.{AllByRecursion, enumerate_from, list_any}
use Rattle.std.proofs.lemmas.Bool.{cases_lt}
use Rattle.std.proofs.lemmas.Bool.Decides.{nat_tests}
use Rattle.std.proofs.lemmas.List.{length-append}
use Rattle.std.proofs.lemmas.Option.{get_or_from_slice_get, same_Some, slice_get_within}
use Rattle.plane_rect.specs.Rectangle.{Includes, Inside, Rectangle, meet}
use Rattle.plane_rect.specs.Tile.{Tile, tile_at, tile_columns, tile_lines, tile_of, tile_row, tile_rows, tile_square, tiles, strip_rectangles, meets}
use Rattle.plane_rect.proofs.RectangleLaws.{Includes-hull_left, Includes-hull_right}
use Rattle.plane_rect.proofs.Rectangles.{Inside-meet}
use Rattle.plane_rect.proofs.TileLists.{Inside-tile_square}
use Rattle.model_graphs.specs.declared.node.NodeFact.{NodeFact}
use Rattle.model_graphs.specs.Facts.{specs_of, stated_shapes}
use Rattle.model_graphs.specs.Meanings.{Meanings}
use Rattle.model_graphs.specs.Node.{Apply, FromBuffer, Step}
use Rattle.model_graphs.specs.Shapes.{Shape, Shapes, no_shape}
use Rattle.model_states.specs.declared.strip.Strip.{Strip}
use Rattle.model_states.specs.Need.{Asked, Needed, asked_by, asked_by_part, asked_of, need, needed, needed_of, strip_of}
use Rattle.model_states.specs.Regions.{hull_of, tiles_of_any}
use Rattle.model_states.specs.Serving.{IsNeededBefore, IsSourceAt, ServesItself}
use Rattle.model_states.specs.Valid.{AreStated, AreValidSteps, IsValidStep, input_boxes, step_shape, steps_of}
use Rattle.model_states.proofs.Members.{Member, get-enumerated, get-left, get-map, get-split, later, made_of, member-filter, member-flat_map, member-left, member-map, member-right}
use Rattle.model_states.proofs.NeededRight.{AreFirst, first_steps, meets_whole}
use Rattle.model_states.proofs.RightPairs.{a_position}

-- ---- tiles that meet a rectangle

tile_is : (column row : ℕ) (t : Tile) → column ≡ t.column → row ≡ t.row → (let s : Tile = record { column = column; row = row } in s ≡ t)
tile_is column row t at_column at_row =
    let joined : (of : ℕ → ℕ → Tile) → of column row ≡ of t.column t.row = λ of. cc in
    joined (λ column row. record { column = column; row = row })

row_has : (row column n : ℕ) (t : Tile) → row ≡ t.row → column ≤ t.column → t.column < column + n → Member t (tile_row row column n)
row_has row column zero t is low high = absurd (omega (arith, low, high))
row_has row column (suc n) t is low high = elim (cases_lt column t.column) [
  | inl more ↦ later t (record { column = column; row = row }) (tile_row row (suc column) n) (row_has row (suc column) n t is (omega (arith, more)) (omega (arith, high)))
  | inr here ↦ (0, ap Some (tile_is column row t (omega (arith, low, here)) is))
]

rows_have : (column columns row n : ℕ) (t : Tile) → column ≤ t.column → t.column < column + columns → row ≤ t.row → t.row < row + n → Member t (tile_rows column columns row n)
rows_have column columns row zero t a b low high = absurd (omega (arith, low, high))
rows_have column columns row (suc n) t a b low high = elim (cases_lt row t.row) [
  | inl more ↦ member-right t (tile_row row column columns) (tile_rows column columns (suc row) n) (rows_have column columns (suc row) n t a b (omega (arith, more)) (omega (arith, high)))
  | inr here ↦ member-left t (tile_row row column columns) (tile_rows column columns (suc row) n) (row_has row column columns t (omega (arith, low, here)) a b)
]

-- a position of the rectangle in the tile
shared : (t : Tile) (r : Rectangle) → meets t r ≡ true → (u v : ℕ) × Inside u v (tile_square t) × Inside u v r
shared t r met =
    let both = meet (tile_square t) r in
    let at = (Inside-meet both.first_column both.first_row (tile_square t) r).0 (a_position both met) in
    (both.first_column, both.first_row, at.0, at.1)

pub tiles_have : (r : Rectangle) (t : Tile) → meets t r ≡ true → Member t (tiles r)
tiles_have r t met =
    let s = shared t r met in
    let is : t ≡ tile_at s.0 s.1 = (Inside-tile_square s.0 s.1 t).0 s.2 in
    let column : t.column ≡ tile_of s.0 = ap (λ (t : Tile). t.column) is in
    let row : t.row ≡ tile_of s.1 = ap (λ (t : Tile). t.row) is in
    rows_have (tile_of r.first_column) (tile_columns r) (tile_of r.first_row) (tile_lines r) t
    (omega (arith, column, s.3.column.0)) (omega (arith, column, s.3.column.0, s.3.column.1)) (omega (arith, row, s.3.row.0)) (omega (arith, row, s.3.row.0, s.3.row.1))

hull_has : (rs : List Rectangle) (k : ℕ) (r : Rectangle) → slice_get rs k ≡ Some r → Includes (hull_of rs) r
hull_has [] k r found = absurd (cc)
hull_has (first ∷ rs) zero r found = subst (Includes (hull_of (first ∷ rs))) (same_Some first r found) (Includes-hull_left first (hull_of rs))
hull_has (first ∷ rs) (suc k) r found = λ u v inside. Includes-hull_right first (hull_of rs) u v (hull_has rs k r found u v inside)

any_has : (t : Tile) (rs : List Rectangle) (k : ℕ) (r : Rectangle) → slice_get rs k ≡ Some r → meets t r ≡ true → list_any (meets t) rs ≡ true
any_has t [] k r found met = absurd (cc)
any_has t (first ∷ rs) zero r found met = ap (λ b. b || list_any (meets t) rs) (ap (meets t) (same_Some first r found) ∙ met)
any_has t (first ∷ rs) (suc k) r found met = either (meets t first) (any_has t rs k r found met)
  where
    either : (b : Bool) → list_any (meets t) rs ≡ true → (b || list_any (meets t) rs) ≡ true
    either true rest = refl
    either false rest = rest

-- a tile that meets one of some rectangles is among their tiles
tiles_of_any-have : (rs : List Rectangle) (k : ℕ) (r : Rectangle) (t : Tile) → slice_get rs k ≡ Some r → meets t r ≡ true → Member t (tiles_of_any rs)
tiles_of_any-have rs k r t found met =
    let whole : meets t (hull_of rs) ≡ true = meets_whole t (hull_of rs) r (hull_has rs k r found) met in
    let at = tiles_have (hull_of rs) t whole in
    member-filter (λ t. list_any (meets t) rs) t (tiles (hull_of rs)) at.0 at.1 (any_has t rs k r found met)

-- what is asked of a node is among what is asked of it
asked_has : (asked : List Asked) (k node : ℕ) (r : Rectangle) → slice_get asked k ≡ Some (node, r) → Member r (asked_of asked node)
asked_has asked k node r found =
    let test : Asked → Bool = λ a. eqb a.0 node in
    let own : eqb node node ≡ true = grind (arith, nat_tests) in
    member-map (λ (a : Asked). a.1) (node, r) (filter test asked) (member-filter test (node, r) asked k found own)

module _ {Op : Type 0} (meanings : Meanings Op) (shapes : List Shape) (all : List (Step Op)) where
  -- what a tile asks of an input
  asked_by-has : (operation : Op) (inputs : List ℕ) (box : Rectangle) (ts : List Tile) (t : Tile) (i : ℕ) → Member t ts → i < length inputs →
      Member (get_or inputs i 0, meanings.required operation (input_boxes shapes inputs) i (meet (tile_square t) box)) (asked_by meanings shapes (Apply operation inputs) box ts)
  asked_by-has operation inputs box ts t i at less =
      let ask : ℕ × ℕ → Asked = λ input. (input.1, meanings.required operation (input_boxes shapes inputs) input.0 (meet (tile_square t) box)) in
      let first : 0 + i ≡ i = omega arith in
      let here : slice_get (enumerate_from 0 inputs) i ≡ Some (i, get_or inputs i 0) = get-enumerated inputs 0 i 0 less ∙ ap (λ k. Some (k, get_or inputs i 0)) first in
      member-flat_map (λ t. asked_by_part meanings shapes operation inputs (meet (tile_square t) box)) ts at.0 t
      (get_or inputs i 0, meanings.required operation (input_boxes shapes inputs) i (meet (tile_square t) box)) at.1
      (i, get-map ask (enumerate_from 0 inputs) i (i, get_or inputs i 0) here)

  -- a tile that meets what is asked of one of these steps is needed of it, or that is a source
  abbrev IsCovered : List Needed → ℕ → Tile → Type 0
  IsCovered list node t = IsSourceAt all node ⊎ Member (node, t) list

  covered_here : (node : ℕ) (step : Step Op) (ts : List Tile) (t : Tile) → slice_get all node ≡ Some step → Member t ts → IsCovered (needed_of node step ts) node t
  covered_here node (FromBuffer buffer) ts t here at = inl (buffer, here)
  covered_here node (Apply operation inputs) ts t here at = inr (member-map (λ t. (node, t)) t ts at)

  covered : (asked : List Asked) (steps : List (Step Op)) → AreFirst all steps → (node : ℕ) (r : Rectangle) (t : Tile) → Member (node, r) asked → node < length steps → meets t r ≡ true →
      IsCovered (needed meanings shapes asked steps) node t
  covered asked [] first node r t at less met = absurd (omega (arith, less))
  covered asked (step ∷ before) first node r t at less met =
      let last = length before in
      let box = (get_or shapes last no_shape).box in
      let ts = tiles_of_any (asked_of asked last) in
      let more = asked ++ asked_by meanings shapes step box ts in
      let earlier = needed meanings shapes more before in
      let own = needed_of last step ts in
      elim (cases_lt node last) [
        | inl low ↦ elim (covered more before first.1 node r t (member-left (node, r) asked (asked_by meanings shapes step box ts) at) low met) [
          | inl source ↦ inl source
          | inr there ↦ inr (member-left (node, t) earlier own there)
        ]
        | inr high ↦
            let is : node ≡ last = omega (arith, less, high) in
            let asks = asked_has asked at.0 last r (at.1 ∙ ap (λ n. Some (n, r)) is) in
            let listed = tiles_of_any-have (asked_of asked last) asks.0 r t asks.1 met in
            subst (λ node. IsCovered (earlier ++ own) node t) (sym is) (covered_more earlier own last t (covered_here last step ts t first.0 listed))
      ]
    where
      covered_more : (earlier own : List Needed) (node : ℕ) (t : Tile) → IsCovered own node t → IsCovered (earlier ++ own) node t
      covered_more earlier own node t (inl source) = inl source
      covered_more earlier own node t (inr there) = inr (member-right (node, t) earlier own there)

  -- the inputs of each operation stand before it
  abbrev AreEarlier : Type 0
  AreEarlier = (node : ℕ) (operation : Op) (inputs : List ℕ) → slice_get all node ≡ Some (Apply operation inputs) → All (λ i. i < node) inputs

  -- what is needed of a step are its tiles
  tile_needed : (node : ℕ) (step : Step Op) (ts : List Tile) (n : Needed) → Member n (needed_of node step ts) → (t : Tile) × (n ≡ (node, t)) × Member t ts
  tile_needed node (FromBuffer buffer) ts n at = absurd (let none = at.1 in cc)
  tile_needed node (Apply operation inputs) ts n at = made_of (λ t. (node, t)) ts at.0 n at.1

  -- what the last of some steps requires
  of_last : (asked : List Asked) (step : Step Op) (before : List (Step Op)) → AreFirst all (step ∷ before) → AreEarlier →
      (j : ℕ) (n : Needed) (operation : Op) (inputs : List ℕ) (i : ℕ) (tile : Tile) →
      (let ts = tiles_of_any (asked_of asked (length before)) in
      let box = (get_or shapes (length before) no_shape).box in
      let front = needed meanings shapes (asked ++ asked_by meanings shapes step box ts) before in
      let own = needed_of (length before) step ts in
      length front ≤ j → Member n own → slice_get all n.0 ≡ Some (Apply operation inputs) → i < length inputs →
      meets tile (meanings.required operation (input_boxes shapes inputs) i (meet (tile_square n.1) (get_or shapes n.0 no_shape).box)) ≡ true →
      IsSourceAt all (get_or inputs i 0) ⊎ IsNeededBefore (front ++ own) j (get_or inputs i 0, tile))
  of_last asked step before first earlier j n operation inputs i tile past own_at is less met =
      let last = length before in
      let ts = tiles_of_any (asked_of asked last) in
      let box = (get_or shapes last no_shape).box in
      let more = asked ++ asked_by meanings shapes step box ts in
      let front = needed meanings shapes more before in
      let own = needed_of last step ts in
      let made = tile_needed last step ts n own_at in
      let t = made.0 in
      let place : last ≡ n.0 = sym (ap (λ (n : Needed). n.0) made.1) in
      let here : slice_get all last ≡ Some (Apply operation inputs) = ap (λ k. slice_get all k) place ∙ is in
      let same : Apply operation inputs ≡ step = same_Some (Apply operation inputs) step (sym here ∙ first.0) in
      let part = meanings.required operation (input_boxes shapes inputs) i (meet (tile_square t) box) in
      let asks = subst (λ (s : Step Op). Member (get_or inputs i 0, part) (asked_by meanings shapes s box ts)) same (asked_by-has operation inputs box ts t i made.2 less) in
      let low : get_or inputs i 0 < last = earlier last operation inputs here i 0 less in
      let met_part : meets tile part ≡ true =
      subst (λ (n : Needed). meets tile (meanings.required operation (input_boxes shapes inputs) i (meet (tile_square n.1) (get_or shapes n.0 no_shape).box)) ≡ true) made.1 met in
      elim (covered more before first.1 (get_or inputs i 0) part tile (member-right (get_or inputs i 0, part) asked (asked_by meanings shapes step box ts) asks) low met_part) [
        | inl source ↦ inl source
        | inr there ↦
            let inside = slice_get_within front there.0 (get_or inputs i 0, tile) there.1 in
            inr (there.0, omega (arith, inside, past), get-left front own there.0 (get_or inputs i 0, tile) there.1)
      ]

  pub serves : (asked : List Asked) (steps : List (Step Op)) → AreFirst all steps → AreEarlier → ServesItself meanings shapes all (needed meanings shapes asked steps)
  serves asked [] first earlier = record { served = λ j n operation inputs i tile found. absurd (cc) }
  serves asked (step ∷ before) first earlier =
      let last = length before in
      let ts = tiles_of_any (asked_of asked last) in
      let box = (get_or shapes last no_shape).box in
      let more = asked ++ asked_by meanings shapes step box ts in
      let front = needed meanings shapes more before in
      let own = needed_of last step ts in
      let rest = serves more before first.1 earlier in
      record {
        served = λ j n operation inputs i tile found is less met.
            elim (get-split front own j n found) [
              | inl here ↦ elim (rest.served j n operation inputs i tile here is less met) [
                | inl source ↦ inl source
                | inr sooner ↦ inr (sooner.0, sooner.1, get-left front own sooner.0 (get_or inputs i 0, tile) sooner.2)
              ]
              | inr past ↦ of_last asked step before first earlier j n operation inputs i tile past.0 past.1 is less met
            ];
      }

-- ---- strips

-- the inputs of valid steps stand before them
earlier_among : {Op : Type 0} (meanings : Meanings Op) (buffers : Shapes) (known : List Shape) (steps : List (Step Op)) → AreValidSteps meanings buffers known steps →
    (i : ℕ) (operation : Op) (inputs : List ℕ) → slice_get steps i ≡ Some (Apply operation inputs) → All (λ k. k < length known + i) inputs
earlier_among meanings buffers known [] valid i operation inputs found = absurd (cc)
earlier_among {Op} meanings buffers known (step ∷ steps) valid zero operation inputs found =
    let here = subst (IsValidStep meanings buffers known) (same_Some step (Apply operation inputs) found) valid.0 in
    λ k d less. let low = here.inputs_earlier k d less in omega (arith, low)
earlier_among meanings buffers known (step ∷ steps) valid (suc i) operation inputs found =
    let shape = step_shape meanings buffers known step ∷ [] in
    let rest = earlier_among meanings buffers (known ++ shape) steps valid.1 i operation inputs found in
    let count : length (known ++ shape) + i ≡ length known + suc i = omega (arith, length-append known shape) in
    λ k d less. let low = rest k d less in omega (arith, low, count)

strips_serve : {Op : Type 0} (meanings : Meanings Op) (facts : List (NodeFact Op)) (node : ℕ) (rectangles : List Rectangle) → AreEarlier meanings (stated_shapes facts) (steps_of (specs_of facts)) →
    AllByRecursion (λ (strip : Strip). ServesItself meanings (stated_shapes facts) (steps_of (specs_of facts)) strip.need) (map (strip_of meanings facts node) rectangles)
strips_serve meanings facts node [] earlier = tt
strips_serve meanings facts node (rectangle ∷ rectangles) earlier =
    let shapes = stated_shapes facts in
    let steps = steps_of (specs_of facts) in (
      serves meanings shapes steps ((node, meet rectangle (get_or shapes node no_shape).box) ∷ []) (reverse (take (suc node) steps)) (first_steps steps (suc node)) earlier,
      strips_serve meanings facts node rectangles earlier,
    )

pub need_serves : {Op : Type 0} (meanings : Meanings Op) (buffers : Shapes) (facts : List (NodeFact Op)) (node : ℕ) (request : Rectangle) → AreStated meanings buffers facts →
    AllByRecursion (λ (strip : Strip). ServesItself meanings (stated_shapes facts) (steps_of (specs_of facts)) strip.need) (need meanings facts node request)
need_serves meanings buffers facts node request are =
    strips_serve meanings facts node (strip_rectangles request)
    (λ i operation inputs found.
    let all = earlier_among meanings buffers [] (steps_of (specs_of facts)) are.valid.steps i operation inputs found in
    λ k d less. let low = all k d less in omega (arith, low))

-- a tile that meets a rectangle is among its tiles, by its position
contains_at : {X : Type 0} (xs : List X) (k : ℕ) (x : X) → slice_get xs k ≡ Some x → Contains xs x
contains_at xs k x found =
    (k, slice_get_within xs k x found, get_or_from_slice_get xs k x x found)

pub tiles_contain : (r : Rectangle) (t : Tile) → meets t r ≡ true → Contains (tiles r) t
tiles_contain r t met = let at = tiles_have r t met in contains_at (tiles r) at.0 t at.1
