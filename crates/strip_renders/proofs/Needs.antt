-- What is known of the need of a strip of a request.
use Rattle.std.proofs.Common.{◌≡◌, ℕ, zero, suc, ◌+◌, ◌-◌, ◌<◌, ◌≤◌, ◌⊎◌, List, [], ◌∷◌, ◌++◌, All, map, reverse, take, drop, length, get_or, flat_map, Some, inl, inr, refl, sym, ap, ◌∙◌, subst, arith, tests}
use Rattle.std.specs.Prelude.{nat_lt, slice_get}
use Rattle.std.specs.List.{AllByRecursion, IsDistinct}
use Rattle.std.specs.Str.{bytes_eq}
use Rattle.std.proofs.lemmas.Bool.{cases_Bool}
use Rattle.std.proofs.lemmas.List.{length-append}
use Rattle.std.proofs.lemmas.List.Elements.{All-contains, All-from_recursion}
use Rattle.std.proofs.lemmas.Option.{same_Some}
use Rattle.plane_rect.specs.Rectangle.{Rectangle, meet}
use Rattle.plane_rect.specs.Tile.{Tile, strip_rectangles}
use Rattle.model_graphs.specs.declared.node.NodeFact.{NodeFact}
use Rattle.model_graphs.specs.Facts.{specs_of, stated_shapes}
use Rattle.model_graphs.specs.Laws.{IsBoxed}
use Rattle.model_graphs.specs.Meanings.{Meanings}
use Rattle.model_graphs.specs.Node.{Apply, FromBuffer, Step}
use Rattle.model_graphs.specs.Shapes.{Shape, Shapes, no_shape}
use Rattle.model_states.specs.Cache.{IsPairOf, pair_of, same_pair}
use Rattle.model_states.specs.declared.strip.Strip.{Strip}
use Rattle.model_states.specs.Need.{Asked, Needed, asked_by, asked_of, need, needed, needed_of, strip_of}
use Rattle.model_states.specs.Regions.{tiles_of_any}
use Rattle.model_states.specs.Serving.{ServesItself}
use Rattle.model_states.specs.Valid.{AreStated, AreValidSteps, IsValidStep, node_names, step_shape, steps_of}
use Rattle.model_states.proofs.NeededRight.{AreFirst, first_steps, need_pairs}
use Rattle.model_states.proofs.NeedLaws.{need_distinct}
use Rattle.model_states.proofs.Serves.{need_serves}
use Rattle.node_tiles.specs.Held.{HeldTiles}
use Rattle.node_tiles.specs.Stated.{IsReady}
use Rattle.strip_renders.specs.Ahead.{AreReady}
use Rattle.strip_renders.specs.Batches.{AreOfOneNode}
use Rattle.strip_renders.specs.Strips.{HoldsNeed, IsStripOf}

-- ---- lists

pub get-here : {X : Type 0} (P : X → Type 0) (xs : List X) (k : ℕ) (x : X) → AllByRecursion P xs → slice_get xs k ≡ Some x → P x
get-here P [] k x all found = absurd (cc found)
get-here P (first ∷ xs) zero x all found = subst P (same_Some first x found) all.0
get-here P (first ∷ xs) (suc k) x all found = get-here P xs k x all.1 found

get-before : {X : Type 0} (xs : List X) (n k : ℕ) (x : X) → k < n → slice_get xs k ≡ Some x → slice_get (take n xs) k ≡ Some x
get-before xs zero k x less found = absurd (omega (arith, less))
get-before [] (suc n) k x less found = absurd (cc found)
get-before (first ∷ xs) (suc n) zero x less found = found
get-before (first ∷ xs) (suc n) (suc k) x less found = get-before xs n k x (omega (arith, less)) found

pub all-both : {X : Type 0} (P : X → Type 0) (xs ys : List X) → AllByRecursion P xs → AllByRecursion P ys → AllByRecursion P (xs ++ ys)
all-both P [] ys p q = q
all-both P (x ∷ xs) ys p q = (p.0, all-both P xs ys p.1 q)

all-parts : {X Y : Type 0} (P : Y → Type 0) (f : X → Y) (xs ys : List X) → AllByRecursion P (map f (xs ++ ys)) → AllByRecursion (λ x. P (f x)) xs × AllByRecursion P (map f ys)
all-parts P f [] ys all = (tt, all)
all-parts P f (x ∷ xs) ys all = let rest = all-parts P f xs ys all.1 in ((all.0, rest.0), rest.1)

pub below-or-at : (k n : ℕ) → k < n + 1 → (k < n) ⊎ (k ≡ n)
below-or-at zero zero less = inr refl
below-or-at zero (suc n) less = inl (omega arith)
below-or-at (suc k) zero less = absurd (omega (arith, less))
below-or-at (suc k) (suc n) less = elim (below-or-at k n (omega (arith, less))) [ inl low ↦ inl (omega (arith, low)) | inr same ↦ inr (ap suc same) ]

all-front : {X : Type 0} (P : X → Type 0) (count : ℕ) (xs : List X) → ((k : ℕ) (x : X) → k < count → slice_get xs k ≡ Some x → P x) → AllByRecursion P (take count xs)
all-front P zero xs each = tt
all-front P (suc count) [] each = tt
all-front P (suc count) (x ∷ xs) each = (each 0 x (omega arith) refl, all-front P count xs (λ k y less found. each (suc k) y (omega (arith, less)) found))

-- what holds of each from an index to another
all-between : {X : Type 0} (P : X → Type 0) (index count : ℕ) (xs : List X) → ((k : ℕ) (x : X) → index ≤ k → k < index + count → slice_get xs k ≡ Some x → P x)
    → AllByRecursion P (take count (drop index xs))
all-between P zero count xs each = all-front P count xs (λ k x less found. each k x (omega arith) (omega (arith, less)) found)
all-between P (suc index) count [] each = all-front P count [] (λ k x less found. absurd (cc found))
all-between P (suc index) count (x ∷ xs) each = all-between P index count xs (λ k y low less found. each (suc k) y (omega (arith, low)) (omega (arith, less)) found)

-- the inputs of valid steps stand before them
earlier : {Op : Type 0} (meanings : Meanings Op) (buffers : Shapes) (known : List Shape) (steps : List (Step Op)) → AreValidSteps meanings buffers known steps
    → (i : ℕ) (operation : Op) (inputs : List ℕ) → slice_get steps i ≡ Some (Apply operation inputs) → All (λ k. k < length known + i) inputs
earlier meanings buffers known [] valid i operation inputs found = absurd (cc found)
earlier meanings buffers known (step ∷ steps) valid zero operation inputs found =
    let here = subst (IsValidStep meanings buffers known) (same_Some step (Apply operation inputs) found) valid.0 in
    λ k d less. let low = here.inputs_earlier k d less in omega (arith, low)
earlier meanings buffers known (step ∷ steps) valid (suc i) operation inputs found =
    let shape = step_shape meanings buffers known step ∷ [] in
    let rest = earlier meanings buffers (known ++ shape) steps valid.1 i operation inputs found in
    let count : length (known ++ shape) + i ≡ length known + suc i = omega (arith, length-append known shape) in
    subst (λ n. All (λ k. k < n) inputs) count rest

-- ---- strips

module _ {Op : Type 0} (meanings : Meanings Op) (nodes : List (NodeFact Op)) where
  abbrev steps : List (Step Op)
  steps = steps_of (specs_of nodes)

  abbrev shapes : List Shape
  shapes = stated_shapes nodes

  -- a needed tile is one of an operation
  abbrev IsApplied : Needed → Type 0
  IsApplied n = (operation : Op) × (inputs : List ℕ) × (slice_get steps n.0 ≡ Some (Apply operation inputs))

  own-applied : (node : ℕ) (step : Step Op) (tiles : List Tile) → slice_get steps node ≡ Some step → AllByRecursion IsApplied (needed_of node step tiles)
  own-applied node (FromBuffer buffer) tiles here = tt
  own-applied node (Apply operation inputs) [] here = tt
  own-applied node (Apply operation inputs) (t ∷ tiles) here = ((operation, inputs, here), own-applied node (Apply operation inputs) tiles here)

  needed-applied : (asked : List Asked) (before : List (Step Op)) → AreFirst steps before → AllByRecursion IsApplied (needed meanings shapes asked before)
  needed-applied asked [] first = tt
  needed-applied asked (step ∷ before) first =
      let node = length before in
      let box = (get_or shapes node no_shape).box in
      let tiles = tiles_of_any (asked_of asked node) in
      let more = asked ++ asked_by meanings shapes step box tiles in
      all-both IsApplied (needed meanings shapes more before) (needed_of node step tiles)
      (needed-applied more before first.1) (own-applied node step tiles first.0)

  strips-applied : (node : ℕ) (rectangles : List Rectangle) → AllByRecursion (λ (strip : Strip). AllByRecursion IsApplied strip.need) (map (strip_of meanings nodes node) rectangles)
  strips-applied node [] = tt
  strips-applied node (rectangle ∷ rectangles) = (
    needed-applied ((node, meet rectangle (get_or shapes node no_shape).box) ∷ []) (reverse (take (suc node) steps)) (first_steps steps (suc node)),
    strips-applied node rectangles,
  )

  abbrev IsNodePair : Needed → Type 0
  IsNodePair n = IsPairOf (specs_of nodes) shapes (pair_of (specs_of nodes) n)

  strips-pairs : (strips : List Strip) → AllByRecursion (IsPairOf (specs_of nodes) shapes) (map (pair_of (specs_of nodes)) (flat_map (λ (strip : Strip). strip.need) strips))
      → AllByRecursion (λ (strip : Strip). AllByRecursion IsNodePair strip.need) strips
  strips-pairs [] all = tt
  strips-pairs (strip ∷ strips) all =
      let both = all-parts (IsPairOf (specs_of nodes) shapes) (pair_of (specs_of nodes)) strip.need (flat_map (λ (strip : Strip). strip.need) strips) all in
      (both.0, strips-pairs strips both.1)

  -- what holds of each strip of each request holds of a strip
  of-strip : (P : Strip → Type 0) (strip : Strip) → ((node : ℕ) (request : Rectangle) → AllByRecursion P (need meanings nodes node request)) → IsStripOf meanings nodes strip → P strip
  of-strip P strip each is =
      let strips = need meanings nodes is.0 is.1 in
      All-contains P strips strip (All-from_recursion P strips (each is.0 is.1)) is.2

  -- a needed tile may be evaluated where those before it are held, but for others of its node
  ready-from : (buffers : Shapes) (strip : Strip) → AreStated meanings buffers nodes → IsStripOf meanings nodes strip → (index i : ℕ) (n : Needed) (held : HeldTiles)
      → slice_get strip.need i ≡ Some n → ((k : ℕ) (other : Needed) → index ≤ k → k < i → slice_get strip.need k ≡ Some other → other.0 ≡ n.0)
      → HoldsNeed nodes (take index strip.need) held → IsReady meanings nodes held n.0 n.1
  ready-from buffers strip stated is index i n held found same holds =
      let serves = of-strip (λ (strip : Strip). ServesItself meanings shapes steps strip.need) strip (λ node request. need_serves meanings buffers nodes node request stated) is in
      let applied = get-here IsApplied strip.need i n
      (of-strip (λ (strip : Strip). AllByRecursion IsApplied strip.need) strip (λ node request. strips-applied node (strip_rectangles request)) is) found in
      record {
        operation = applied.0;
        inputs = applied.1;
        step = applied.2;
        served = λ k tile less met.
            elim (serves.served i n applied.0 applied.1 k tile found applied.2 less met) [
              | inl source ↦ inl source
              | inr before ↦
                  let input = get_or applied.1 k 0 in
                  let below : input < 0 + n.0 = (earlier meanings buffers [] steps stated.valid.steps n.0 applied.0 applied.1 applied.2) k 0 less in
                  let low : input < n.0 = omega (arith, below) in
                  elim (cases_Bool (nat_lt before.0 index)) [
                    | inl front ↦ inr (holds.each before.0 (input, tile) (get-before strip.need index before.0 (input, tile) (search (tests, front)) before.2))
                    | inr past ↦
                        let one : input ≡ n.0 = same before.0 (input, tile) (search (tests, past)) before.1 before.2 in
                        absurd (omega (arith, low, one))
                  ]
            ];
      }

  -- so may each of a batch
  pub batch-ready : (buffers : Shapes) (strip : Strip) → AreStated meanings buffers nodes → IsStripOf meanings nodes strip → (index end : ℕ) (held : HeldTiles)
      → AreOfOneNode strip.need index end → HoldsNeed nodes (take index strip.need) held → AreReady meanings nodes held (take (end - index) (drop index strip.need))
  batch-ready buffers strip stated is index end held one holds =
      all-between (λ (n : Needed). IsReady meanings nodes held n.0 n.1) index (end - index) strip.need
      (λ k n low less found.
      let own : n.0 ≡ one.node = one.each k n low (omega (arith, low, less)) found in
      ready-from buffers strip stated is index k n held found
      (λ j other after before here. one.each j other after (omega (arith, after, before, low, less)) here ∙ sym own) holds)

  -- a needed tile may be evaluated where those before it are held
  pub strip-ready : (buffers : Shapes) (strip : Strip) → AreStated meanings buffers nodes → IsStripOf meanings nodes strip → (i : ℕ) (n : Needed) (held : HeldTiles)
      → slice_get strip.need i ≡ Some n → HoldsNeed nodes (take i strip.need) held → IsReady meanings nodes held n.0 n.1
  strip-ready buffers strip stated is i n held found holds =
      ready-from buffers strip stated is i i n held found (λ k other low less here. absurd (omega (arith, low, less))) holds

  -- its pair is one of the nodes'
  pub strip-pair : (strip : Strip) → IsBoxed meanings → IsDistinct bytes_eq (node_names (specs_of nodes)) → IsStripOf meanings nodes strip → (i : ℕ) (n : Needed)
      → slice_get strip.need i ≡ Some n → IsPairOf (specs_of nodes) shapes (pair_of (specs_of nodes) n)
  strip-pair strip boxed distinct is i n found =
      get-here IsNodePair strip.need i n
      (of-strip (λ (strip : Strip). AllByRecursion IsNodePair strip.need) strip
      (λ node request. strips-pairs (need meanings nodes node request) (need_pairs meanings nodes node request boxed distinct)) is) found

  -- no pair is needed twice
  pub strip-distinct : (strip : Strip) → IsDistinct bytes_eq (node_names (specs_of nodes)) → IsStripOf meanings nodes strip
      → IsDistinct same_pair (map (pair_of (specs_of nodes)) strip.need)
  strip-distinct strip distinct is =
      of-strip (λ (strip : Strip). IsDistinct same_pair (map (pair_of (specs_of nodes)) strip.need)) strip (λ node request. need_distinct meanings nodes node request distinct) is
