-- Windows of inputs are what an application of an operation asks for.
use Rattle.std.proofs.Common.{◌≡◌, ℕ, suc, ◌*◌, ◌<◌, true, List, [], ◌∷◌, All, Contains, length, get_or, map, Option, Some, None, inl, inr, refl, sym, ap, ◌∙◌, subst, arith}
use Rattle.std.specs.Prelude.{IfSome, IsSome, option_map, slice_get, unwrap_or}
use Rattle.std.specs.List.{IsDistinct}
use Rattle.std.proofs.lemmas.Option.{slice_get-get_or, slice_get_within}
use Rattle.std.proofs.lemmas.Map.Made.{IsDistinct-from_AllPairs}
use Rattle.std.proofs.lemmas.Map.Views.{IsSome-lookup_from_Contains}
use Rattle.plane_rect.specs.Rectangle.{Inside, Rectangle}
use Rattle.plane_rect.specs.SameTile.{same_tile-laws, same_tile-true}
use Rattle.plane_rect.specs.Tile.{IsBefore, Meets, Tile, same_tile, tiles}
use Rattle.plane_rect.proofs.TileLists.{tiles-in_order}
use Rattle.pixel_formats.specs.Format.{pixel_bytes}
use Rattle.pixel_formats.specs.declared.format.Format.{Format}
use Rattle.model_graphs.specs.declared.buffer.BufferFact.{BufferFact}
use Rattle.model_graphs.specs.declared.node.Body.{Body}
use Rattle.model_graphs.specs.declared.node.Body.TheVariants.{Source, Compute}
use Rattle.model_graphs.specs.declared.node.NodeFact.{NodeFact}
use Rattle.model_graphs.specs.Evaluation.{Buffers}
use Rattle.model_graphs.specs.Facts.{Facts, fact_of, shape_of_fact, shapes_of_facts, specs_of, stated_shape, stated_shapes}
use Rattle.model_graphs.specs.Meanings.{Meanings}
use Rattle.model_graphs.specs.Node.{step_of}
use Rattle.model_graphs.specs.Shapes.{Shape, no_shape}
use Rattle.model_graphs.specs.Windows.{IsWholeWindow, Window}
use Rattle.model_states.specs.Valid.{AreStated, input_boxes, input_formats}
use Rattle.model_states.proofs.Serves.{tiles_contain}
use Rattle.model_states.proofs.Shapes.{shape_in-facts}
use Rattle.model_states.proofs.Suited.{IsSuited}
use Rattle.op_contracts.specs.Applying.{HaveRequired, window_bounds, window_formats}
use Rattle.roi_planner.specs.Inputs.{Inputs}
use Rattle.node_tiles.specs.Held.{HeldTiles}
use Rattle.node_tiles.specs.Inputs.{AreInputWindows, IsInputTile, IsInputWindow, required_of}
use Rattle.node_tiles.specs.Stated.{HaveLengths}
use Rattle.node_tiles.proofs.Places.{buffer-known, meets-true, shape-at, suited}

-- lists that are equal member by member
mapped : {X Y Z : Type 0} (f : X → Z) (g : Y → Z) (xs : List X) (ys : List Y) (d : Y) → length xs ≡ length ys
    → ((i : ℕ) (x : X) → slice_get xs i ≡ Some x → f x ≡ g (get_or ys i d)) → map f xs ≡ map g ys
mapped f g [] [] d count same = refl
mapped f g [] (y ∷ ys) d count same = absurd (omega (arith, count))
mapped f g (x ∷ xs) [] d count same = absurd (omega (arith, count))
mapped {X} {Y} {Z} f g (x ∷ xs) (y ∷ ys) d count same =
    ap (λ (z : Z). z ∷ map f xs) (same 0 x refl) ∙ ap (λ (zs : List Z). g y ∷ zs) (mapped f g xs ys d (omega (arith, count)) (λ i. same (suc i)))

-- tiles of a rectangle are distinct
before-apart : (s t : Tile) → IsBefore s t → s ≡ t → ⊥
before-apart s t (inl above) same = let row = ap (λ (t : Tile). t.row) same in omega (arith, above, row)
before-apart s t (inr left) same = let column = ap (λ (t : Tile). t.column) same in omega (arith, left.1, column)

tiles_distinct : (r : Rectangle) → IsDistinct same_tile (tiles r)
tiles_distinct r =
    IsDistinct-from_AllPairs (λ a b. (same_tile-true a b, λ e. subst (λ (t : Tile). same_tile a t ≡ true) e (same_tile-laws.refl a))) (tiles r)
    (λ i j d before below. before-apart (get_or (tiles r) i d) (get_or (tiles r) j d) (tiles-in_order r i j d before below))

-- the length of a buffer's tile, by the shape of the buffer
buffer-long : (found : Option BufferFact) (shape : Shape) (bytes : List ℕ) → shape ≡ unwrap_or (option_map shape_of_fact found) no_shape → IsSome found
    → IfSome found (λ fact. length bytes ≡ 4096 * pixel_bytes fact.format) → length bytes ≡ 4096 * pixel_bytes shape.format
buffer-long None shape bytes is some long = absurd (cc some)
buffer-long (Some fact) shape bytes is some long = long ∙ ap (λ (s : Shape). 4096 * pixel_bytes s.format) (sym is)

module _ {Op : Type 0} (meanings : Meanings Op) (facts : Facts) (nodes : List (NodeFact Op)) (stated : AreStated meanings (shapes_of_facts facts) nodes) (held : HeldTiles) (lengths : HaveLengths nodes held) where
  -- the bytes of an input's tile are as many as those of a tile of its format
  pub tile-long : (images : Option Buffers) (n : ℕ) (fact : NodeFact Op) (tile : Tile) (bytes : List ℕ) → slice_get nodes n ≡ Some fact → (body : Body Op) → fact.spec.body ≡ body
      → IsInputTile facts images held body n tile bytes → length bytes ≡ 4096 * pixel_bytes fact.format
  tile-long images n fact tile bytes found (Source buffer) is input =
      let fits = subst (λ (body : Body Op). IsSuited meanings (shapes_of_facts facts) (stated_shapes nodes) n (step_of (specs_of nodes) body)) is (suited meanings facts nodes stated n fact found) in
      let shape : stated_shape fact ≡ unwrap_or (option_map shape_of_fact (fact_of facts buffer)) no_shape =
      sym (shape-at nodes n fact found) ∙ fits.shape ∙ ap (λ (o : Option Shape). unwrap_or o no_shape) (shape_in-facts facts buffer) in
      buffer-long (fact_of facts buffer) (stated_shape fact) bytes shape (buffer-known meanings facts nodes stated n fact buffer found is) input.1
  tile-long images n fact tile bytes found (Compute operation names) is input =
      lengths.each n tile bytes input ∙ ap (λ (s : Shape). 4096 * pixel_bytes s.format) (shape-at nodes n fact found)

  -- each window is whole
  pub window-whole : (images : Option Buffers) (n : ℕ) (fact : NodeFact Op) (need : Rectangle) (window : Window) → slice_get nodes n ≡ Some fact
      → IsInputWindow facts images held fact n need window → IsWholeWindow window
  window-whole images n fact need window found is = record {
    complete = λ tile met.
        let here : Meets tile need = subst (λ (r : Rectangle). Meets tile r) is.need_is met in
        IsSome-lookup_from_Contains same_tile-laws tile window.tiles
        (subst (λ (ts : List Tile). Contains ts tile) (sym is.positions) (tiles_contain need tile (meets-true tile need here)));
    distinct = subst (λ (ts : List Tile). IsDistinct same_tile ts) (sym is.positions) (tiles_distinct need);
    lengths = λ k d below.
        let entry = get_or window.tiles k d in
        tile-long images n fact entry.0 entry.1 found fact.spec.body refl (is.each k d below)
        ∙ ap (λ (f : Format). 4096 * pixel_bytes f) (sym is.format);
  }

  module _ (images : Option Buffers) (operation : Op) (inputs : Inputs) (part : Rectangle) (windows : List Window)
      (no_fact : NodeFact Op) (among : All (λ position. position < length nodes) inputs.positions)
      (boxes : inputs.boxes ≡ input_boxes (stated_shapes nodes) inputs.positions)
      (are : AreInputWindows meanings facts images held nodes operation inputs part windows) where
    -- the node of the input of a number
    pub record Numbered (i : ℕ) (window : Window) : Type 0 where
      pub fact : NodeFact Op
      pub found : slice_get nodes (get_or inputs.positions i 0) ≡ Some fact
      pub is : IsInputWindow facts images held fact (get_or inputs.positions i 0) (required_of meanings operation inputs part i) window

    pub numbered : (i : ℕ) (window : Window) → slice_get windows i ≡ Some window → Numbered i window
    numbered i window e =
        let n = get_or inputs.positions i 0 in
        let below : i < length inputs.positions = omega (arith, are.count, slice_get_within windows i window e) in
        let fact = get_or nodes n no_fact in
        let found : slice_get nodes n ≡ Some fact = slice_get-get_or nodes n no_fact (among i 0 below) in
        record { fact = fact; found = found; is = are.each i window e fact found }

    pub windows-bounds : window_bounds windows ≡ inputs.boxes
    windows-bounds =
        mapped (λ (w : Window). w.bounds) (λ (n : ℕ). (get_or (stated_shapes nodes) n no_shape).box) windows inputs.positions 0 are.count
        (λ i window e. let at = numbered i window e in at.is.bounds ∙ ap (λ (s : Shape). s.box) (sym (shape-at nodes (get_or inputs.positions i 0) at.fact at.found)))
        ∙ sym boxes

    pub windows-formats : window_formats windows ≡ input_formats (stated_shapes nodes) inputs.positions
    windows-formats =
        mapped (λ (w : Window). w.format) (λ (n : ℕ). (get_or (stated_shapes nodes) n no_shape).format) windows inputs.positions 0 are.count
        (λ i window e. let at = numbered i window e in at.is.format ∙ ap (λ (s : Shape). s.format) (sym (shape-at nodes (get_or inputs.positions i 0) at.fact at.found)))

    pub windows-whole : All IsWholeWindow windows
    windows-whole k d below =
        let window = get_or windows k d in
        let at = numbered k window (slice_get-get_or windows k d below) in
        window-whole images (get_or inputs.positions k 0) at.fact (required_of meanings operation inputs part k) window at.found at.is

    pub windows-required : HaveRequired meanings operation inputs.boxes windows part
    windows-required i window e u v there =
        let at = numbered i window e in
        subst (λ (r : Rectangle). Inside u v r) (sym at.is.need_is) there
