-- What an operation is applied to for a tile, and what it gives.
use Rattle.std.proofs.Common.{◌≡◌, ℕ, ◌*◌, List, [], ◌∷◌, length, Option, Some, IsSome, refl, sym, ap, ◌∙◌, subst}
use Rattle.std.specs.Prelude.{slice_get}
use Rattle.std.proofs.lemmas.Option.{get_or_from_slice_get, slice_get_within}
use Rattle.plane_rect.specs.Rectangle.{Inside, Rectangle, meet}
use Rattle.plane_rect.specs.Tile.{Tile, tile_square}
use Rattle.plane_rect.proofs.Rectangles.{Inside-meet}
use Rattle.pixel_formats.specs.Format.{pixel_bytes}
use Rattle.pixel_formats.specs.declared.format.Format.{Format}
use Rattle.model_images.specs.Paint.{cut}
use Rattle.model_images.specs.Raw.{tile_bytes}
use Rattle.model_images.proofs.ByteLaws.{length-tile_bytes}
use Rattle.model_graphs.specs.declared.node.Body.{Body}
use Rattle.model_graphs.specs.declared.node.Body.TheVariants.{Compute}
use Rattle.model_graphs.specs.declared.node.NodeFact.{NodeFact}
use Rattle.model_graphs.specs.Evaluation.{Buffers}
use Rattle.model_graphs.specs.Facts.{Facts, shapes_of_facts, specs_of, stated_shapes}
use Rattle.model_graphs.specs.Meanings.{Meanings, formats_of, result_box, result_format}
use Rattle.model_graphs.specs.Node.{step_of}
use Rattle.model_graphs.specs.Shapes.{Shape}
use Rattle.model_graphs.specs.Windows.{Window}
use Rattle.model_states.specs.Valid.{AreStated, input_formats}
use Rattle.model_states.proofs.Suited.{IsSuited}
use Rattle.op_contracts.specs.Applying.{result_of_windows, window_bounds, window_formats, window_images}
use Rattle.roi_planner.specs.Inputs.{Inputs, SuitsBody, SuitsInputs, inputs_of}
use Rattle.roi_planner.proofs.StatedLaws.{suits-body}
use Rattle.node_tiles.specs.Held.{HeldTiles}
use Rattle.node_tiles.specs.Inputs.{AreInputWindows}
use Rattle.node_tiles.specs.Jobs.{IsApplicable}
use Rattle.node_tiles.specs.Stated.{HaveLengths, length_at, part_at}
use Rattle.node_tiles.proofs.Places.{shape-at, suited}
use Rattle.node_tiles.proofs.Whole.{windows-bounds, windows-formats, windows-required, windows-whole}

formats-shown : (windows : List Window) → formats_of (window_images windows) ≡ window_formats windows
formats-shown [] = refl
formats-shown (window ∷ windows) = ap (λ (formats : List Format). window.format ∷ formats) (formats-shown windows)

module _ {Op : Type 0} (meanings : Meanings Op) (facts : Facts) (nodes : List (NodeFact Op)) (stated : AreStated meanings (shapes_of_facts facts) nodes)
    (node : ℕ) (fact : NodeFact Op) (operation : Op) (names : List (List ℕ)) (found : slice_get nodes node ≡ Some fact) (body : fact.spec.body ≡ Compute operation names) where
  -- the inputs of the node
  abbrev pub own : Inputs
  own = inputs_of nodes (Compute operation names)

  fits : IsSuited meanings (shapes_of_facts facts) (stated_shapes nodes) node (step_of (specs_of nodes) (Compute operation names))
  fits = subst (λ (b : Body Op). IsSuited meanings (shapes_of_facts facts) (stated_shapes nodes) node (step_of (specs_of nodes) b)) body (suited meanings facts nodes stated node fact found)

  pub own-suits : SuitsInputs meanings operation own (length nodes)
  own-suits =
      subst (λ (b : Body Op). SuitsBody meanings b (inputs_of nodes b) (length nodes)) body
      (suits-body meanings nodes node fact (shapes_of_facts facts, stated) (slice_get_within nodes node fact found)
      (sym (get_or_from_slice_get nodes node fact fact found)))

  pub own-box : result_box meanings operation own.boxes ≡ fact.bounds
  own-box = ap (λ (s : Shape). s.box) (sym fits.shape ∙ shape-at nodes node fact found)

  own-format : result_format meanings operation (input_formats (stated_shapes nodes) own.positions) ≡ fact.format
  own-format = ap (λ (s : Shape). s.format) (sym fits.shape ∙ shape-at nodes node fact found)

  pub own-part : (tile : Tile) → meet (tile_square tile) fact.bounds ≡ part_at nodes node tile
  own-part tile = ap (λ (s : Shape). meet (tile_square tile) s.box) (sym (shape-at nodes node fact found))

  module _ (held : HeldTiles) (lengths : HaveLengths nodes held) (images : Option Buffers) (tile : Tile) (windows : List Window)
      (are : AreInputWindows meanings facts images held nodes operation own (meet (tile_square tile) fact.bounds) windows) where
    abbrev pub part : Rectangle
    part = meet (tile_square tile) fact.bounds

    pub own-bounds : window_bounds windows ≡ own.boxes
    own-bounds = windows-bounds meanings facts nodes stated held lengths images operation own part windows fact own-suits.among refl are

    pub own-formats : window_formats windows ≡ input_formats (stated_shapes nodes) own.positions
    own-formats = windows-formats meanings facts nodes stated held lengths images operation own part windows fact own-suits.among refl are

    pub applicable : IsApplicable meanings operation own.boxes windows part
    applicable = record {
      inputs = are.count ∙ own-suits.arity;
      boxes_are = sym own-bounds;
      format = subst (λ (fs : List Format). IsSome (meanings.format operation fs)) (sym own-formats) fits.valid.format;
      bounds = own-suits.bounds;
      inside = λ u v there. subst (λ (r : Rectangle). Inside u v r) (sym own-box) ((Inside-meet u v (tile_square tile) fact.bounds).0 there).1;
      tile = (tile, λ u v there. ((Inside-meet u v (tile_square tile) fact.bounds).0 there).0);
      whole = windows-whole meanings facts nodes stated held lengths images operation own part windows fact own-suits.among refl are;
      required = windows-required meanings facts nodes stated held lengths images operation own part windows fact own-suits.among refl are;
    }

    pub given-length : length (tile_bytes (cut (result_of_windows meanings operation windows) part) tile) ≡ length_at nodes node
    given-length =
        length-tile_bytes (cut (result_of_windows meanings operation windows) part) tile
        ∙ ap (λ (fs : List Format). 4096 * pixel_bytes (result_format meanings operation fs)) (formats-shown windows ∙ own-formats)
        ∙ ap (λ (f : Format). 4096 * pixel_bytes f) own-format
        ∙ ap (λ (s : Shape). 4096 * pixel_bytes s.format) (sym (shape-at nodes node fact found))

  -- ---- the same of inputs, windows and a part that are known to be those of the node

  module _ (held : HeldTiles) (lengths : HaveLengths nodes held) (images : Option Buffers) (tile : Tile) (given : Inputs) (boxes : List Rectangle) (all windows : List Window) (part : Rectangle)
      (its : given ≡ own) (known : boxes ≡ given.boxes) (same : all ≡ windows) (of : part ≡ meet (tile_square tile) fact.bounds)
      (are : AreInputWindows meanings facts images held nodes operation given part windows) where
    pub canonical : AreInputWindows meanings facts images held nodes operation own (meet (tile_square tile) fact.bounds) windows
    canonical =
        subst (λ (r : Rectangle). AreInputWindows meanings facts images held nodes operation own r windows) of
        (subst (λ (i : Inputs). AreInputWindows meanings facts images held nodes operation i part windows) its are)

    pub applicable-to : IsApplicable meanings operation boxes all part
    applicable-to =
        let boxes_are : own.boxes ≡ boxes = sym (known ∙ ap (λ (i : Inputs). i.boxes) its) in
        subst (λ (bs : List Rectangle). IsApplicable meanings operation bs all part) boxes_are
        (subst (λ (ws : List Window). IsApplicable meanings operation own.boxes ws part) (sym same)
        (subst (λ (r : Rectangle). IsApplicable meanings operation own.boxes windows r) (sym of)
        (applicable held lengths images tile windows canonical)))

    pub length-given : (bytes : List ℕ) → bytes ≡ tile_bytes (cut (result_of_windows meanings operation all) part) tile → length bytes ≡ length_at nodes node
    length-given bytes are_bytes =
        ap length are_bytes
        ∙ ap (λ (ws : List Window). length (tile_bytes (cut (result_of_windows meanings operation ws) part) tile)) same
        ∙ ap (λ (r : Rectangle). length (tile_bytes (cut (result_of_windows meanings operation windows) r) tile)) of
        ∙ given-length held lengths images tile windows canonical
