-- Over known images, the tile that an operation gives is the tile of its node's image.
use Rattle.std.proofs.Common.{◌≡◌, ℕ, ◌<◌, List, [], ◌∷◌, length, get_or, map, Some, refl, sym, ap, ◌∙◌, subst, arith}
use Rattle.std.specs.Prelude.{Contains, option_map, slice_get}
use Rattle.std.proofs.lemmas.List.{get_or-map, length-map}
use Rattle.std.proofs.lemmas.Option.{get_or_from_slice_get, same_Some, slice_get-get_or, slice_get-map, slice_get_within}
use Rattle.std.proofs.lemmas.Map.Views.{Contains-from_lookup}
use Rattle.plane_rect.specs.Rectangle.{Includes, Inside, Rectangle, meet}
use Rattle.plane_rect.specs.SameTile.{same_tile-true}
use Rattle.plane_rect.specs.Tile.{Tile, tile_square}
use Rattle.plane_rect.proofs.Rectangles.{Inside-meet}
use Rattle.model_images.specs.Image.{Image, at}
use Rattle.model_images.specs.Paint.{cut, no_image}
use Rattle.model_images.specs.Raw.{tile_bytes}
use Rattle.model_images.proofs.Agreeing.{at-cut}
use Rattle.model_images.proofs.Laws.{at_outside}
use Rattle.model_images.proofs.Positions.{by_positions}
use Rattle.model_images.proofs.RawLaws.{raw-over}
use Rattle.model_graphs.specs.declared.node.Body.{Body}
use Rattle.model_graphs.specs.declared.node.Body.TheVariants.{Source, Compute}
use Rattle.model_graphs.specs.declared.node.NodeFact.{NodeFact}
use Rattle.model_graphs.specs.Evaluation.{Buffers}
use Rattle.model_graphs.specs.Facts.{AreImagesOf, Facts, shapes_of_facts, specs_of, stated_shape, stated_shapes}
use Rattle.model_graphs.specs.Laws.{IsLocal}
use Rattle.model_graphs.specs.Meanings.{Meanings, boxes_of, result_box, result_of}
use Rattle.model_graphs.specs.Node.{Node, index_of}
use Rattle.model_graphs.specs.Shapes.{Shape, Shapes, no_shape, shape_of_image, shapes_of_images}
use Rattle.model_graphs.specs.Windows.{AreWindowsOf, IsWindowOf, Window}
use Rattle.model_states.specs.State.{Scene, body_image, image_of, node_images, node_of}
use Rattle.model_states.specs.Valid.{AreStated, AreValid, input_boxes, node_names, shapes_of}
use Rattle.model_states.proofs.Indices.{index_of_name}
use Rattle.model_states.proofs.Stated.{scene_shape-is}
use Rattle.model_states.proofs.Unrolled.{image_by_body}
use Rattle.op_contracts.specs.Applying.{result_of_windows}
use Rattle.op_contracts.proofs.Applied.{its-result}
use Rattle.roi_planner.specs.Inputs.{Inputs, inputs_of}
use Rattle.node_tiles.specs.Held.{HeldTiles}
use Rattle.node_tiles.specs.Inputs.{AreInputWindows, IsInputTile, IsInputWindow, required_of}
use Rattle.node_tiles.specs.Stated.{AreTilesOf, HaveLengths, bytes_at, scene_of}
use Rattle.node_tiles.proofs.Places.{shape-at, spec-at}
use Rattle.node_tiles.proofs.Whole.{numbered, window-whole}
use Rattle.node_tiles.proofs.Applied.{own-box, own-suits}

-- the tile of what an image has of it
pub tile-of_part : (image : Image) (tile : Tile) (box : Rectangle) → box ≡ image.box → tile_bytes (cut image (meet (tile_square tile) box)) tile ≡ tile_bytes image tile
tile-of_part image tile box is =
    let part = meet (tile_square tile) box in
    raw-over (cut image part) image (tile_square tile) refl
    (λ u v c there. by_positions (at (cut image part) u v c ≡ at image u v c) u v box
    (λ inside. at-cut image part u v c ((Inside-meet u v (tile_square tile) box).1 (there, inside)))
    (λ out.
    at_outside (cut image part) u v c (λ inside. out ((Inside-meet u v (tile_square tile) box).0 inside).1)
    ∙ sym (at_outside image u v c (λ inside. out (subst (λ (r : Rectangle). Inside u v r) (sym is) inside)))))

module _ {Op : Type 0} (meanings : Meanings Op) (facts : Facts) (nodes : List (NodeFact Op)) (stated : AreStated meanings (shapes_of_facts facts) nodes)
    (images : Buffers) (shown : AreImagesOf facts images) where
  abbrev scene : Scene Op
  scene = scene_of nodes images

  valid : AreValid meanings (shapes_of_images images) (specs_of nodes)
  valid = subst (λ (shapes : Shapes). AreValid meanings shapes (specs_of nodes)) (sym shown) stated.valid

  -- the stated shape of a node is that of its image
  pub shape-image : (name : List ℕ) → get_or (stated_shapes nodes) (index_of (specs_of nodes) name) no_shape ≡ shape_of_image (image_of meanings scene name)
  shape-image name =
      ap (λ (shapes : List Shape). get_or shapes (index_of (specs_of nodes) name) no_shape)
      (stated.shapes ∙ ap (λ (shapes : Shapes). shapes_of meanings shapes (specs_of nodes)) (sym shown))
      ∙ scene_shape-is meanings scene name

  -- the bytes at a position are those of its node's image
  pub bytes-named : (n : ℕ) (fact : NodeFact Op) (tile : Tile) → slice_get nodes n ≡ Some fact → bytes_at meanings nodes images n tile ≡ tile_bytes (image_of meanings scene fact.spec.name) tile
  bytes-named n fact tile found =
      let name : Node Op → List ℕ = λ node. node.name in
      let named : get_or (node_names (specs_of nodes)) n [] ≡ fact.spec.name =
      get_or_from_slice_get (node_names (specs_of nodes)) n fact.spec.name [] (slice_get-map name (specs_of nodes) n ∙ ap (option_map name) (spec-at nodes n fact found)) in
      ap (λ (q : List ℕ). tile_bytes (image_of meanings scene q) tile) named

  pub own-index : (n : ℕ) (fact : NodeFact Op) → slice_get nodes n ≡ Some fact → index_of (specs_of nodes) fact.spec.name ≡ n
  own-index n fact found = index_of_name (specs_of nodes) n fact.spec stated.valid.distinct (spec-at nodes n fact found)

  -- nodes of one position have one image
  same-image : (a b : List ℕ) → index_of (specs_of nodes) a ≡ index_of (specs_of nodes) b → image_of meanings scene a ≡ image_of meanings scene b
  same-image a b same = ap (λ (n : ℕ). get_or (node_images meanings scene) n no_image) same

  boxes-images : (names : List (List ℕ)) → boxes_of (map (image_of meanings scene) names) ≡ input_boxes (stated_shapes nodes) (map (index_of (specs_of nodes)) names)
  boxes-images [] = refl
  boxes-images (name ∷ names) =
      ap (λ (s : Shape). s.box ∷ boxes_of (map (image_of meanings scene) names)) (sym (shape-image name))
      ∙ ap (λ (boxes : List Rectangle). (get_or (stated_shapes nodes) (index_of (specs_of nodes) name) no_shape).box ∷ boxes) (boxes-images names)

  module _ (held : HeldTiles) (tiles_are : AreTilesOf meanings nodes images held) where
    -- a tile of an input is one of its image
    pub input-shown : (n : ℕ) (fact : NodeFact Op) (name : List ℕ) (tile : Tile) (bytes : List ℕ) → n ≡ index_of (specs_of nodes) name → slice_get nodes n ≡ Some fact
        → (body : Body Op) → fact.spec.body ≡ body → IsInputTile facts (Some images) held body n tile bytes → bytes ≡ tile_bytes (image_of meanings scene name) tile
    input-shown n fact name tile bytes index found (Source buffer) is input =
        let own : node_of (specs_of nodes) name ≡ Some fact.spec = ap (λ (k : ℕ). slice_get (specs_of nodes) k) (sym index) ∙ spec-at nodes n fact found in
        input.0
        ∙ ap (λ (image : Image). tile_bytes image tile)
        (sym (image_by_body meanings images (specs_of nodes) name fact.spec valid own ∙ ap (body_image meanings scene) is))
    input-shown n fact name tile bytes index found (Compute operation names) is input =
        tiles_are.each n tile bytes input
        ∙ bytes-named n fact tile found
        ∙ ap (λ (image : Image). tile_bytes image tile) (same-image fact.spec.name name (own-index n fact found ∙ index))

    window-shown : (n : ℕ) (fact : NodeFact Op) (name : List ℕ) (need : Rectangle) (window : Window) → n ≡ index_of (specs_of nodes) name → slice_get nodes n ≡ Some fact
        → IsInputWindow facts (Some images) held fact n need window → IsWindowOf (image_of meanings scene name) window
    window-shown n fact name need window index found is =
        let shape : stated_shape fact ≡ shape_of_image (image_of meanings scene name) =
        sym (shape-at nodes n fact found) ∙ ap (λ (k : ℕ). get_or (stated_shapes nodes) k no_shape) index ∙ shape-image name in
        record {
          format = is.format ∙ ap (λ (s : Shape). s.format) shape;
          bounds = is.bounds ∙ ap (λ (s : Shape). s.box) shape;
          tiles = λ tile bytes e.
              let there : Contains window.tiles (tile, bytes) = Contains-from_lookup same_tile-true tile bytes window.tiles e in
              let input = is.each there.0 (tile, bytes) there.1 in
              input-shown n fact name tile bytes index found fact.spec.body refl
              (subst (λ (entry : Tile × List ℕ). IsInputTile facts (Some images) held fact.spec.body n entry.0 entry.1) there.2 input);
        }

    module _ (lengths : HaveLengths nodes held) (node : ℕ) (fact : NodeFact Op) (operation : Op) (names : List (List ℕ)) (found : slice_get nodes node ≡ Some fact)
        (body : fact.spec.body ≡ Compute operation names) (local : IsLocal meanings) (tile : Tile) (windows : List Window)
        (are : AreInputWindows meanings facts (Some images) held nodes operation (inputs_of nodes (Compute operation names)) (meet (tile_square tile) fact.bounds) windows) where
      abbrev inputs : Inputs
      inputs = inputs_of nodes (Compute operation names)

      abbrev part : Rectangle
      part = meet (tile_square tile) fact.bounds

      abbrev shown_inputs : List Image
      shown_inputs = map (image_of meanings scene) names

      windows-shown : AreWindowsOf meanings operation shown_inputs windows part
      windows-shown = record {
        count = are.count ∙ length-map names (index_of (specs_of nodes)) ∙ sym (length-map names (image_of meanings scene));
        each = λ i image window e f.
            let below : i < length names = omega (arith, slice_get_within shown_inputs i image e, length-map names (image_of meanings scene)) in
            let name = get_or names i [] in
            let its : image_of meanings scene name ≡ image =
            same_Some (image_of meanings scene name) image
            (sym (slice_get-map (image_of meanings scene) names i ∙ ap (option_map (image_of meanings scene)) (slice_get-get_or names i [] below)) ∙ e) in
            let index : get_or inputs.positions i 0 ≡ index_of (specs_of nodes) name = get_or-map (index_of (specs_of nodes)) names i [] 0 below in
            let number = numbered meanings facts nodes stated held lengths (Some images) operation inputs part windows fact
            (own-suits meanings facts nodes stated node fact operation names found body).among refl are i window f in (
              subst (λ (shown : Image). IsWindowOf shown window) its
                  (window-shown (get_or inputs.positions i 0) number.fact name (required_of meanings operation inputs part i) window index number.found number.is),
              window-whole meanings facts nodes stated held lengths (Some images) (get_or inputs.positions i 0) number.fact (required_of meanings operation inputs part i) window number.found number.is,
              λ u v there.
                  subst (λ (r : Rectangle). Inside u v r) (sym number.is.need_is)
                  (subst (λ (boxes : List Rectangle). Inside u v (meanings.required operation boxes i part)) (boxes-images names) there),
            );
      }

      pub given-bytes : tile_bytes (cut (result_of_windows meanings operation windows) part) tile ≡ bytes_at meanings nodes images node tile
      given-bytes =
          let image = image_of meanings scene fact.spec.name in
          let own : node_of (specs_of nodes) fact.spec.name ≡ Some fact.spec =
          ap (λ (k : ℕ). slice_get (specs_of nodes) k) (own-index node fact found) ∙ spec-at nodes node fact found in
          let result : image ≡ result_of meanings operation shown_inputs =
          image_by_body meanings images (specs_of nodes) fact.spec.name fact.spec valid own ∙ ap (body_image meanings scene) body in
          let box : fact.bounds ≡ image.box =
          ap (λ (s : Shape). s.box)
          (sym (shape-at nodes node fact found) ∙ ap (λ (k : ℕ). get_or (stated_shapes nodes) k no_shape) (sym (own-index node fact found)) ∙ shape-image fact.spec.name) in
          let inside : Includes (result_box meanings operation (boxes_of shown_inputs)) part = λ u v there.
          subst (λ (r : Rectangle). Inside u v r)
          (sym (ap (result_box meanings operation) (boxes-images names) ∙ own-box meanings facts nodes stated node fact operation names found body))
          ((Inside-meet u v (tile_square tile) fact.bounds).0 there).1 in
          ap (λ (shown : Image). tile_bytes shown tile) (its-result meanings operation shown_inputs windows part windows-shown local inside)
          ∙ ap (λ (shown : Image). tile_bytes (cut shown part) tile) (sym result)
          ∙ tile-of_part image tile fact.bounds box
          ∙ sym (bytes-named node fact tile found)
