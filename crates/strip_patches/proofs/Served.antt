-- What is there of the tiles of a node, and what they are.
use Rattle.std.proofs.Common.{◌≡◌, ℕ, zero, suc, ◌<◌, ◌⊎◌, inl, inr, List, [], ◌∷◌, length, get_or, Some, refl, sym, ap, subst, ◌∙◌, arith}
use Rattle.std.specs.Prelude.{IsSome, option_map, slice_get}
use Rattle.std.proofs.lemmas.Option.{get_or_from_slice_get, slice_get-map}
use Rattle.plane_rect.specs.Rectangle.{Rectangle, meet}
use Rattle.plane_rect.specs.Tile.{Meets, Tile}
use Rattle.model_images.specs.Raw.{tile_bytes}
use Rattle.model_graphs.specs.declared.node.Body.{Body}
use Rattle.model_graphs.specs.declared.node.Body.TheVariants.{Source, Compute}
use Rattle.model_graphs.specs.declared.node.NodeFact.{NodeFact}
use Rattle.model_graphs.specs.Evaluation.{Buffers}
use Rattle.model_graphs.specs.Facts.{AreImagesOf, Facts, shapes_of_facts, specs_of, stated_shapes}
use Rattle.model_graphs.specs.Meanings.{Meanings}
use Rattle.model_graphs.specs.Node.{FromBuffer, Node, index_of, step_of}
use Rattle.model_graphs.specs.Shapes.{Shape, no_shape, shape_of_image}
use Rattle.model_states.specs.Serving.{IsSourceAt}
use Rattle.model_states.specs.Valid.{AreStated, node_names, steps_of}
use Rattle.node_tiles.specs.Held.{HeldTiles, held_bytes}
use Rattle.node_tiles.specs.Inputs.{IsInputTile, IsThere}
use Rattle.node_tiles.specs.Stated.{AreTilesOf, shape_at}
use Rattle.node_tiles.proofs.Places.{buffer-known, shape-at, spec-at, step-at}
use Rattle.node_tiles.proofs.Scenes.{input-shown, own-index, shape-image}
use Rattle.strip_patches.specs.Nodes.{HoldsPart, image_at, name_at}

-- the member at a position of a list
pub member-at : {X : Type 0} (xs : List X) (n : ℕ) → n < length xs → (x : X) × (slice_get xs n ≡ Some x)
member-at [] n below = absurd (omega (arith, below))
member-at (x ∷ xs) zero below = (x, refl)
member-at (x ∷ xs) (suc n) below = member-at xs n (omega (arith, below))

module _ {Op : Type 0} (meanings : Meanings Op) (facts : Facts) (nodes : List (NodeFact Op)) (stated : AreStated meanings (shapes_of_facts facts) nodes)
    (node : ℕ) (fact : NodeFact Op) (found : slice_get nodes node ≡ Some fact) where
  there-of : (held : HeldTiles) (tile : Tile) → IsSourceAt (steps_of (specs_of nodes)) node ⊎ IsSome (held_bytes held node tile)
      → (body : Body Op) → fact.spec.body ≡ body → IsThere facts held body node tile
  there-of held tile either (Source buffer) is = buffer-known meanings facts nodes stated node fact buffer found is
  there-of held tile (inr some) (Compute operation names) is = some
  there-of held tile (inl source) (Compute operation names) is =
      let own : slice_get (steps_of (specs_of nodes)) node ≡ Some (step_of (specs_of nodes) (Compute operation names)) =
      step-at nodes node fact found ∙ ap (λ (body : Body Op). Some (step_of (specs_of nodes) body)) is in
      let other : slice_get (steps_of (specs_of nodes)) node ≡ Some (FromBuffer source.0) = source.1 in
      absurd (cc (own, other))

  -- a tile that meets a part of the node's box is there
  pub part-there : (held : HeldTiles) (rect : Rectangle) (tile : Tile) → HoldsPart nodes held node rect → Meets tile (meet rect fact.bounds)
      → IsThere facts held fact.spec.body node tile
  part-there held rect tile part met =
      there-of held tile
      (part.each tile (subst (λ (s : Shape). Meets tile (meet rect s.box)) (sym (shape-at nodes node fact found)) met))
      fact.spec.body refl

  -- the name at its position is the node's
  named : name_at nodes node ≡ fact.spec.name
  named =
      let name : Node Op → List ℕ = λ node. node.name in
      get_or_from_slice_get (node_names (specs_of nodes)) node fact.spec.name [] (slice_get-map name (specs_of nodes) node ∙ ap (option_map name) (spec-at nodes node fact found))

  module _ (images : Buffers) (shown : AreImagesOf facts images) where
    index-named : node ≡ index_of (specs_of nodes) (name_at nodes node)
    index-named =
        sym (ap (λ (q : List ℕ). index_of (specs_of nodes) q) named ∙ own-index meanings facts nodes stated images shown node fact found)

    -- the stated shape is that of the image
    pub shape-shown : shape_at nodes node ≡ shape_of_image (image_at meanings nodes images node)
    shape-shown =
        ap (λ (k : ℕ). get_or (stated_shapes nodes) k no_shape) index-named
        ∙ shape-image meanings facts nodes stated images shown (name_at nodes node)

    pub box-shown : fact.bounds ≡ (image_at meanings nodes images node).box
    box-shown = ap (λ (s : Shape). s.box) (sym (shape-at nodes node fact found) ∙ shape-shown)

    pub format-shown : fact.format ≡ (image_at meanings nodes images node).format
    format-shown = ap (λ (s : Shape). s.format) (sym (shape-at nodes node fact found) ∙ shape-shown)

    -- a tile of the node is one of its image
    pub tile-shown : (held : HeldTiles) → AreTilesOf meanings nodes images held → (tile : Tile) (bytes : List ℕ)
        → IsInputTile facts (Some images) held fact.spec.body node tile bytes → bytes ≡ tile_bytes (image_at meanings nodes images node) tile
    tile-shown held are tile bytes input =
        input-shown meanings facts nodes stated images shown held are node fact (name_at nodes node) tile bytes index-named found fact.spec.body refl input
