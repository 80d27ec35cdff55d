-- What a strip holds of the node that is rendered.
use Rattle.std.proofs.Common.{◌≡◌, ℕ, suc, ◌<◌, ◌⊎◌, true, false, ◌||◌, cond, eqb, List, [], ◌∷◌, map, reverse, take, length, get_or, inl, inr, refl, sym, ap, ◌∙◌, subst, arith, Some}
use Rattle.std.specs.Prelude.{IsSome, slice_get}
use Rattle.std.specs.List.{list_any}
use Rattle.std.proofs.Math.Seq.{take-suc}
use Rattle.std.proofs.lemmas.Bool.Decides.{nat_tests}
use Rattle.std.proofs.lemmas.List.{length-map, length-reverse, length-take, reverse-append}
use Rattle.std.proofs.lemmas.Option.{same_Some, slice_get-get_or}
use Rattle.plane_rect.specs.Rectangle.{Rectangle, empty, hull, meet}
use Rattle.plane_rect.specs.Tile.{Meets, Tile, tiles, meets}
use Rattle.plane_rect.proofs.RectangleLaws.{Includes-hull_left}
use Rattle.model_graphs.specs.declared.node.NodeFact.{NodeFact}
use Rattle.model_graphs.specs.Facts.{specs_of, stated_shapes}
use Rattle.model_graphs.specs.Meanings.{Meanings}
use Rattle.model_graphs.specs.Node.{Apply, FromBuffer, Node, Step, step_of}
use Rattle.model_states.specs.Need.{Asked, Needed, asked_of, needed, needed_of, strip_of}
use Rattle.model_states.specs.Regions.{tiles_of_any}
use Rattle.model_states.specs.Serving.{IsSourceAt}
use Rattle.model_states.specs.Valid.{steps_of}
use Rattle.model_states.proofs.Members.{Member, member-filter, member-map, member-right}
use Rattle.model_states.proofs.NeededRight.{meets_whole}
use Rattle.model_states.proofs.Serves.{tiles_have}
use Rattle.node_tiles.specs.Held.{HeldTiles, held_bytes}
use Rattle.node_tiles.specs.Stated.{shape_at}
use Rattle.node_tiles.proofs.Places.{meets-true}
use Rattle.strip_renders.specs.Strips.{HoldsNeed}

-- a tile that meets a rectangle is one of those of it alone
one-has : (r : Rectangle) (t : Tile) → meets t r ≡ true → Member t (tiles_of_any (r ∷ []))
one-has r t met =
    let at = tiles_have (hull r empty) t (meets_whole t (hull r empty) r (Includes-hull_left r empty) met) in
    let passes : (meets t r || false) ≡ true = ap (λ b. b || false) met in
    member-filter (λ t. list_any (meets t) (r ∷ [])) t (tiles (hull r empty)) at.0 at.1 passes

module _ {Op : Type 0} (meanings : Meanings Op) (nodes : List (NodeFact Op)) (node : ℕ) (rect : Rectangle) where
  abbrev steps : List (Step Op)
  steps = steps_of (specs_of nodes)

  abbrev before : List (Step Op)
  before = reverse (take node steps)

  abbrev part : Rectangle
  part = meet rect (shape_at nodes node).box

  abbrev asked : List Asked
  asked = (node, part) ∷ []

  -- what is asked of the node is the part
  own-asked : asked_of asked node ≡ part ∷ []
  own-asked =
      let own : eqb node node ≡ true = grind (arith, nat_tests) in
      ap (λ b. map (λ (a : Asked). a.1) (cond b asked [])) own

  own-needed : (step : Step Op) (operation : Op) (inputs : List ℕ) (tile : Tile) → step ≡ Apply operation inputs → Meets tile part
      → Member (node, tile) (needed_of node step (tiles_of_any (asked_of asked node)))
  own-needed step operation inputs tile is met =
      let at = one-has part tile (meets-true tile part met) in
      let of : Tile → Needed = λ tile. (node, tile) in
      subst (λ (s : Step Op). Member (node, tile) (needed_of node s (tiles_of_any (asked_of asked node)))) (sym is)
      (subst (λ (rs : List Rectangle). Member (node, tile) (map of (tiles_of_any rs))) (sym own-asked)
      (member-map of tile (tiles_of_any (part ∷ [])) at))

  -- the steps up to the node, from it on
  turned : (step : Step Op) → slice_get steps node ≡ Some step → node < length steps → reverse (take (suc node) steps) ≡ step ∷ before
  turned step found inside =
      let last : get_or steps node step ≡ step = same_Some (get_or steps node step) step (sym (slice_get-get_or steps node step inside) ∙ found) in
      ap reverse (take-suc steps node step inside)
      ∙ reverse-append (take node steps) (get_or steps node step ∷ [])
      ∙ ap (λ (s : Step Op). s ∷ before) last

  part-needed : (step : Step Op) (operation : Op) (inputs : List ℕ) (tile : Tile) → slice_get steps node ≡ Some step → node < length steps → step ≡ Apply operation inputs → Meets tile part
      → Member (node, tile) (strip_of meanings nodes node rect).need
  part-needed step operation inputs tile found inside is met =
      let at : length before ≡ node = omega (arith, length-reverse (take node steps), length-take node steps, inside) in
      let there : Member (node, tile) (needed_of (length before) step (tiles_of_any (asked_of asked (length before)))) =
      subst (λ (n : ℕ). Member (node, tile) (needed_of n step (tiles_of_any (asked_of asked n)))) (sym at) (own-needed step operation inputs tile is met) in
      subst (λ (ss : List (Step Op)). Member (node, tile) (needed meanings (stated_shapes nodes) asked ss)) (sym (turned step found inside))
      (member-right (node, tile) _ _ there)

  -- each tile of the part of the node's box is held, or the node is a source
  pub part-held : (held : HeldTiles) (tile : Tile) → node < length nodes → HoldsNeed nodes (strip_of meanings nodes node rect).need held → Meets tile part
      → IsSourceAt steps node ⊎ IsSome (held_bytes held node tile)
  part-held held tile less holds met = by (get_or steps node (FromBuffer [])) refl
    where
      inside : node < length steps
      inside =
          let spec : NodeFact Op → Node Op = λ fact. fact.spec in
          let step : Node Op → Step Op = λ node. step_of (specs_of nodes) node.body in
          omega (arith, less, length-map nodes spec, length-map (specs_of nodes) step)

      by : (step : Step Op) → get_or steps node (FromBuffer []) ≡ step → IsSourceAt steps node ⊎ IsSome (held_bytes held node tile)
      by (FromBuffer buffer) is = inl (buffer, slice_get-get_or steps node (FromBuffer []) inside ∙ ap Some is)
      by (Apply operation inputs) is =
          let at = part-needed (Apply operation inputs) operation inputs tile (slice_get-get_or steps node (FromBuffer []) inside ∙ ap Some is) inside refl met in
          inr (holds.each at.0 (node, tile) at.1)
