-- Cached tiles of a scene that are left at the next one that a viewer shows.
use Rattle.std.proofs.Common.{◌≡◌, ℕ, ◌+◌, ◌*◌, ◌≤◌, ◌⊎◌, inl, inr, ⊎_elim, Bool, true, false, cond, List, [], ◌∷◌, map, refl, sym, ap, subst, ◌∙◌, arith, slice_index_or}
use Rattle.std.specs.Prelude.{nat_le}
use Rattle.std.specs.List.{AllByRecursion}
use Rattle.std.proofs.lemmas.Bool.Decides.{nat_tests}
use Rattle.std.proofs.Math.Logic.{∥∥₁_elim}
use Rattle.std.proofs.Props.{props}
use Rattle.pixel_formats.specs.Format.{pixel_bytes}
use Rattle.pixel_formats.specs.declared.format.Format.{Format}
use Rattle.frozen_images.specs.Scenes.{NamedTiles, facts_in, images_in}
use Rattle.model_graphs.specs.declared.node.Body.{Body}
use Rattle.model_graphs.specs.declared.node.Body.TheVariants.{Source, Compute}
use Rattle.model_graphs.specs.Facts.{AreImagesOf, shapes_of_facts, shape_of_fact, specs_of, stated_shapes}
use Rattle.model_graphs.specs.Meanings.{Meanings}
use Rattle.model_graphs.specs.Node.{Node, index_of}
use Rattle.model_graphs.specs.Shapes.{Shape, Shapes}
use Rattle.model_states.specs.Cache.{AreRight, Cached, IsComputed, IsPairOf, IsRight, Pair, all_voided, by_pair}
use Rattle.model_states.specs.Damage.{Side}
use Rattle.model_states.specs.State.{image_of, node_shapes}
use Rattle.model_states.specs.Valid.{AreStated}
use Rattle.model_states.proofs.Stated.{side_shape-is, side_shapes}
use Rattle.model_scenes.specs.Follows.{Follows, entries_after, left_at, most_damages}
use Rattle.model_scenes.proofs.Stay.{IsApart, all-left, left-each, stay-right, stays-kept, stays-pair}
use Rattle.node_cache.specs.Stores.{Sized, by_sized}
use Rattle.node_tiles.specs.Stated.{length_at, shape_at}
use Rattle.strip_renders.specs.Strips.{AreSizedPairs, IsSizedPair}
use Rattle.render_workers.specs.Scenes.{SceneOf}
use Rattle.scene_viewers.specs.HubScenes.{MayFollow, WhollyFollows, damages_of, shown_scene, state_of}

shapes-shown : (buffers : List NamedTiles) → AreImagesOf (facts_in buffers) (images_in buffers)
shapes-shown [] = refl
shapes-shown (buffer ∷ buffers) =
    ap (λ (shapes : Shapes). (buffer.fact.name, shape_of_fact buffer.fact) ∷ shapes) (shapes-shown buffers)

-- the nodes of a scene are valid over its buffers
abbrev pub IsStatedScene : {Op : Type 0} → Meanings Op → SceneOf Op → Type 0
IsStatedScene meanings scene = AreStated meanings (shapes_of_facts (facts_in scene.buffers)) scene.nodes

module _ {Op : Type 0} (meanings : Meanings Op) where
  stated-shown : (scene : SceneOf Op) → IsStatedScene meanings scene → stated_shapes scene.nodes ≡ node_shapes meanings (state_of scene)
  stated-shown scene stated =
      side_shapes meanings (record { buffers = facts_in scene.buffers; nodes = scene.nodes }) (images_in scene.buffers) stated (shapes-shown scene.buffers)

  format-shown : (scene : SceneOf Op) → IsStatedScene meanings scene → (name : List ℕ)
      → (shape_at scene.nodes (index_of (specs_of scene.nodes) name)).format ≡ (image_of meanings (state_of scene) name).format
  format-shown scene stated name =
      ap (λ (s : Shape). s.format) (side_shape-is meanings (record { buffers = facts_in scene.buffers; nodes = scene.nodes }) (images_in scene.buffers) stated (shapes-shown scene.buffers) name)

  stays-sized : (known : Bool) (x y : SceneOf Op) → IsStatedScene meanings x → IsStatedScene meanings y → Follows meanings known (shown_scene x) (shown_scene y)
      → y.number ≤ x.number + most_damages → (sized : Sized) → IsApart x.number (damages_of y) sized.pair → IsSizedPair x.nodes sized → IsSizedPair y.nodes sized
  stays-sized known x y sx sy follows near sized apart is =
      let name = sized.pair.node in
      let was : IsPairOf (specs_of x.nodes) (node_shapes meanings (state_of x)) sized.pair = subst (λ (shapes : List Shape). IsPairOf (specs_of x.nodes) shapes sized.pair) (stated-shown x sx) is.of_nodes in
      let kept = stays-kept meanings known (shown_scene x) (shown_scene y) follows near sized.pair apart was in
      let now = stays-pair meanings known (shown_scene x) (shown_scene y) follows near sized.pair apart was in
      record {
        of_nodes = subst (λ (shapes : List Shape). IsPairOf (specs_of y.nodes) shapes sized.pair) (sym (stated-shown y sy)) now;
        length = is.length ∙ ap (λ (f : Format). 4096 * pixel_bytes f) (format-shown x sx name ∙ (kept.format ∙ sym (format-shown y sy name)));
      }

  -- pairs with their lengths that are left at the next scene are its
  sized-followed : (x y : SceneOf Op) → IsStatedScene meanings x → IsStatedScene meanings y → MayFollow meanings x y
      → (sizes : List Sized) → AreSizedPairs x.nodes sizes → AreSizedPairs y.nodes (left_at by_sized x.number y.number (damages_of y) sizes)
  sized-followed x y sx sy follows sizes all = by (nat_le y.number (x.number + most_damages)) refl
    where
      by : (b : Bool) → nat_le y.number (x.number + most_damages) ≡ b → AllByRecursion (IsSizedPair y.nodes) (cond b (all_voided by_sized sizes (entries_after x.number (damages_of y))) [])
      by true is = left-each by_sized (IsSizedPair x.nodes) (IsSizedPair y.nodes) x.number (damages_of y)
          (λ sized apart of. stays-sized false x y sx sy follows (grind (arith, nat_tests, is)) sized apart of) sizes all
      by false is = tt

  computed-prop : (b : Body Op) → IsProp (IsComputed b)
  computed-prop (Source b) = hlevel props
  computed-prop (Compute f xs) = hlevel props

  pub sized-prop : (scene : SceneOf Op) (sizes : List Sized) → IsProp (AreSizedPairs scene.nodes sizes)
  sized-prop scene sizes = hlevel (props, computed-prop)

  -- of what was there some is left
  some-left : {X : Type 0} (key : X → Pair) (P : X → Type 0) (x y : ℕ) (scene : SceneOf Op) (list : List X) → AllByRecursion P list → AllByRecursion P (left_at key x y (damages_of scene) list)
  some-left {X} key P x y scene list all = by (nat_le y (x + most_damages))
    where
      by : (b : Bool) → AllByRecursion P (cond b (all_voided key list (entries_after x (damages_of scene))) [])
      by true = all-left key P (entries_after x (damages_of scene)) list all
      by false = tt

  pub sized-left : (x y : SceneOf Op) → IsStatedScene meanings x → IsStatedScene meanings y → (x ≡ y) ⊎ ∥ MayFollow meanings x y ∥₁
      → (sizes : List Sized) → AreSizedPairs x.nodes sizes → AreSizedPairs y.nodes (left_at by_sized x.number y.number (damages_of y) sizes)
  sized-left x y sx sy either sizes all =
      ⊎_elim (λ (same : x ≡ y). some-left by_sized (IsSizedPair y.nodes) x.number y.number y sizes (subst (λ (s : SceneOf Op). AreSizedPairs s.nodes sizes) same all))
      (λ (follows : ∥ MayFollow meanings x y ∥₁). ∥∥₁_elim follows (sized-prop y (left_at by_sized x.number y.number (damages_of y) sizes)) (λ f. sized-followed x y sx sy f sizes all))
      either

  right-followed : (x y : SceneOf Op) → WhollyFollows meanings x y → (list : List Cached) → AreRight meanings (state_of x) list
      → AreRight meanings (state_of y) (left_at by_pair x.number y.number (damages_of y) list)
  right-followed x y follows list right = by (nat_le y.number (x.number + most_damages)) refl
    where
      by : (b : Bool) → nat_le y.number (x.number + most_damages) ≡ b → AreRight meanings (state_of y) (cond b (all_voided by_pair list (entries_after x.number (damages_of y))) [])
      by true is = stay-right meanings (shown_scene x) (shown_scene y) follows (grind (arith, nat_tests, is)) list right
      by false is = tt

  pub right-left : (x y : SceneOf Op) → (x ≡ y) ⊎ WhollyFollows meanings x y → (list : List Cached) → AreRight meanings (state_of x) list
      → AreRight meanings (state_of y) (left_at by_pair x.number y.number (damages_of y) list)
  right-left x y either list right =
      ⊎_elim (λ (same : x ≡ y). some-left by_pair (IsRight meanings (state_of y)) x.number y.number y list (subst (λ (s : SceneOf Op). AreRight meanings (state_of s) list) same right))
      (λ (follows : WhollyFollows meanings x y). right-followed x y follows list right)
      either
