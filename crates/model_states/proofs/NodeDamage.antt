-- Outside its damage each node's image stands.
use Rattle.std.proofs.Common.{◌≡◌, ℕ, suc, ◌+◌, ◌<◌, ◌≤◌, Bool, true, false, cond, List, [], ◌∷◌, ◌++◌, map, length, get_or, inl, inr, refl, sym, ap, ◌∙◌, subst, arith, Some, None, Option, IsSome}
use Rattle.std.specs.Prelude.{All, option_map, slice_get}
use Rattle.std.specs.List.{enumerate_from}
use Rattle.std.proofs.lemmas.Bool.{cases_lt}
use Rattle.std.proofs.lemmas.List.{length-append, get_or_append_left, get_or_at, get_or_default, get_or_past, get_or-map, length-map}
use Rattle.std.proofs.lemmas.Option.{slice_get_within}
use Rattle.plane_rect.specs.Rectangle.{Rectangle, Includes, Inside, empty, hull, meet}
use Rattle.plane_rect.proofs.RectangleLaws.{Includes-hull_left}
use Rattle.model_images.specs.Image.{Image, at}
use Rattle.model_images.specs.Agreement.{AgreeOutside}
use Rattle.model_images.specs.Paint.{no_image}
use Rattle.model_images.proofs.Laws.{at_outside}
use Rattle.model_graphs.specs.Node.{Node, index_of, step_of}
use Rattle.model_graphs.specs.declared.node.Body.{Body}
use Rattle.model_graphs.specs.declared.node.Body.TheVariants.{Source, Compute}
use Rattle.model_graphs.specs.Evaluation.{Buffers, buffer_image}
use Rattle.model_graphs.specs.Meanings.{Meanings, result_of, boxes_of, formats_of}
use Rattle.model_states.specs.Valid.{steps_of}
use Rattle.model_graphs.specs.Shapes.{Shape, shape_in, shape_of_image}
use Rattle.model_states.specs.State.{Scene, body_image, image_of, node_of, node_images}
use Rattle.model_graphs.specs.declared.buffer.BufferFact.{BufferFact}
use Rattle.model_graphs.specs.Facts.{Facts, fact_of, root_of, shape_of_fact, shapes_of_facts, specs_of}
use Rattle.model_states.specs.Rectangles.{rectangle_of}
use Rattle.model_states.specs.Regions.{hull_of}
use Rattle.model_states.specs.Neighbors.{IsChange, SamplesAgreeOutside, scene_of_side}
use Rattle.model_states.specs.Damage.{Change, side_shape, inputs_of, is_unedited, known_damage, damage_passed_on, new_shape, damage_of_node, damages_after, damages, damage}
use Rattle.model_graphs.specs.Laws.{KeepsLaws, Distinguishes}
use Rattle.model_states.proofs.Agreeing.{agree-meet, agree-boxes}
use Rattle.model_states.proofs.DamageLaws.{buffers_agree, compute_agree}
use Rattle.model_states.proofs.Kept.{KeptFrom, SameShapes, kept-from_test}
use Rattle.model_states.proofs.Indices.{found_name, source_there, inputs_before}
use Rattle.model_states.proofs.PrefixLaws.{length-images_after}
use Rattle.model_states.proofs.Shapes.{shape_in-facts}
use Rattle.model_states.proofs.Stated.{side_shape-is, side_valid}
use Rattle.model_states.proofs.Unrolled.{image_by_body, indices_of}

-- a node that is not there has the image of no position
pub image_past : {Op : Type 0} (meanings : Meanings Op) (scene : Scene Op) (name : List ℕ) → length scene.nodes ≤ index_of scene.nodes name → image_of meanings scene name ≡ no_image
image_past {Op} meanings scene name past =
    get_or_past (node_images meanings scene) (index_of scene.nodes name) no_image
    (omega (arith, past, length-images_after (result_of meanings) scene.table [] (steps_of scene.nodes), length-map scene.nodes (λ (node : Node Op). step_of scene.nodes node.body)))

-- a buffer whose shape is there
pub buffer_there : (facts : Facts) (name : List ℕ) → IsSome (shape_in (shapes_of_facts facts) name) → IsSome (fact_of facts name)
buffer_there facts name there = of (fact_of facts name) (subst (λ o. IsSome o) (shape_in-facts facts name) there)
  where
    of : (o : Option BufferFact) → IsSome (option_map shape_of_fact o) → IsSome o
    of None none = absurd (cc)
    of (Some fact) some = refl

nowhere : (u v : ℕ) → ¬ Inside u v empty
nowhere u v there = omega (arith, there.column)

-- as many damages as nodes of the new state
length-damages_after : {Op : Type 0} (same : Op → Op → Bool) (meanings : Meanings Op) (change : Change Op) (known : List Rectangle) (rest : List (Node Op)) →
    length (damages_after same meanings change known rest) ≡ length known + length rest
length-damages_after same meanings change known [] = omega arith
length-damages_after same meanings change known (node ∷ rest) =
    let r = damage_of_node same meanings change known node in
    length-damages_after same meanings change (known ++ r ∷ []) rest ∙ omega (arith, length-append known (r ∷ []))

pub length-damages : {Op : Type 0} (same : Op → Op → Bool) (meanings : Meanings Op) (change : Change Op) → length (damages same meanings change) ≡ length (specs_of change.new.nodes)
length-damages same meanings change = length-damages_after same meanings change [] (specs_of change.new.nodes) ∙ omega arith

module _ {Op : Type 0} (same : Op → Op → Bool) (meanings : Meanings Op) (change : Change Op)
    (old new : Buffers) (laws : KeepsLaws meanings) (apart : Distinguishes same) (valid : IsChange meanings change old new) where
  abbrev old_image : List ℕ → Image
  old_image = image_of meanings (scene_of_side change.old old)

  abbrev new_image : List ℕ → Image
  new_image = image_of meanings (scene_of_side change.new new)

  -- the shape of a name in both states
  old_shape : (name : List ℕ) → side_shape change.old name ≡ shape_of_image (old_image name)
  old_shape = side_shape-is meanings change.old old valid.stated.old valid.old_images

  new_shape-is : (name : List ℕ) → side_shape change.new name ≡ shape_of_image (new_image name)
  new_shape-is = side_shape-is meanings change.new new valid.stated.new valid.new_images

  -- what is claimed of a name and its damage
  pub record Unchanged (name : List ℕ) (r : Rectangle) : Type 0 where
    pub samples : SamplesAgreeOutside (old_image name) (new_image name) r
    pub kept : (node : Node Op) → node_of (specs_of change.new.nodes) name ≡ Some node → is_unedited same change node (node_of (specs_of change.old.nodes) name) ≡ true →
        AgreeOutside (old_image name) (new_image name) r
    pub changed : ((node : Node Op) → node_of (specs_of change.new.nodes) name ≡ Some node → is_unedited same change node (node_of (specs_of change.old.nodes) name) ≡ true → ⊥) →
        Includes r (side_shape change.old name).box

  -- the nodes whose damage is known stand
  abbrev pub AreStanding : List Rectangle → Type 0
  AreStanding known =
      (name : List ℕ) → index_of (specs_of change.new.nodes) name < length known → Unchanged name (known_damage change known name)

  -- ---- the inputs of a kept node

  boxes_same : (names : List (List ℕ)) → SameShapes change names → boxes_of (map old_image names) ≡ boxes_of (map new_image names)
  boxes_same [] shapes = refl
  boxes_same (name ∷ names) shapes =
      let first : (old_image name).box ≡ (new_image name).box =
      ap (λ (s : Shape). s.box) (sym (old_shape name) ∙ shapes.0 ∙ new_shape-is name) in
      ap (λ box. box ∷ boxes_of (map old_image names)) first
      ∙ ap (λ boxes. (new_image name).box ∷ boxes) (boxes_same names shapes.1)

  formats_same : (names : List (List ℕ)) → SameShapes change names → formats_of (map old_image names) ≡ formats_of (map new_image names)
  formats_same [] shapes = refl
  formats_same (name ∷ names) shapes =
      let first : (old_image name).format ≡ (new_image name).format =
      ap (λ (s : Shape). s.format) (sym (old_shape name) ∙ shapes.0 ∙ new_shape-is name) in
      ap (λ format. format ∷ formats_of (map old_image names)) first
      ∙ ap (λ formats. (new_image name).format ∷ formats) (formats_same names shapes.1)

  new_boxes-is : (names : List (List ℕ)) → map (λ name. (side_shape change.new name).box) names ≡ boxes_of (map new_image names)
  new_boxes-is [] = refl
  new_boxes-is (name ∷ names) =
      ap (λ (s : Shape). s.box ∷ map (λ name. (side_shape change.new name).box) names) (new_shape-is name)
      ∙ ap (λ boxes. (new_image name).box ∷ boxes) (new_boxes-is names)

  -- ---- a kept node

  -- a body that is in both states, of which the inputs are known, in a box
  body_agree : (known : List Rectangle) (node before : Node Op) (body : Body Op) (box : Rectangle) → AreStanding known →
      node_of (specs_of change.new.nodes) node.name ≡ Some node → node_of (specs_of change.old.nodes) node.name ≡ Some before →
      index_of (specs_of change.new.nodes) node.name ≡ length known →
      before.body ≡ body → node.body ≡ body → SameShapes change (inputs_of body) →
      box ≡ (body_image meanings (scene_of_side change.new new) body).box →
      AgreeOutside (body_image meanings (scene_of_side change.old old) body) (body_image meanings (scene_of_side change.new new) body) (damage_passed_on meanings change known box body)
  body_agree known node before (Source buffer) box standing found was index is_old is_new shapes is_box =
      let x = buffer_image old buffer in
      let y = buffer_image new buffer in
      let r = rectangle_of change.rectangles (root_of change.new.buffers buffer) in
      let agreed = buffers_agree change.old.buffers change.new.buffers old new change.rectangles buffer valid.images
      (buffer_there change.old.buffers buffer (source_there meanings (shapes_of_facts change.old.buffers) (specs_of change.old.nodes) node.name before buffer valid.stated.old.valid was is_old))
      (buffer_there change.new.buffers buffer (source_there meanings (shapes_of_facts change.new.buffers) (specs_of change.new.nodes) node.name node buffer valid.stated.new.valid found is_new)) in
      subst (λ box. AgreeOutside x y (meet r box)) (sym is_box) (agree-meet x y r agreed)
  body_agree known node before (Compute operation inputs) box standing found was index is_old is_new shapes is_box =
      let earlier = inputs_before meanings (shapes_of_facts change.new.buffers) (specs_of change.new.nodes) node.name node operation inputs valid.stated.new.valid found is_new in
      subst (λ boxes. AgreeOutside (result_of meanings operation (map old_image inputs)) (result_of meanings operation (map new_image inputs))
      (hull_of (map (λ (input : ℕ × List ℕ). meanings.invalidated operation boxes input.0 (known_damage change known input.1)) (enumerate_from 0 inputs)))) (sym (new_boxes-is inputs))
      (compute_agree meanings operation inputs old_image new_image (known_damage change known) laws (boxes_same inputs shapes) (formats_same inputs shapes)
      (λ i less. (standing (get_or inputs i []) (input_known i less earlier)).samples))
    where
      input_known : (i : ℕ) → i < length inputs → All (λ i. i < index_of (specs_of change.new.nodes) node.name) (indices_of (specs_of change.new.nodes) inputs) →
          index_of (specs_of change.new.nodes) (get_or inputs i []) < length known
      input_known i less earlier =
          let there = earlier i 0 (omega (arith, length-map inputs (index_of (specs_of change.new.nodes)))) in
          let is = get_or-map (index_of (specs_of change.new.nodes)) inputs i [] 0 less in
          omega (arith, there, is, index)

  kept_agree : (known : List Rectangle) (node : Node Op) (box : Rectangle) → AreStanding known →
      node_of (specs_of change.new.nodes) node.name ≡ Some node → index_of (specs_of change.new.nodes) node.name ≡ length known →
      KeptFrom change node (node_of (specs_of change.old.nodes) node.name) → box ≡ (new_image node.name).box →
      AgreeOutside (old_image node.name) (new_image node.name) (damage_passed_on meanings change known box node.body)
  kept_agree known node box standing found index kept is_box =
      let r = damage_passed_on meanings change known box node.body in
      let was = image_by_body meanings old (specs_of change.old.nodes) node.name kept.old (side_valid meanings change.old old valid.stated.old valid.old_images) kept.found_is in
      let is = image_by_body meanings new (specs_of change.new.nodes) node.name node (side_valid meanings change.new new valid.stated.new valid.new_images) found in
      let before : old_image node.name ≡ body_image meanings (scene_of_side change.old old) node.body = was ∙ ap (body_image meanings (scene_of_side change.old old)) kept.body in
      let agreed = body_agree known node kept.old node.body box standing found kept.found_is index kept.body refl kept.shapes
      (is_box ∙ ap (λ (image : Image). image.box) is) in
      subst (λ a. AgreeOutside a (new_image node.name) r) (sym before)
      (subst (λ b. AgreeOutside (body_image meanings (scene_of_side change.old old) node.body) b r) (sym is) agreed)

  -- ---- a node

  node_unchanged : (known : List Rectangle) (node : Node Op) → AreStanding known →
      node_of (specs_of change.new.nodes) node.name ≡ Some node → index_of (specs_of change.new.nodes) node.name ≡ length known →
      Unchanged node.name (damage_of_node same meanings change known node)
  node_unchanged known node standing found index =
      by (is_unedited same change node (node_of (specs_of change.old.nodes) node.name)) refl
    where
      box : Rectangle
      box = (new_shape change (length known)).box

      was : Rectangle
      was = (side_shape change.old node.name).box

      box-is : box ≡ (new_image node.name).box
      box-is =
          ap (λ i. (new_shape change i).box) (sym index)
          ∙ ap (λ (s : Shape). s.box) (new_shape-is node.name)

      was-is : was ≡ (old_image node.name).box
      was-is = ap (λ (s : Shape). s.box) (old_shape node.name)

      same_node : (other : Node Op) → node_of (specs_of change.new.nodes) node.name ≡ Some other → node ≡ other
      same_node other e = cc (found, e)

      outside : SamplesAgreeOutside (old_image node.name) (new_image node.name) (hull was box)
      outside =
          subst (λ r. SamplesAgreeOutside (old_image node.name) (new_image node.name) (hull r box)) (sym was-is)
          (subst (λ r. SamplesAgreeOutside (old_image node.name) (new_image node.name) (hull (old_image node.name).box r)) (sym box-is)
          (agree-boxes (old_image node.name) (new_image node.name)))

      by : (kept : Bool) → is_unedited same change node (node_of (specs_of change.old.nodes) node.name) ≡ kept →
          Unchanged node.name (cond kept (damage_passed_on meanings change known box node.body) (hull was box))
      by true e =
          let agreed = kept_agree known node box standing found index
          (kept-from_test same change node (node_of (specs_of change.old.nodes) node.name) apart e) box-is in
          record { samples = agreed.samples; kept = λ other there test. agreed; changed = λ never. absurd (never node found e) }
      by false e =
          record {
            samples = outside;
            kept = λ other there test.
                absurd (let is = same_node other there in
                cc (e, test, ap (λ (n : Node Op). is_unedited same change n (node_of (specs_of change.old.nodes) node.name)) is));
            changed = λ never. Includes-hull_left was box;
          }

  -- ---- all nodes

  one_more : (known : List Rectangle) (node : Node Op) → AreStanding known → slice_get (specs_of change.new.nodes) (length known) ≡ Some node →
      AreStanding (known ++ damage_of_node same meanings change known node ∷ [])
  one_more known node standing here name less =
      let i = index_of (specs_of change.new.nodes) name in
      let r = damage_of_node same meanings change known node in
      elim (cases_lt i (length known)) [
        | inl before ↦
            subst (Unchanged name) (sym (get_or_append_left known (r ∷ []) empty i before)) (standing name before)
        | inr after ↦
            let index : i ≡ length known = omega (arith, length-append known (r ∷ [])) in
            let found : node_of (specs_of change.new.nodes) name ≡ Some node = ap (λ n. slice_get (specs_of change.new.nodes) n) index ∙ here in
            let named = found_name (specs_of change.new.nodes) name node found in
            let is : known_damage change (known ++ r ∷ []) name ≡ r = get_or_at known r [] empty i (sym index) in
            subst (Unchanged name) (sym is)
            (subst (λ n. Unchanged n r) named
            (node_unchanged known node standing
            (ap (node_of (specs_of change.new.nodes)) named ∙ found)
            (ap (index_of (specs_of change.new.nodes)) named ∙ index)))
      ]

  all_unchanged : (known : List Rectangle) (rest : List (Node Op)) → AreStanding known →
      ((i : ℕ) → slice_get (specs_of change.new.nodes) (length known + i) ≡ slice_get rest i) → AreStanding (damages_after same meanings change known rest)
  all_unchanged known [] standing after = standing
  all_unchanged known (node ∷ rest) standing after =
      let r = damage_of_node same meanings change known node in
      let start : length known ≡ length known + 0 = omega arith in
      let here : slice_get (specs_of change.new.nodes) (length known) ≡ Some node = ap (λ i. slice_get (specs_of change.new.nodes) i) start ∙ after 0 in
      all_unchanged (known ++ r ∷ []) rest (one_more known node standing here)
      (λ i.
      let next : length (known ++ r ∷ []) + i ≡ length known + suc i = omega (arith, length-append known (r ∷ [])) in
      ap (λ n. slice_get (specs_of change.new.nodes) n) next ∙ after (suc i))

  pub unchanged : (name : List ℕ) → Unchanged name (damage same meanings change name)
  unchanged name =
      let nodes = (specs_of change.new.nodes) in
      let i = index_of nodes name in
      let rs = damages same meanings change in
      let count : length rs ≡ length nodes = length-damages same meanings change in
      elim (cases_lt i (length nodes)) [
        | inl inside ↦
            let less : i < length rs = omega (arith, count) in
            let start : (k : ℕ) → slice_get nodes (0 + k) ≡ slice_get nodes k = λ k. ap (λ n. slice_get nodes n) (let e : 0 + k ≡ k = omega arith in e) in
            subst (Unchanged name) (get_or_default rs i empty (side_shape change.old name).box less)
            (all_unchanged [] nodes (λ other none. absurd (omega arith)) start name less)
        | inr past ↦
            let gone = get_or_past rs i (side_shape change.old name).box (omega (arith, count)) in
            subst (Unchanged name) (sym gone) (gone_unchanged name past)
      ]
    where
      gone_unchanged : (name : List ℕ) → length (specs_of change.new.nodes) ≤ index_of (specs_of change.new.nodes) name → Unchanged name (side_shape change.old name).box
      gone_unchanged name past =
          let box : (side_shape change.old name).box ≡ (old_image name).box = ap (λ (s : Shape). s.box) (old_shape name) in
          record {
            samples = λ u v c out.
                at_outside (old_image name) u v c (λ inside. out (subst (λ (box : Rectangle). Inside u v box) (sym box) inside))
                ∙ sym (ap (λ (image : Image). at image u v c) (image_past meanings (scene_of_side change.new new) name past) ∙ at_outside no_image u v c (nowhere u v));
            kept = λ node found test. absurd (let inside = slice_get_within (specs_of change.new.nodes) (index_of (specs_of change.new.nodes) name) node found in omega (arith, inside, past));
            changed = λ never u v inside. inside;
          }
