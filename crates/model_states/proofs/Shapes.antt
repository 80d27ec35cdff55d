-- The shapes of nodes are those of their images.
use Rattle.std.proofs.Common.{◌≡◌, ℕ, zero, suc, Bool, true, false, cond, List, [], ◌∷◌, ◌++◌, map, get_or, refl, sym, ap, ◌∙◌, Some, None, Option, is_some, unwrap_or}
use Rattle.std.specs.Prelude.{option_map}
use Rattle.std.specs.Map.{lookup}
use Rattle.std.specs.Str.{bytes_eq}
use Rattle.std.proofs.lemmas.List.{map-append}
use Rattle.std.proofs.lemmas.Map.Made.{lookup-map_values}
use Rattle.plane_rect.specs.Rectangle.{Rectangle}
use Rattle.pixel_formats.specs.declared.format.Format.{Format}
use Rattle.model_images.specs.Image.{Image}
use Rattle.model_images.specs.Paint.{no_image}
use Rattle.model_graphs.specs.declared.buffer.BufferFact.{BufferFact}
use Rattle.model_graphs.specs.Evaluation.{Buffers, buffer_image, step_image, images_after}
use Rattle.model_graphs.specs.Facts.{Facts, fact_of, shape_of_fact, shapes_of_facts}
use Rattle.model_graphs.specs.Node.{Node, Step, FromBuffer, Apply}
use Rattle.model_graphs.specs.Shapes.{Shape, Shapes, no_shape, shape_in, shape_of_image, shapes_of_images}
use Rattle.model_graphs.specs.Meanings.{Meanings, result_of, result_box, result_format, boxes_of, formats_of}
use Rattle.model_states.specs.Damage.{IsSteady}
use Rattle.model_states.specs.Samples.{HaveSameBuffers}
use Rattle.model_states.specs.Valid.{input_boxes, input_formats, shapes_of, step_shape, steps_of, shapes_after}

-- ---- of images

get_or-shapes : (known : List Image) (i : ℕ) → get_or (map shape_of_image known) i no_shape ≡ shape_of_image (get_or known i no_image)
get_or-shapes [] i = refl
get_or-shapes (image ∷ known) zero = refl
get_or-shapes (image ∷ known) (suc i) = get_or-shapes known i

input_boxes-is : (known : List Image) (inputs : List ℕ) → input_boxes (map shape_of_image known) inputs ≡ boxes_of (map (λ i. get_or known i no_image) inputs)
input_boxes-is known [] = refl
input_boxes-is known (i ∷ inputs) =
    ap (λ (s : Shape). s.box ∷ input_boxes (map shape_of_image known) inputs) (get_or-shapes known i)
    ∙ ap (λ boxes. (get_or known i no_image).box ∷ boxes) (input_boxes-is known inputs)

input_formats-is : (known : List Image) (inputs : List ℕ) → input_formats (map shape_of_image known) inputs ≡ formats_of (map (λ i. get_or known i no_image) inputs)
input_formats-is known [] = refl
input_formats-is known (i ∷ inputs) =
    ap (λ (s : Shape). s.format ∷ input_formats (map shape_of_image known) inputs) (get_or-shapes known i)
    ∙ ap (λ formats. (get_or known i no_image).format ∷ formats) (input_formats-is known inputs)

of_entry : (found : Option Image) → unwrap_or (option_map shape_of_image found) no_shape ≡ shape_of_image (unwrap_or found no_image)
of_entry None = refl
of_entry (Some image) = refl

-- the shape of a buffer is that of its image
pub shape_in-images : (buffers : Buffers) (name : List ℕ) → unwrap_or (shape_in (shapes_of_images buffers) name) no_shape ≡ shape_of_image (buffer_image buffers name)
shape_in-images buffers name = ap (λ found. unwrap_or found no_shape) (lookup-map_values shape_of_image (bytes_eq name) buffers) ∙ of_entry (lookup (bytes_eq name) buffers)

pub step_shape-is : {Op : Type 0} (meanings : Meanings Op) (buffers : Buffers) (known : List Image) (step : Step Op) →
    step_shape meanings (shapes_of_images buffers) (map shape_of_image known) step ≡ shape_of_image (step_image (result_of meanings) buffers known step)
step_shape-is meanings buffers known (FromBuffer buffer) = shape_in-images buffers buffer
step_shape-is meanings buffers known (Apply operation inputs) =
    let of : Rectangle → Format → Shape = λ box format. record { box = box; format = format } in
    ap (λ boxes. of (result_box meanings operation boxes) (result_format meanings operation (input_formats (map shape_of_image known) inputs))) (input_boxes-is known inputs)
    ∙ ap (λ formats. of (result_box meanings operation (boxes_of (map (λ i. get_or known i no_image) inputs))) (result_format meanings operation formats)) (input_formats-is known inputs)

pub shapes_after-is : {Op : Type 0} (meanings : Meanings Op) (buffers : Buffers) (known : List Image) (steps : List (Step Op)) →
    shapes_after meanings (shapes_of_images buffers) (map shape_of_image known) steps ≡ map shape_of_image (images_after (result_of meanings) buffers known steps)
shapes_after-is meanings buffers known [] = refl
shapes_after-is meanings buffers known (step ∷ steps) =
    let image = step_image (result_of meanings) buffers known step in
    ap (λ (s : Shape). shapes_after meanings (shapes_of_images buffers) (map shape_of_image known ++ s ∷ []) steps) (step_shape-is meanings buffers known step)
    ∙ ap (λ shapes. shapes_after meanings (shapes_of_images buffers) shapes steps) (sym (map-append shape_of_image known (image ∷ [])))
    ∙ shapes_after-is meanings buffers (known ++ image ∷ []) steps

-- the shape at a position is that of the image there
pub shape_at : {Op : Type 0} (meanings : Meanings Op) (buffers : Buffers) (steps : List (Step Op)) (i : ℕ) →
    get_or (shapes_after meanings (shapes_of_images buffers) [] steps) i no_shape ≡ shape_of_image (get_or (images_after (result_of meanings) buffers [] steps) i no_image)
shape_at meanings buffers steps i =
    ap (λ shapes. get_or shapes i no_shape) (shapes_after-is meanings buffers [] steps)
    ∙ get_or-shapes (images_after (result_of meanings) buffers [] steps) i

-- ---- of facts

-- the shape of a buffer is that of its fact
pub shape_in-facts : (facts : Facts) (name : List ℕ) → shape_in (shapes_of_facts facts) name ≡ option_map shape_of_fact (fact_of facts name)
shape_in-facts [] name = refl
shape_in-facts (fact ∷ facts) name = by (bytes_eq name fact.name) (shape_in-facts facts name)
  where
    by : (b : Bool) → shape_in (shapes_of_facts facts) name ≡ option_map shape_of_fact (fact_of facts name) →
        cond b (Some (shape_of_fact fact)) (shape_in (shapes_of_facts facts) name) ≡ option_map shape_of_fact (cond b (Some fact) (fact_of facts name))
    by true rest = refl
    by false rest = rest

-- ---- where no shape of a buffer changes

shapes_same-after : {Op : Type 0} (meanings : Meanings Op) (old new : Shapes) → ((name : List ℕ) → shape_in old name ≡ shape_in new name) → (known : List Shape) (steps : List (Step Op)) →
    shapes_after meanings old known steps ≡ shapes_after meanings new known steps
shapes_same-after meanings old new same known [] = refl
shapes_same-after meanings old new same known (FromBuffer buffer ∷ steps) =
    ap (λ o. shapes_after meanings old (known ++ unwrap_or o no_shape ∷ []) steps) (same buffer)
    ∙ shapes_same-after meanings old new same (known ++ step_shape meanings new known (FromBuffer buffer) ∷ []) steps
shapes_same-after meanings old new same known (Apply operation inputs ∷ steps) =
    shapes_same-after meanings old new same (known ++ step_shape meanings new known (Apply operation inputs) ∷ []) steps

same_shapes : (old new : Option BufferFact) → is_some old ≡ is_some new →
    ((a b : BufferFact) → old ≡ Some a → new ≡ Some b → IsSteady a b) → option_map shape_of_fact old ≡ option_map shape_of_fact new
same_shapes None None same steady = refl
same_shapes None (Some b) same steady = absurd (cc)
same_shapes (Some a) None same steady = absurd (cc)
same_shapes (Some a) (Some b) same steady = ap Some (steady a b refl refl).shape

pub shapes_unchanged : {Op : Type 0} (meanings : Meanings Op) (nodes : List (Node Op)) (old new : Facts) → HaveSameBuffers old new →
    shapes_of meanings (shapes_of_facts old) nodes ≡ shapes_of meanings (shapes_of_facts new) nodes
shapes_unchanged meanings nodes old new same =
    shapes_same-after meanings (shapes_of_facts old) (shapes_of_facts new)
    (λ name.
    shape_in-facts old name
    ∙ same_shapes (fact_of old name) (fact_of new name) (same.names name) (same.steady name)
    ∙ sym (shape_in-facts new name))
    [] (steps_of nodes)
