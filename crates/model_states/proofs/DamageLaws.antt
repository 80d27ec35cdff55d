-- What the damage of a body's inputs leaves of its image.
use Rattle.std.proofs.Common.{◌≡◌, ℕ, zero, suc, ◌+◌, ◌<◌, List, [], ◌∷◌, map, length, get_or, refl, sym, ap, ◌∙◌, subst, arith, Some, None, Option, IsSome, unwrap_or}
use Rattle.std.specs.Prelude.{option_map}
use Rattle.std.specs.List.{enumerate_from}
use Rattle.std.proofs.lemmas.List.{length-map, get_or-map}
use Rattle.plane_rect.specs.Rectangle.{Rectangle, Inside, Includes}
use Rattle.plane_rect.proofs.RectangleLaws.{Includes-hull_left, Includes-hull_right}
use Rattle.model_images.specs.Image.{Image, at}
use Rattle.model_images.specs.Agreement.{AgreeOutside, AgreeOver}
use Rattle.model_images.specs.Paint.{no_image}
use Rattle.model_graphs.specs.Evaluation.{Buffers, buffer_image}
use Rattle.model_graphs.specs.Meanings.{Meanings, result_of, result_box, result_format, boxes_of, formats_of}
use Rattle.model_states.specs.Rectangles.{Rectangles, rectangle_of}
use Rattle.model_states.specs.Regions.{hull_of}
use Rattle.model_states.specs.Neighbors.{AgreeOutsideRoots, SamplesAgreeOutside}
use Rattle.model_graphs.specs.declared.buffer.BufferFact.{BufferFact}
use Rattle.model_graphs.specs.Facts.{Facts, fact_of, root_of}
use Rattle.model_graphs.specs.Laws.{unit_rectangle, KeepsLaws}
use Rattle.model_graphs.proofs.ChangeLaws.{results_agree}

-- ---- buffers

-- the images of a buffer that both tables have agree outside the rectangle of its root
roots_agree : (rectangles : Rectangles) (x y : Image) (old new : Option BufferFact) → IsSome old → IsSome new →
    ((a b : BufferFact) → old ≡ Some a → new ≡ Some b → AgreeOutside x y (rectangle_of rectangles b.root)) →
    AgreeOutside x y (rectangle_of rectangles (unwrap_or (option_map (λ (fact : BufferFact). fact.root) new) []))
roots_agree rectangles x y None new there again agree = absurd (cc)
roots_agree rectangles x y (Some a) None there again agree = absurd (cc)
roots_agree rectangles x y (Some a) (Some b) there again agree = agree a b refl refl

pub buffers_agree : (old new : Facts) (x y : Buffers) (rectangles : Rectangles) (name : List ℕ) → AgreeOutsideRoots old new x y rectangles →
    IsSome (fact_of old name) → IsSome (fact_of new name) →
    AgreeOutside (buffer_image x name) (buffer_image y name) (rectangle_of rectangles (root_of new name))
buffers_agree old new x y rectangles name neighbors there again =
    roots_agree rectangles (buffer_image x name) (buffer_image y name) (fact_of old name) (fact_of new name) there again (neighbors name)

-- ---- inputs

-- the hull includes what each input gives
hull_includes : (g : ℕ × List ℕ → Rectangle) (n : ℕ) (names : List (List ℕ)) (i : ℕ) → i < length names →
    Includes (hull_of (map g (enumerate_from n names))) (g (n + i, get_or names i []))
hull_includes g n [] i less = absurd (omega arith)
hull_includes g n (name ∷ names) zero less =
    let here : n + 0 ≡ n = omega arith in
    λ u v h. Includes-hull_left (g (n, name)) (hull_of (map g (enumerate_from (n + 1) names))) u v
    (subst (λ k. Inside u v (g (k, name))) here h)
hull_includes g n (name ∷ names) (suc i) less =
    let there : n + suc i ≡ n + 1 + i = omega arith in
    let rest = hull_includes g (n + 1) names i (omega arith) in
    λ u v h. Includes-hull_right (g (n, name)) (hull_of (map g (enumerate_from (n + 1) names))) u v
    (rest u v (subst (λ k. Inside u v (g (k, get_or names i []))) there h))

-- ---- operations

-- The images of an operation on inputs of one box and one format, which agree outside the damage of each, agree outside
-- what these damages invalidate.
module _ {Op : Type 0} (meanings : Meanings Op) (operation : Op) (inputs : List (List ℕ)) (first second : List ℕ → Image) (hurt : List ℕ → Rectangle)
    (laws : KeepsLaws meanings) (boxes : boxes_of (map first inputs) ≡ boxes_of (map second inputs)) (formats : formats_of (map first inputs) ≡ formats_of (map second inputs))
    (each : (i : ℕ) → i < length inputs → SamplesAgreeOutside (first (get_or inputs i [])) (second (get_or inputs i [])) (hurt (get_or inputs i []))) where
  abbrev before : List Image
  before = map first inputs

  abbrev after : List Image
  after = map second inputs

  abbrev invalidated_by : ℕ × List ℕ → Rectangle
  invalidated_by input = meanings.invalidated operation (boxes_of before) input.0 (hurt input.1)

  abbrev invalidated : Rectangle
  invalidated = hull_of (map invalidated_by (enumerate_from 0 inputs))

  samples_required : (u v : ℕ) → ¬ Inside u v invalidated → Inside u v (result_box meanings operation (boxes_of before)) →
      (i : ℕ) → i < length before → AgreeOver (get_or before i no_image) (get_or after i no_image) (meanings.required operation (boxes_of before) i (unit_rectangle u v))
  samples_required u v out inside i less = λ u' v' c' read.
      let below : i < length inputs = omega (arith, length-map inputs first) in
      let name = get_or inputs i [] in
      let none : 0 + i ≡ i = omega arith in
      let apart : ¬ Inside u v (meanings.invalidated operation (boxes_of before) i (hurt name)) =
      λ h. out (hull_includes invalidated_by 0 inputs i below u v (subst (λ k. Inside u v (invalidated_by (k, name))) (sym none) h)) in
      ap (λ image. at image u' v' c') (get_or-map first inputs i [] no_image below)
      ∙ each i below u' v' c' (laws.dual operation (boxes_of before) i (hurt name) u v inside apart u' v' read)
      ∙ ap (λ image. at image u' v' c') (sym (get_or-map second inputs i [] no_image below))

  pub compute_agree : AgreeOutside (result_of meanings operation before) (result_of meanings operation after)
      (hull_of (map (λ (input : ℕ × List ℕ). meanings.invalidated operation (boxes_of (map second inputs)) input.0 (hurt input.1)) (enumerate_from 0 inputs)))
  compute_agree =
      subst (λ (boxes : List Rectangle). AgreeOutside (result_of meanings operation before) (result_of meanings operation after) (hull_of (map (λ (input : ℕ × List ℕ). meanings.invalidated operation boxes input.0 (hurt input.1)) (enumerate_from 0 inputs)))) boxes
      (record {
        box = ap (result_box meanings operation) boxes;
        format = ap (result_format meanings operation) formats;
        samples = λ u v c out. results_agree meanings operation before after u v c laws.local (record { boxes = boxes; formats = formats }) (samples_required u v out);
      })
