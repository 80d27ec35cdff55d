-- What a change of one input changes of a result.
use Rattle.std.proofs.Common.{◌≡◌, ◌≢◌, ℕ, zero, suc, ◌<◌, true, false, eqb, List, [], ◌∷◌, length, refl, sym, ap, ◌∙◌, subst, arith, eq-eqb}
use Rattle.std.proofs.lemmas.Bool.Decides.{nat_tests}
use Rattle.plane_rect.specs.Rectangle.{Includes, Inside, Rectangle}
use Rattle.pixel_formats.specs.declared.format.Format.{Format}
use Rattle.model_images.specs.Agreement.{AgreeOutside, AgreeOver}
use Rattle.model_images.specs.Image.{Image, at}
use Rattle.model_images.proofs.Laws.{at_outside}
use Rattle.model_images.proofs.Positions.{by_positions}
use Rattle.model_graphs.specs.Changes.{HaveEqualShapes, ChangedWithin, input_image}
use Rattle.model_graphs.specs.Laws.{IsDual, IsLocal, unit_rectangle}
use Rattle.model_graphs.specs.Meanings.{Meanings, boxes_of, result_box, result_format, result_of}

-- ---- positions

pub position_inside : (u v : ℕ) → Inside u v (unit_rectangle u v)
position_inside u v = record { column = (omega arith, omega arith); row = (omega arith, omega arith) }

pub position_only : (u v : ℕ) (r : Rectangle) → Inside u v r → Includes r (unit_rectangle u v)
position_only u v r inside = λ u' v' h.
    let column : u ≡ u' = omega (arith, h.column.0, h.column.1) in
    let row : v ≡ v' = omega (arith, h.row.0, h.row.1) in
    subst (λ k. Inside k v' r) column (subst (λ k. Inside u k r) row inside)

-- ---- a change

-- images of an operation agree at a place of which the inputs agree in what it requires
pub results_agree : {Op : Type 0} (meanings : Meanings Op) (operation : Op) (a b : List Image) (u v c : ℕ) → IsLocal meanings → HaveEqualShapes a b →
    (Inside u v (result_box meanings operation (boxes_of a)) → (i : ℕ) → i < length a → AgreeOver (input_image a i) (input_image b i) (meanings.required operation (boxes_of a) i (unit_rectangle u v))) →
    at (result_of meanings operation a) u v c ≡ at (result_of meanings operation b) u v c
results_agree meanings operation a b u v c local equal agree =
    let box = result_box meanings operation (boxes_of a) in
    by_positions (at (result_of meanings operation a) u v c ≡ at (result_of meanings operation b) u v c) u v box
    (λ inside.
    local operation a b (unit_rectangle u v) (position_only u v box inside)
    (record { boxes = equal.boxes; formats = equal.formats; samples = agree inside })
    u v c (position_inside u v))
    (λ outside.
    at_outside (result_of meanings operation a) u v c outside
    ∙ sym (at_outside (result_of meanings operation b) u v c (λ inside. outside (subst (λ (boxes : List Rectangle). Inside u v (result_box meanings operation boxes)) (sym equal.boxes) inside))))

module _ {Op : Type 0} (meanings : Meanings Op) (local : IsLocal meanings) (dual : IsDual meanings)
    (operation : Op) (i : ℕ) (r : Rectangle) (before after : List Image) (changed : ChangedWithin i r before after) where
  unreached : (u v : ℕ) → ¬ Inside u v (meanings.invalidated operation (boxes_of before) i r) → Inside u v (result_box meanings operation (boxes_of before)) →
      (j : ℕ) → j < length before → AgreeOver (input_image before j) (input_image after j) (meanings.required operation (boxes_of before) j (unit_rectangle u v))
  unreached u v out inside j less s t k read =
      elim (eqb j i) as (λ b. eqb j i ≡ b → at (input_image before j) s t k ≡ at (input_image after j) s t k) [
        | true ↦ λ same.
            let is : i ≡ j = grind (arith, nat_tests) in
            subst (λ n. at (input_image before n) s t k ≡ at (input_image after n) s t k) is
            (changed.changed s t k
            (dual operation (boxes_of before) i r u v inside out s t
            (subst (λ n. Inside s t (meanings.required operation (boxes_of before) n (unit_rectangle u v))) (sym is) read)))
        | false ↦ λ apart. changed.others j s t k (λ same. cc (sym apart ∙ eq-eqb j i same))
      ] refl

  pub change_inside : AgreeOutside (result_of meanings operation before) (result_of meanings operation after) (meanings.invalidated operation (boxes_of before) i r)
  change_inside =
      record {
        box = ap (result_box meanings operation) changed.equal.boxes;
        format = ap (result_format meanings operation) changed.equal.formats;
        samples = λ u v c out. results_agree meanings operation before after u v c local changed.equal (unreached u v out);
      }

-- ---- inputs that changed

pub one-changed : (a b : Image) (r : Rectangle) → AgreeOutside a b r → ChangedWithin 0 r (a ∷ []) (b ∷ [])
one-changed a b r agreed =
    record {
      equal = record {
        boxes = ap (λ (x : Rectangle). x ∷ []) agreed.box;
        formats = ap (λ (x : Format). x ∷ []) agreed.format;
      };
      changed = agreed.samples;
      others = only;
    }
  where
    only : (j u v c : ℕ) → j ≢ 0 → at (input_image (a ∷ []) j) u v c ≡ at (input_image (b ∷ []) j) u v c
    only zero u v c other = absurd (other refl)
    only (suc j) u v c other = refl

pub first-changed : (a b second : Image) (r : Rectangle) → AgreeOutside a b r → ChangedWithin 0 r (a ∷ second ∷ []) (b ∷ second ∷ [])
first-changed a b second r agreed =
    record {
      equal = record {
        boxes = ap (λ (x : Rectangle). x ∷ second.box ∷ []) agreed.box;
        formats = ap (λ (x : Format). x ∷ second.format ∷ []) agreed.format;
      };
      changed = agreed.samples;
      others = only;
    }
  where
    only : (j u v c : ℕ) → j ≢ 0 → at (input_image (a ∷ second ∷ []) j) u v c ≡ at (input_image (b ∷ second ∷ []) j) u v c
    only zero u v c other = absurd (other refl)
    only (suc j) u v c other = refl

pub second-changed : (first a b : Image) (r : Rectangle) → AgreeOutside a b r → ChangedWithin 1 r (first ∷ a ∷ []) (first ∷ b ∷ [])
second-changed first a b r agreed =
    record {
      equal = record {
        boxes = ap (λ (x : Rectangle). first.box ∷ x ∷ []) agreed.box;
        formats = ap (λ (x : Format). first.format ∷ x ∷ []) agreed.format;
      };
      changed = agreed.samples;
      others = only;
    }
  where
    only : (j u v c : ℕ) → j ≢ 1 → at (input_image (first ∷ a ∷ []) j) u v c ≡ at (input_image (first ∷ b ∷ []) j) u v c
    only zero u v c other = refl
    only (suc zero) u v c other = absurd (other refl)
    only (suc (suc j)) u v c other = refl
