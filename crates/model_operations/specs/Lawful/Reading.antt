-- What operations read: inputs that agree there give the same.
use Rattle.std.proofs.Common.{◌≡◌, ℕ, ◌-◌, ◌*◌, ◌<◌, ℤ, Bool, true, false, ◌&&◌, leb, Some, cond, subst, refl, sym, ap, ◌∙◌, arith}
use Rattle.std.proofs.Math.Path.{fun_ext}
use Rattle.plane_rect.specs.Rectangle.{Inside, Rectangle}
use Rattle.pixel_formats.specs.Add.{added_pixel}
use Rattle.pixel_formats.specs.Format.{max_sample}
use Rattle.pixel_formats.specs.Invert.{inverted_pixel}
use Rattle.pixel_formats.specs.Mask.{masked_pixel}
use Rattle.pixel_formats.specs.Over.{over_pixel}
use Rattle.pixel_formats.specs.Recolor.{is_alpha}
use Rattle.pixel_formats.specs.Row.{Pixel}
use Rattle.pixel_formats.specs.Threshold.{thresholded_pixel}
use Rattle.pixel_formats.specs.declared.format.Format.{Format}
use Rattle.model_images.proofs.Laws.{at_outside, sampled_equal}
use Rattle.model_images.proofs.Positions.{by_positions}
use Rattle.model_images.specs.Image.{Image, at}
use Rattle.model_images.proofs.PolicyLaws.{abyss_at-inside, abyss_at-outside, clamp-everywhere}
use Rattle.model_images.specs.Abyss.{abyss_at, nearest, outside_at}
use Rattle.pixel_formats.specs.declared.abyss.Abyss.{Abyss}
use Rattle.pixel_formats.specs.declared.abyss.Abyss.TheVariants as policies
use Rattle.model_operations.specs.Boxes.{area_box, box_with}
use Rattle.pixel_formats.specs.Convert.{converted_pixel}
use Rattle.pixel_formats.specs.Gain.{gained_pixel}
use Rattle.model_operations.specs.Inputs.{input_count}
use Rattle.model_operations.specs.Moves.{source_index, mirrored_part, moved_back, moved_into, surrounded}
use Rattle.model_operations.specs.Regions.{area_read, read_for}
use Rattle.model_operations.specs.Values.{flipped_pixel, value_with}
use Rattle.model_operations.specs.Windows.{max_of_all, min_of_all, mean_of, read_before, window, window_side, window_square}
use Rattle.model_operations.specs.declared.operation.IntOp.{IntOp}
use Rattle.model_operations.specs.declared.operation.IntOp.TheVariants.{Color, Checker, Convert, Invert, Threshold, Gain, Translate, Crop, Flip, BoxMean, Dilate, Erode, Add, Over, Mask}
use Rattle.model_operations.specs.Lawful.Inputs.{AgreeIn, agreed_at}
use Rattle.model_operations.specs.Lawful.Sides.{mirrored_column, mirrored_part-is_inside, mirrored_row, moved_back-is_inside, moved_into-is_inside, surrounded-is_inside}

-- a pixel of an input alone
one_equal : (g : Format → Pixel → Pixel) (f f' : Format) (p p' : Pixel) (c : ℕ) → f ≡ f' → ((c : ℕ) → p c ≡ p' c) → g f p c ≡ g f' p' c
one_equal g f f' p p' c formats pixels =
    ap (λ (x : Format). g x p c) formats ∙ ap (λ (x : Pixel). g f' x c) (fun_ext pixels)

-- a pixel of two inputs
two_equal : (g : Format → Pixel → Pixel → Pixel) (f f' : Format) (p p' q q' : Pixel) (c : ℕ) → f ≡ f'
    → ((c : ℕ) → p c ≡ p' c) → ((c : ℕ) → q c ≡ q' c) → g f p q c ≡ g f' p' q' c
two_equal g f f' p p' q q' c formats first second =
    ap (λ (x : Format). g x p q c) formats ∙ ap (λ (x : Pixel). g f' x q c) (fun_ext first) ∙ ap (λ (x : Pixel). g f' p' x c) (fun_ext second)

outside_both : (a a' : Image) → a.box ≡ a'.box → (u v c : ℕ) → (Inside u v a.box → ⊥) → at a u v c ≡ at a' u v c
outside_both a a' box u v c out = at_outside a u v c out ∙ sym (at_outside a' u v c (λ inside. out (rw box inside)))

module _ (a b a' b' : Image) (part : Rectangle) (box : a.box ≡ a'.box) (other_box : b.box ≡ b'.box) (format : a.format ≡ a'.format) (u v c : ℕ) (there : Inside u v part) where
  -- for an operation on each pixel of the first input
  pub point-read : (g : Format → Pixel → Pixel) → AgreeIn a a' part → g a.format (at a u v) c ≡ g a'.format (at a' u v) c
  point-read g agree =
      one_equal g a.format a'.format (at a u v) (at a' u v) c format (λ k. agreed_at a a' part box agree u v k there)

  -- for an operation on each pixel of both
  pub points-read : (g : Format → Pixel → Pixel → Pixel) → AgreeIn a a' part → AgreeIn b b' part
      → g a.format (at a u v) (at b u v) c ≡ g a'.format (at a' u v) (at b' u v) c
  points-read g first second =
      two_equal g a.format a'.format (at a u v) (at a' u v) (at b u v) (at b' u v) c format
      (λ k. agreed_at a a' part box first u v k there)
      (λ k. agreed_at b b' part other_box second u v k there)

  pub translated-read : (dx dy : ℤ) → AgreeIn a a' (moved_back dx dy part) → at a (source_index dx u) (source_index dy v) c ≡ at a' (source_index dx u) (source_index dy v) c
  translated-read dx dy agree =
      agreed_at a a' (moved_back dx dy part) box agree (source_index dx u) (source_index dy v) c (moved_back-is_inside dx dy part u v there)

  flipped-at : (sideways : Bool) (image : Image) → flipped_pixel sideways image u v c ≡ at image (mirrored_column sideways image.box u) (mirrored_row sideways image.box v) c
  flipped-at true image = refl
  flipped-at false image = refl

  pub flipped-read : (sideways : Bool) → AgreeIn a a' (mirrored_part sideways a.box part) → flipped_pixel sideways a u v c ≡ flipped_pixel sideways a' u v c
  flipped-read sideways agree =
      flipped-at sideways a
      ∙ agreed_at a a' (mirrored_part sideways a.box part) box agree _ _ c (mirrored_part-is_inside sideways a.box part u v there)
      ∙ ap (λ (x : Rectangle). at a' (mirrored_column sideways x u) (mirrored_row sideways x v) c) box
      ∙ sym (flipped-at sideways a')

  -- one position of the window, counted from the plane's corner
  module _ (radius s t : ℕ) (near : Inside s t (surrounded radius part)) where
    clamped-read : AgreeIn a a' (moved_into a.box (surrounded radius part)) → outside_at a policies.Clamp s t c ≡ outside_at a' policies.Clamp s t c
    clamped-read agree =
        nearest-read
        ∙ ap (λ (x : Rectangle). at a' (nearest x.first_column x.width s) (nearest x.first_row x.height t) c) box
      where
        nearest-read : at a (nearest a.box.first_column a.box.width s) (nearest a.box.first_row a.box.height t) c
            ≡ at a' (nearest a.box.first_column a.box.width s) (nearest a.box.first_row a.box.height t) c
        nearest-read =
            let column : ℕ = nearest a.box.first_column a.box.width s in
            let row : ℕ = nearest a.box.first_row a.box.height t in
            by_positions _ column row a.box
            (λ inside. agreed_at a a' (moved_into a.box (surrounded radius part)) box agree column row c (moved_into-is_inside a.box (surrounded radius part) s t column row near inside))
            (λ out. outside_both a a' box column row c out)

    abyss-read : (policy : Abyss) → AgreeIn a a' (surrounded radius part) → outside_at a policy s t c ≡ outside_at a' policy s t c
        → abyss_at a policy s t c ≡ abyss_at a' policy s t c
    abyss-read policy agree outside =
        by_positions _ s t a.box
        (λ inside.
        abyss_at-inside a policy s t c inside
        ∙ agreed_at a a' (surrounded radius part) box agree s t c near
        ∙ sym (abyss_at-inside a' policy s t c (subst (λ (r : Rectangle). Inside s t r) box inside)))
        (λ out.
        abyss_at-outside a policy s t c out
        ∙ outside
        ∙ sym (abyss_at-outside a' policy s t c (λ inside. out (subst (λ (r : Rectangle). Inside s t r) (sym box) inside))))

    -- the same under a policy, in the box and outside it
    policy-read : (policy : Abyss) → (r : Rectangle) → area_box radius policy a.box ≡ Some r → AgreeIn a a' (area_read radius policy a.box part)
        → (abyss_at a policy s t c ≡ abyss_at a' policy s t c) × (outside_at a policy s t c ≡ outside_at a' policy s t c)
    policy-read policies.None r boxed agree = (abyss-read policies.None agree refl, refl)
    policy-read policies.Clamp r boxed agree =
        (clamp-everywhere a s t c ∙ clamped-read agree ∙ sym (clamp-everywhere a' s t c), clamped-read agree)
    policy-read policies.Loop r boxed agree = absurd (cc boxed)
    policy-read policies.Black r boxed agree =
        let same = ap (λ (f : Format). cond (is_alpha f c) (max_sample f) 0) format in
        (abyss-read policies.Black agree same, same)
    policy-read policies.White r boxed agree =
        let same = ap max_sample format in
        (abyss-read policies.White agree same, same)

  -- the window of a position
  pub window-read : (radius : ℕ) (policy : Abyss) (r : Rectangle) → area_box radius policy a.box ≡ Some r → AgreeIn a a' (area_read radius policy a.box part)
      → window radius a policy u v c ≡ window radius a' policy u v c
  window-read radius policy r boxed agree =
      sampled_equal (window_square radius u v) 1 (λ s t k. read_before radius a policy s t c) (λ s t k. read_before radius a' policy s t c)
      (λ s t k inside known.
      let near : Inside (s - radius) (t - radius) (surrounded radius part) =
      surrounded-is_inside radius part u v (s - radius) (t - radius) there
      (omega (arith, inside.column)) (omega (arith, inside.column)) (omega (arith, inside.row)) (omega (arith, inside.row)) in
      let same = policy-read radius (s - radius) (t - radius) near policy r boxed agree in
      ap (λ (x : ℕ). cond (leb radius s && leb radius t) x (outside_at a policy (s - radius) (t - radius) c)) same.0
      ∙ ap (λ (x : ℕ). cond (leb radius s && leb radius t) (abyss_at a' policy (s - radius) (t - radius) c) x) same.1)

  -- what an operation gives of images that agree in what it reads for a part, at a position of the part
  pub value-read : (op : IntOp) (r : Rectangle) → box_with op a.box b.box ≡ Some r
      → (0 < input_count op → AgreeIn a a' (read_for op a.box part)) → (1 < input_count op → AgreeIn b b' (read_for op b.box part))
      → value_with op a b u v c ≡ value_with op a' b' u v c
  value-read (Color f rect samples) r boxed first second = refl
  value-read (Checker f rect size v1 v2) r boxed first second = refl
  value-read (Convert f) r boxed first second = point-read (λ from. converted_pixel from f) (first (omega arith))
  value-read Invert r boxed first second = point-read inverted_pixel (first (omega arith))
  value-read (Threshold level) r boxed first second = point-read (λ f. thresholded_pixel f level) (first (omega arith))
  value-read (Gain num den) r boxed first second = point-read (λ f. gained_pixel f num den) (first (omega arith))
  value-read (Translate dx dy) r boxed first second = translated-read dx dy (first (omega arith))
  value-read (Crop rect) r boxed first second = point-read (λ f. λ p. p) (first (omega arith))
  value-read (Flip sideways) r boxed first second = flipped-read sideways (first (omega arith))
  value-read (BoxMean radius abyss) r boxed first second =
      ap (mean_of (window_side radius * window_side radius)) (window-read radius abyss r boxed (first (omega arith)))
  value-read (Dilate radius abyss) r boxed first second = ap max_of_all (window-read radius abyss r boxed (first (omega arith)))
  value-read (Erode radius abyss) r boxed first second = ap min_of_all (window-read radius abyss r boxed (first (omega arith)))
  value-read Add r boxed first second = points-read added_pixel (first (omega arith)) (second (omega arith))
  value-read Over r boxed first second = points-read over_pixel (first (omega arith)) (second (omega arith))
  value-read Mask r boxed first second = points-read (λ f. λ p. λ q. masked_pixel f p (q 0)) (first (omega arith)) (second (omega arith))
