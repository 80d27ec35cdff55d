-- Operations that copy an input over a part of their result.
use Rattle.std.proofs.Common.{◌≡◌, ℕ, zero, suc, ◌-◌, ◌≤◌, ◌==◌, ◌&&◌, List, [], ◌∷◌, length, Bool, true, false, cond, Some, None, refl, sym, ap, ◌∙◌, subst, arith, ◌⊎◌, inl, inr}
use Rattle.std.specs.Prelude.{IsSome, slice_get, unwrap_or}
use Rattle.std.proofs.lemmas.Bool.Decides.{nat_tests}
use Rattle.plane_rect.specs.Rectangle.{Includes, Inside, Rectangle, empty, in_limits, meet}
use Rattle.plane_rect.proofs.Rectangles.{Inside-meet}
use Rattle.pixel_formats.specs.Format.{channels, max_sample, max_sample_of, same_format, has_alpha}
use Rattle.pixel_formats.specs.Add.{added, added_pixel}
use Rattle.pixel_formats.specs.Over.{composited, over_pixel}
use Rattle.pixel_formats.specs.Row.{Pixel}
use Rattle.pixel_formats.specs.declared.format.Format.{Format}
use Rattle.pixel_formats.specs.declared.format.Format.TheVariants.{Y8}
use Rattle.pixel_formats.proofs.FormatLaws.{Decides-same_format, by_depth}
use Rattle.model_images.specs.Image.{Image, at}
use Rattle.model_images.proofs.Laws.{at_outside}
use Rattle.model_images.proofs.Tests.{both}
use Rattle.model_graphs.specs.Meanings.{boxes_of, formats_of, result_box}
use Rattle.model_operations.specs.Formats.{format_of}
use Rattle.model_operations.specs.Inputs.{input_count}
use Rattle.model_operations.specs.Meanings.{int_meanings}
use Rattle.model_operations.specs.Values.{value_at}
use Rattle.model_operations.specs.declared.operation.IntOp.{IntOp}
use Rattle.model_operations.specs.declared.operation.IntOp.TheVariants.{Add, Crop, Over}
use Rattle.op_contracts.specs.Applying.{CopiesInput}
use Rattle.op_contracts.proofs.Copied.{there-is}
use Rattle.int_ops.specs.Lone.{IsLone}

-- ---- the crop

-- a position of a rectangle that is in limits
limited : (b : Bool) (r : Rectangle) (u v : ℕ) → Inside u v (unwrap_or (cond b (Some r) None) empty) → Inside u v r
limited true r u v inside = inside
limited false r u v inside = absurd (omega (arith, inside))

crop-inside : (rect : Rectangle) (boxes : List Rectangle) (part : Rectangle) → length boxes ≡ 1 → Includes (result_box int_meanings (Crop rect) boxes) part →
    (first : Rectangle) → slice_get boxes 0 ≡ Some first → Includes first part
crop-inside rect [] part one inside first there = absurd (cc)
crop-inside rect (b ∷ []) part one inside first there =
    let same : b ≡ first = cc in
    λ u v here. subst (Inside u v) same ((Inside-meet u v b rect).0 (limited (in_limits (meet b rect)) (meet b rect) u v (inside u v here))).0
crop-inside rect (b ∷ c ∷ more) part one inside first there = absurd (omega (arith, one))

crop-format : (rect : Rectangle) (formats : List Format) (format : Format) → format_of (Crop rect) formats ≡ Some format → slice_get formats 0 ≡ Some format
crop-format rect [] format is = absurd (cc)
crop-format rect (f ∷ []) format is = is
crop-format rect (f ∷ g ∷ more) format is = absurd (let wrong : (length (f ∷ g ∷ more) == 1) ≡ false = grind (arith, nat_tests) in cc)

crop-samples : (rect : Rectangle) (images : List Image) (first : Image) → slice_get images 0 ≡ Some first →
    (u v c : ℕ) → value_at (Crop rect) images u v c ≡ at first u v c
crop-samples rect [] first there u v c = absurd (cc)
crop-samples rect (image ∷ more) first there u v c = let same : image ≡ first = cc in ap (λ (i : Image). at i u v c) same

pub crop-copies : (rect : Rectangle) (boxes : List Rectangle) (part : Rectangle) → length boxes ≡ 1 → Includes (result_box int_meanings (Crop rect) boxes) part
    → CopiesInput int_meanings (Crop rect) boxes part 0
crop-copies rect boxes part one inside = record {
  inside = λ box there. crop-inside rect boxes part one inside box there;
  format = crop-format rect;
  samples = λ images are some image there u v c here known most. crop-samples rect images image there u v c;
}

-- ---- sums and composites of a pixel and nothing

-- what a sample of nothing adds
over-nothing : (format : Format) (s : ℕ) → s ≤ max_sample format → composited (max_sample format) 0 0 s ≡ s
over-nothing format =
    by_depth (λ d. (s : ℕ) → s ≤ max_sample_of d → composited (max_sample_of d) 0 0 s ≡ s) (λ s most. omega (arith, most)) (λ s most. omega (arith, most)) (λ s most. omega (arith, most)) format

nothing-under : (format : Format) (alpha s : ℕ) → s ≤ max_sample format → composited (max_sample format) alpha s 0 ≡ s
nothing-under format =
    by_depth (λ d. (alpha s : ℕ) → s ≤ max_sample_of d → composited (max_sample_of d) alpha s 0 ≡ s) (λ alpha s most. omega (arith, most)) (λ alpha s most. omega (arith, most)) (λ alpha s most. omega (arith, most))
    format

nothing-added : (most s : ℕ) → s ≤ most → added most s 0 ≡ s
nothing-added most s small = omega (arith, small)

added-nothing : (most s : ℕ) → s ≤ most → added most 0 s ≡ s
added-nothing most s small = omega (arith, small)

-- ---- operations of two inputs of one format

if-format : (b : Bool) (a format : Format) → cond b (Some a) None ≡ Some format → (b ≡ true) × (a ≡ format)
if-format true a format is = (refl, cc)
if-format false a format is = absurd (cc)

over-formats : (formats : List Format) (format : Format) → format_of Over formats ≡ Some format → formats ≡ format ∷ format ∷ []
over-formats [] format is = absurd (cc)
over-formats (a ∷ []) format is = absurd (cc)
over-formats (a ∷ b ∷ []) format is =
    let chosen = if-format (same_format a b && has_alpha a) a format is in
    let same : a ≡ b = (Decides-same_format a b).0 (both (same_format a b) (has_alpha a) chosen.0).0 in
    let its : a ≡ format = chosen.1 in
    cc
over-formats (a ∷ b ∷ c ∷ more) format is = absurd (let wrong : (length (a ∷ b ∷ c ∷ more) == 2) ≡ false = grind (arith, nat_tests) in cc)

add-formats : (formats : List Format) (format : Format) → format_of Add formats ≡ Some format → formats ≡ format ∷ format ∷ []
add-formats [] format is = absurd (cc)
add-formats (a ∷ []) format is = absurd (cc)
add-formats (a ∷ b ∷ []) format is =
    let chosen = if-format (same_format a b) a format is in
    let same : a ≡ b = (Decides-same_format a b).0 chosen.0 in
    let its : a ≡ format = chosen.1 in
    cc
add-formats (a ∷ b ∷ c ∷ more) format is = absurd (let wrong : (length (a ∷ b ∷ c ∷ more) == 2) ≡ false = grind (arith, nat_tests) in cc)

module _ (op : IntOp) (joined : Format → Pixel → Pixel → Pixel)
    (is : (a b : Image) (u v c : ℕ) → value_at op (a ∷ b ∷ []) u v c ≡ joined a.format (at a u v) (at b u v) c)
    (pairs : (formats : List Format) (format : Format) → format_of op formats ≡ Some format → formats ≡ format ∷ format ∷ [])
    (lower : (format : Format) (top bottom : Pixel) (c : ℕ) → ((k : ℕ) → top k ≡ 0) → bottom c ≤ max_sample format → joined format top bottom c ≡ bottom c)
    (upper : (format : Format) (top bottom : Pixel) (c : ℕ) → bottom c ≡ 0 → top c ≤ max_sample format → joined format top bottom c ≡ top c)
    (first second part : Rectangle) where
  one-format : (a b : Image) → IsSome (format_of op (a.format ∷ b.format ∷ [])) → a.format ≡ b.format
  one-format a b some = let both_are = pairs (a.format ∷ b.format ∷ []) _ (there-is _ Y8 some) in cc

  lone-samples : (input : ℕ) → IsLone first second part input → (images : List Image) → boxes_of images ≡ first ∷ second ∷ [] → IsSome (format_of op (formats_of images))
      → (image : Image) → slice_get images input ≡ Some image → (u v c : ℕ) → Inside u v part → at image u v c ≤ max_sample image.format
      → value_at op images u v c ≡ at image u v c
  lone-samples input lone [] boxes some image there u v c here most = absurd (cc)
  lone-samples input lone (a ∷ []) boxes some image there u v c here most = absurd (cc)
  lone-samples zero lone (a ∷ b ∷ []) boxes some image there u v c here most =
      let same : a ≡ image = cc in
      let box : b.box ≡ second = cc in
      let nothing : at b u v c ≡ 0 = at_outside b u v c (λ inside. lone.1 u v (subst (Inside u v) box inside) here) in
      is a b u v c ∙ upper a.format (at a u v) (at b u v) c nothing (subst (λ (i : Image). at i u v c ≤ max_sample i.format) (sym same) most)
      ∙ ap (λ (i : Image). at i u v c) same
  lone-samples (suc zero) lone (a ∷ b ∷ []) boxes some image there u v c here most =
      let same : b ≡ image = cc in
      let box : a.box ≡ first = cc in
      let nothing : (k : ℕ) → at a u v k ≡ 0 = λ k. at_outside a u v k (λ inside. lone.1 u v (subst (Inside u v) box inside) here) in
      let small : at b u v c ≤ max_sample b.format = subst (λ (i : Image). at i u v c ≤ max_sample i.format) (sym same) most in
      is a b u v c ∙ lower a.format (at a u v) (at b u v) c nothing (subst (λ (f : Format). at b u v c ≤ max_sample f) (sym (one-format a b some)) small)
      ∙ ap (λ (i : Image). at i u v c) same
  lone-samples (suc (suc n)) lone (a ∷ b ∷ []) boxes some image there u v c here most = absurd (lone)
  lone-samples input lone (a ∷ b ∷ d ∷ more) boxes some image there u v c here most = absurd (cc)

  lone-inside : (input : ℕ) → IsLone first second part input → (box : Rectangle) → slice_get (first ∷ second ∷ []) input ≡ Some box → Includes box part
  lone-inside zero lone box there = let same : first ≡ box = cc in subst (λ (r : Rectangle). Includes r part) same lone.0
  lone-inside (suc zero) lone box there = let same : second ≡ box = cc in subst (λ (r : Rectangle). Includes r part) same lone.0
  lone-inside (suc (suc n)) lone box there = absurd (lone)

  lone-format : (input : ℕ) → IsLone first second part input → (formats : List Format) (format : Format) → format_of op formats ≡ Some format → slice_get formats input ≡ Some format
  lone-format zero lone formats format found = ap (λ (fs : List Format). slice_get fs 0) (pairs formats format found)
  lone-format (suc zero) lone formats format found = ap (λ (fs : List Format). slice_get fs 1) (pairs formats format found)
  lone-format (suc (suc n)) lone formats format found = absurd (lone)

  lone-copies : (input : ℕ) → IsLone first second part input → CopiesInput int_meanings op (first ∷ second ∷ []) part input
  lone-copies input lone = record {
    inside = lone-inside input lone;
    format = lone-format input lone;
    samples = λ images boxes some image there u v c here known most. lone-samples input lone images boxes some image there u v c here most;
  }

over-copies : (first second part : Rectangle) (input : ℕ) → IsLone first second part input → CopiesInput int_meanings Over (first ∷ second ∷ []) part input
over-copies =
    lone-copies Over over_pixel (λ a b u v c. refl) over-formats
    (λ format top bottom c nothing small.
    ap (λ alpha. composited (max_sample format) alpha (top c) (bottom c)) (nothing (channels format - 1))
    ∙ ap (λ s. composited (max_sample format) 0 s (bottom c)) (nothing c) ∙ over-nothing format (bottom c) small)
    (λ format top bottom c nothing small.
    ap (composited (max_sample format) (top (channels format - 1)) (top c)) nothing ∙ nothing-under format (top (channels format - 1)) (top c) small)

add-copies : (first second part : Rectangle) (input : ℕ) → IsLone first second part input → CopiesInput int_meanings Add (first ∷ second ∷ []) part input
add-copies =
    lone-copies Add added_pixel (λ a b u v c. refl) add-formats
    (λ format top bottom c nothing small. ap (λ s. added (max_sample format) s (bottom c)) (nothing c) ∙ added-nothing (max_sample format) (bottom c) small)
    (λ format top bottom c nothing small. ap (added (max_sample format) (top c)) nothing ∙ nothing-added (max_sample format) (top c) small)

-- how many boxes they have
pub two-inputs : (op : IntOp) → (op ≡ Add) ⊎ (op ≡ Over) → (n : ℕ) → n ≡ input_count op → n ≡ 2
two-inputs op (inl is) n count = count ∙ ap input_count is
two-inputs op (inr is) n count = count ∙ ap input_count is

-- of whatever boxes there are two
pub pair-copies : (op : IntOp) → (op ≡ Add) ⊎ (op ≡ Over) → (boxes : List Rectangle) (part first second : Rectangle) → length boxes ≡ 2
    → slice_get boxes 0 ≡ Some first → slice_get boxes 1 ≡ Some second → (input : ℕ) → IsLone first second part input → CopiesInput int_meanings op boxes part input
pair-copies op which [] part first second two f s input lone = absurd (cc)
pair-copies op which (a ∷ []) part first second two f s input lone = absurd (cc)
pair-copies op which (a ∷ b ∷ c ∷ more) part first second two f s input lone = absurd (omega (arith, two))
pair-copies op (inr is) (a ∷ b ∷ []) part first second two f s input lone =
    let one : a ≡ first = cc in let other : b ≡ second = cc in
    subst (λ (o : IntOp). CopiesInput int_meanings o (a ∷ b ∷ []) part input) (sym is)
    (over-copies a b part input (subst (λ (r : Rectangle). IsLone a r part input) (sym other) (subst (λ (r : Rectangle). IsLone r second part input) (sym one) lone)))
pair-copies op (inl is) (a ∷ b ∷ []) part first second two f s input lone =
    let one : a ≡ first = cc in let other : b ≡ second = cc in
    subst (λ (o : IntOp). CopiesInput int_meanings o (a ∷ b ∷ []) part input) (sym is)
    (add-copies a b part input (subst (λ (r : Rectangle). IsLone a r part input) (sym other) (subst (λ (r : Rectangle). IsLone r second part input) (sym one) lone)))
