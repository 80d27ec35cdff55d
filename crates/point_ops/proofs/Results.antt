-- Parts of what operations give of the images that windows show.
use Rattle.std.proofs.Common.{◌≡◌, ℕ, ◌<◌, List, [], ◌∷◌, Bool, true, false, ◌&&◌, cond, eqb, All, length, get_or, Option, Some, None, refl, sym, ap, ◌∙◌, subst, arith}
use Rattle.std.specs.Prelude.{IsSome, unwrap_or}
use Rattle.std.specs.List.{list_all}
use Rattle.std.proofs.lemmas.Bool.{leb-true}
use Rattle.std.proofs.lemmas.Bool.Decides.{Decides-eqb}
use Rattle.std.proofs.lemmas.List.Elements.{All-cons}
use Rattle.plane_rect.specs.Rectangle.{InLimits, Includes, IsRectangle, Rectangle, empty, in_limits}
use Rattle.pixel_formats.specs.Format.{channels, depth, has_alpha, max_sample, same_format}
use Rattle.pixel_formats.specs.declared.format.Format.{Format}
use Rattle.pixel_formats.specs.declared.format.Format.TheVariants.{Y8}
use Rattle.pixel_formats.proofs.FormatLaws.{Decides-same_format}
use Rattle.model_images.specs.Image.{at, image_from_fn}
use Rattle.model_images.specs.Paint.{cut}
use Rattle.model_images.proofs.Laws.{at-image_from_fn, generated_equal}
use Rattle.model_images.proofs.Tests.{both}
use Rattle.model_graphs.specs.Meanings.{boxes_of, formats_of, result_box, result_format}
use Rattle.model_graphs.specs.Windows.{Window}
use Rattle.model_operations.specs.Arguments.{in_range}
use Rattle.model_operations.specs.Formats.{are_samples, format_of, format_with, is_mask_of, is_sample}
use Rattle.model_operations.specs.Inputs.{input_count, input_format}
use Rattle.model_operations.specs.Meanings.{int_meanings}
use Rattle.model_operations.specs.Values.{value_at}
use Rattle.model_operations.specs.declared.operation.IntOp.{IntOp}
use Rattle.model_operations.specs.declared.operation.IntOp.TheVariants.{Color, Checker, Convert, Invert, Threshold, Gain, Translate, Crop, Flip, BoxMean, Dilate, Erode, Add, Over, Mask}
use Rattle.op_contracts.specs.Applying.{IsInOneTile, result_of_windows, window_bounds, window_formats, window_images}
use Rattle.op_contracts.proofs.Limits.{InLimits-in_tile}
use Rattle.patch_abyss.specs.Samples.{IsSampleOf}

-- ---- the formats of results

-- the format of what an operation gives, where it takes the inputs, by that of the first
abbrev pub made_format : IntOp → Format → Format
made_format (Color format rect samples) from = format
made_format (Checker format rect size v1 v2) from = format
made_format (Convert format) from = format
made_format Invert from = from
made_format (Threshold level) from = from
made_format (Gain num den) from = from
made_format (Translate dx dy) from = from
made_format (Crop rect) from = from
made_format (Flip sideways) from = from
made_format (BoxMean radius abyss) from = from
made_format (Dilate radius abyss) from = from
made_format (Erode radius abyss) from = from
made_format Add from = from
made_format Over from = from
made_format Mask from = from

pub given : (b : Bool) (made : Option Format) → IsSome (cond b made None) → (b ≡ true) × IsSome made
given true made some = (refl, some)
given false made some = absurd (cc some)

if-made : (b : Bool) (f : Format) → IsSome (cond b (Some f) None) → unwrap_or (cond b (Some f) None) Y8 ≡ f
if-made true f some = refl
if-made false f some = absurd (cc some)

with-made : (op : IntOp) (a b : Format) → IsSome (format_with op a b) → unwrap_or (format_with op a b) Y8 ≡ made_format op a
with-made (Color format rect samples) a b some = if-made (are_samples format samples) format some
with-made (Checker format rect size v1 v2) a b some = if-made (is_sample format v1 && is_sample format v2) format some
with-made (Convert format) a b some = refl
with-made Invert a b some = refl
with-made (Threshold level) a b some = if-made (is_sample a level) a some
with-made (Gain num den) a b some = refl
with-made (Translate dx dy) a b some = refl
with-made (Crop rect) a b some = refl
with-made (Flip sideways) a b some = refl
with-made (BoxMean radius abyss) a b some = refl
with-made (Dilate radius abyss) a b some = refl
with-made (Erode radius abyss) a b some = refl
with-made Add a b some = if-made (same_format a b) a some
with-made Over a b some = if-made (same_format a b && has_alpha a) a some
with-made Mask a b some = if-made (is_mask_of b a) a some

made-if : (b : Bool) (made : Option Format) (f : Format) → (IsSome made → unwrap_or made Y8 ≡ f) → IsSome (cond b made None) → unwrap_or (cond b made None) Y8 ≡ f
made-if true made f is some = is some
made-if false made f is some = absurd (cc some)

format-made : (op : IntOp) (formats : List Format) → IsSome (format_of op formats) → unwrap_or (format_of op formats) Y8 ≡ made_format op (input_format formats 0)
format-made op formats some =
    made-if (eqb (length formats) (input_count op) && in_range op) (format_with op (input_format formats 0) (input_format formats 1))
    (made_format op (input_format formats 0)) (with-made op (input_format formats 0) (input_format formats 1)) some

-- ---- the images that windows show

formats-shown : (windows : List Window) → formats_of (window_images windows) ≡ window_formats windows
formats-shown [] = refl
formats-shown (window ∷ windows) = ap (λ (formats : List Format). window.format ∷ formats) (formats-shown windows)

boxes-shown : (windows : List Window) → boxes_of (window_images windows) ≡ window_bounds windows
boxes-shown [] = refl
boxes-shown (window ∷ windows) = ap (λ (boxes : List Rectangle). window.bounds ∷ boxes) (boxes-shown windows)

part-is : (op : IntOp) (windows : List Window) (out : Rectangle) → IsSome (format_of op (window_formats windows))
    → Includes (result_box int_meanings op (window_bounds windows)) out
    → image_from_fn out (made_format op (input_format (window_formats windows) 0)) (value_at op (window_images windows))
    ≡ cut (result_of_windows int_meanings op windows) out
part-is op windows out taken inside =
    let box = result_box int_meanings op (boxes_of (window_images windows)) in
    let format = result_format int_meanings op (formats_of (window_images windows)) in
    let within : Includes box out = subst (λ (boxes : List Rectangle). Includes (result_box int_meanings op boxes) out) (sym (boxes-shown windows)) inside in
    let its : format ≡ made_format op (input_format (window_formats windows) 0) =
    ap (result_format int_meanings op) (formats-shown windows) ∙ format-made op (window_formats windows) taken in
    ap (λ (f : Format). image_from_fn out f (value_at op (window_images windows))) (sym its)
    ∙ generated_equal out format (value_at op (window_images windows)) (at (result_of_windows int_meanings op windows))
    (λ u v c there known. sym (at-image_from_fn box format (value_at op (window_images windows)) u v c (within u v there) known))

-- the same of an operation and of windows that are known
pub part-of : (op o : IntOp) (windows ws : List Window) (out : Rectangle) → op ≡ o → windows ≡ ws → IsSome (format_of op (window_formats windows))
    → Includes (result_box int_meanings op (window_bounds windows)) out
    → image_from_fn out (made_format o (input_format (window_formats ws) 0)) (value_at o (window_images ws))
    ≡ cut (result_of_windows int_meanings op windows) out
part-of op o windows ws out is are taken inside =
    ap (λ (p : IntOp). image_from_fn out (made_format p (input_format (window_formats ws) 0)) (value_at p (window_images ws))) (sym is)
    ∙ ap (λ (vs : List Window). image_from_fn out (made_format op (input_format (window_formats vs) 0)) (value_at op (window_images vs))) (sym are)
    ∙ part-is op windows out taken inside

-- a part of one tile is small
pub tile_in_limits : (out : Rectangle) → IsInOneTile out → IsRectangle out → InLimits out
tile_in_limits out tile is = InLimits-in_tile out tile.0 is tile.1

-- ---- windows by their number

pub none-of : (windows : List Window) → length windows ≡ 0 → windows ≡ []
none-of [] count = refl
none-of (window ∷ windows) count = absurd (omega (arith, count))

pub one-of : (windows : List Window) (w : Window) → length windows ≡ 1 → w ≡ get_or windows 0 w → windows ≡ w ∷ []
one-of [] w count is = absurd (omega (arith, count))
one-of (window ∷ []) w count is = ap (λ (v : Window). v ∷ []) (sym is)
one-of (window ∷ other ∷ windows) w count is = absurd (omega (arith, count))

pub two-of : (windows : List Window) (v w : Window) → length windows ≡ 2 → v ≡ get_or windows 0 v → w ≡ get_or windows 1 w → windows ≡ v ∷ w ∷ []
two-of [] v w count is also = absurd (omega (arith, count))
two-of (a ∷ []) v w count is also = absurd (omega (arith, count))
two-of (a ∷ b ∷ []) v w count is also = ap (λ (x : Window). x ∷ b ∷ []) (sym is) ∙ ap (λ (x : Window). v ∷ x ∷ []) (sym also)
two-of (a ∷ b ∷ c ∷ windows) v w count is also = absurd (omega (arith, count))

pub whole-first : (P : Window → Type 0) (windows : List Window) (w : Window) → 0 < length windows → w ≡ get_or windows 0 w → All P windows → P w
whole-first P windows w some is all = subst P (sym is) (all 0 w some)

-- ---- what an operation asks of its inputs

pub taken-by : (op o : IntOp) (windows ws : List Window) → op ≡ o → windows ≡ ws → IsSome (format_of op (window_formats windows)) → IsSome (format_of o (window_formats ws))
taken-by op o windows ws is are taken =
    subst (λ (p : IntOp). IsSome (format_of p (window_formats ws))) is
    (subst (λ (vs : List Window). IsSome (format_of op (window_formats vs))) are taken)

pub suits-add : (a b : Format) → IsSome (format_of Add (a ∷ b ∷ [])) → b ≡ a
suits-add a b some = sym ((Decides-same_format a b).0 (given (same_format a b) (Some a) some).0)

pub suits-over : (a b : Format) → IsSome (format_of Over (a ∷ b ∷ [])) → (b ≡ a) × (has_alpha a ≡ true)
suits-over a b some =
    let tests = both (same_format a b) (has_alpha a) (given (same_format a b && has_alpha a) (Some a) some).0 in
    (sym ((Decides-same_format a b).0 tests.0), tests.1)

pub suits-mask : (a b : Format) → IsSome (format_of Mask (a ∷ b ∷ [])) → (channels b ≡ 1) × (depth b ≡ depth a)
suits-mask a b some =
    let tests = both (eqb (channels b) 1) (eqb (depth b) (depth a)) (given (is_mask_of b a) (Some a) some).0 in
    ((Decides-eqb (channels b) 1).0 tests.0, (Decides-eqb (depth b) (depth a)).0 tests.1)

all-samples : (f : Format) (samples : List ℕ) → list_all (is_sample f) samples ≡ true → All (IsSampleOf f) samples
all-samples f [] all = λ k d below. absurd (omega (arith, below))
all-samples f (s ∷ samples) all =
    let tests = both (is_sample f s) (list_all (is_sample f) samples) all in
    All-cons (IsSampleOf f) s samples (leb-true s (max_sample f) tests.0) (all-samples f samples tests.1)

pub color-samples : (f : Format) (rect : Rectangle) (samples : List ℕ) → IsSome (format_of (Color f rect samples) []) → All (IsSampleOf f) samples
color-samples f rect samples some =
    all-samples f samples (both (eqb (length samples) (channels f)) (list_all (is_sample f) samples) (given (are_samples f samples) (Some f) some).0).1

-- a part of a box that is in limits
inside-if : (b : Bool) (box out : Rectangle) → Includes (unwrap_or (cond b (Some box) None) empty) out → Includes box out
inside-if true box out inside = inside
inside-if false box out inside = λ u v there. let none = inside u v there in absurd (omega (arith, none.column))

pub flip-inside : (op : IntOp) (sideways : Bool) (windows : List Window) (w : Window) (out : Rectangle) → op ≡ Flip sideways → windows ≡ w ∷ []
    → Includes (result_box int_meanings op (window_bounds windows)) out → Includes w.bounds out
flip-inside op sideways windows w out is are inside =
    inside-if (in_limits w.bounds) w.bounds out
    (subst (λ (p : IntOp). Includes (result_box int_meanings p (w.bounds ∷ [])) out) is
    (subst (λ (vs : List Window). Includes (result_box int_meanings op (window_bounds vs)) out) are inside))

pub translate-inside : (op o : IntOp) (windows : List Window) (w : Window) (out : Rectangle) → op ≡ o → windows ≡ w ∷ []
    → Includes (result_box int_meanings op (window_bounds windows)) out → Includes (result_box int_meanings o (w.bounds ∷ [])) out
translate-inside op o windows w out is are inside =
    subst (λ (p : IntOp). Includes (result_box int_meanings p (w.bounds ∷ [])) out) is
    (subst (λ (vs : List Window). Includes (result_box int_meanings op (window_bounds vs)) out) are inside)

-- a part of what an operation of one window gives
pub part-of-one : (op o : IntOp) (windows : List Window) (w : Window) (out : Rectangle) → op ≡ o → input_count o ≡ 1 → length windows ≡ input_count op → w ≡ get_or windows 0 w
    → IsSome (format_of op (window_formats windows)) → Includes (result_box int_meanings op (window_bounds windows)) out
    → image_from_fn out (made_format o (input_format (window_formats (w ∷ [])) 0)) (value_at o (window_images (w ∷ [])))
    ≡ cut (result_of_windows int_meanings op windows) out
part-of-one op o windows w out is one count first taken inside =
    part-of op o windows (w ∷ []) out is (one-of windows w (count ∙ ap input_count is ∙ one) first) taken inside
