-- The windows that an operation is applied to through a mask: its own, and the mask's after them.
use Rattle.std.proofs.Common.{◌≡◌, ℕ, ◌+◌, ◌-◌, ◌<◌, Bool, true, false, ◌&&◌, cond, All, List, length, take, get_or, Option, Some, None, refl, sym, ap, ◌∙◌, subst, arith}
use Rattle.std.specs.Prelude.{IsSome, slice_get, slice_index_or, unwrap_or}
use Rattle.std.proofs.lemmas.List.{get_or-map, get_or-take, length-take, take-map}
use Rattle.plane_rect.specs.Rectangle.{Includes, Inside, Rectangle}
use Rattle.pixel_formats.specs.Blend.{blended, blended_pixel}
use Rattle.pixel_formats.specs.Format.{channels, max_sample, same_format}
use Rattle.pixel_formats.specs.declared.format.Format.{Format}
use Rattle.pixel_formats.specs.declared.format.Format.TheVariants.{Y8}
use Rattle.pixel_formats.proofs.FormatLaws.{Decides-same_format}
use Rattle.model_images.specs.Image.{Image, at, image_from_fn}
use Rattle.model_images.specs.Paint.{cut, no_image}
use Rattle.model_images.proofs.Agreeing.{at-cut}
use Rattle.model_images.proofs.Laws.{at-image_from_fn, generated_equal}
use Rattle.model_images.proofs.Tests.{both}
use Rattle.model_graphs.specs.Changes.{input_image}
use Rattle.model_graphs.specs.Filter.{Filter, Through}
use Rattle.model_graphs.specs.Filters.{filter_value, filtered, format_through, is_mask_of}
use Rattle.model_graphs.specs.Meanings.{Meanings, result_box, result_format, result_of}
use Rattle.model_graphs.specs.Windows.{IsWholeWindow, Window, window_image}
use Rattle.op_contracts.specs.Applying.{HaveRequired, bounds_of, result_of_windows, window_bounds, window_formats, window_images}
use Rattle.op_contracts.proofs.Applied.{boxes-shown, formats-shown, get-there, got-below}
use Rattle.op_contracts.proofs.NodeOps.{inputs-there, own-inputs, own-required, through-format, through-result}

-- formats that suit a mask
through-if : (first mask format : Format) (b : Bool) → (same_format format first && is_mask_of mask first) ≡ b → IsSome (cond b (Some format) None)
    → (format ≡ first) × (is_mask_of mask first ≡ true)
through-if first mask format true suits some =
    let parts = both (same_format format first) (is_mask_of mask first) suits in
    ((Decides-same_format format first).0 parts.0, parts.1)
through-if first mask format false suits some = absurd (cc some)

through-suits : (first mask : Format) (made : Option Format) → IsSome (format_through first mask made) → (made ≡ Some first) × (is_mask_of mask first ≡ true)
through-suits first mask None some = absurd (cc some)
through-suits first mask (Some format) some =
    let suits = through-if first mask format (same_format format first && is_mask_of mask first) refl some in
    (ap Some suits.0, suits.1)

-- what a window of a number is, its format and its image
format-at : (windows : List Window) (i : ℕ) (window : Window) → i < length windows → window ≡ get_or windows i window
    → slice_index_or (window_formats windows) i Y8 ≡ window.format
format-at windows i window below is =
    get_or-map (λ (w : Window). w.format) windows i window Y8 below ∙ ap (λ (w : Window). w.format) (sym is)

image-at : (windows : List Window) (i : ℕ) (window : Window) → i < length windows → window ≡ get_or windows i window
    → input_image (window_images windows) i ≡ window_image window
image-at windows i window below is = get_or-map window_image windows i window no_image below ∙ ap window_image (sym is)

pub whole-at : (windows : List Window) (i : ℕ) (window : Window) → i < length windows → window ≡ get_or windows i window → All IsWholeWindow windows → IsWholeWindow window
whole-at windows i window below is whole = subst IsWholeWindow (sym is) (whole i window below)

module _ {Op : Type 0} (steady : Op → Bool) (meanings : Meanings Op) (nodes : Meanings (Filter Op)) (derived : nodes ≡ filtered steady meanings)
    (operation : Op) (node : Filter Op) (is : node ≡ Through operation) (windows : List Window) (boxes : List Rectangle)
    (its : length windows ≡ nodes.input_count node) (same : boxes ≡ window_bounds windows) (bounds : IsSome (bounds_of nodes node boxes)) where
  abbrev own : ℕ
  own = length windows - 1

  pub last-there : own < length windows
  last-there = omega (arith, its, inputs-there steady meanings nodes derived operation node is boxes bounds)

  suited : (steady operation ≡ true) × (meanings.input_count operation ≡ own)
  suited =
      let more : length windows ≡ own + 1 = omega (arith, last-there) in
      own-inputs steady meanings nodes derived operation node is (length windows) own its more

  pub own-boxes : take own boxes ≡ window_bounds (take own windows)
  own-boxes = ap (take own) same ∙ take-map (λ (w : Window). w.bounds) own windows

  pub own-part : (out : Rectangle) → Includes (result_box nodes node boxes) out → Includes (result_box meanings operation (take own boxes)) out
  own-part out inside =
      subst (λ (box : Rectangle). Includes box out) (through-result steady meanings nodes derived operation node is own suited.0 suited.1 boxes) inside

  pub own-needed : (out : Rectangle) → HaveRequired nodes node boxes windows out → HaveRequired meanings operation (take own boxes) (take own windows) out
  own-needed out needed i window found =
      let below : i < own = omega (arith, got-below (take own windows) i window found, length-take own windows) in
      let there : slice_get windows i ≡ Some window =
      get-there windows i window (omega (arith, below)) ∙ ap Some (sym (get_or-take own windows i window below))
      ∙ sym (get-there (take own windows) i window (got-below (take own windows) i window found)) ∙ found in
      subst (λ (region : Rectangle). Includes window.need region)
      (own-required steady meanings nodes derived operation node is own suited.0 suited.1 boxes i out below)
      (needed i window there)

  -- ---- formats

  module _ (format : IsSome (nodes.format node (window_formats windows))) where
    made-suits : (meanings.format operation (take own (window_formats windows)) ≡ Some (slice_index_or (window_formats windows) 0 Y8))
        × (is_mask_of (slice_index_or (window_formats windows) own Y8) (slice_index_or (window_formats windows) 0 Y8) ≡ true)
    made-suits =
        through-suits (slice_index_or (window_formats windows) 0 Y8) (slice_index_or (window_formats windows) own Y8) (meanings.format operation (take own (window_formats windows)))
        (subst IsSome (through-format steady meanings nodes derived operation node is own suited.0 suited.1 (window_formats windows)) format)

    made-is : meanings.format operation (window_formats (take own windows)) ≡ Some (slice_index_or (window_formats windows) 0 Y8)
    made-is = ap (meanings.format operation) (sym (take-map (λ (w : Window). w.format) own windows)) ∙ made-suits.0

    pub own-format : IsSome (meanings.format operation (window_formats (take own windows)))
    own-format = subst IsSome (sym made-is) refl

    module _ (base : Window) (base-is : base ≡ get_or windows 0 base) where
      base-format : slice_index_or (window_formats windows) 0 Y8 ≡ base.format
      base-format = format-at windows 0 base (omega (arith, last-there)) base-is

      -- what the operation gives by itself has the first input's format
      pub made-format : (result_of_windows meanings operation (take own windows)).format ≡ base.format
      made-format =
          ap (result_format meanings operation) (formats-shown (take own windows))
          ∙ ap (λ (found : Option Format). unwrap_or found Y8) made-is
          ∙ base-format

      mixed-format : (result_of_windows nodes node windows).format ≡ base.format
      mixed-format =
          let first = slice_index_or (window_formats windows) 0 Y8 in
          let mask = slice_index_or (window_formats windows) own Y8 in
          let suits : (same_format first first && is_mask_of mask first) ≡ true = rw ((Decides-same_format first first).1 refl) made-suits.1 in
          ap (result_format nodes node) (formats-shown windows)
          ∙ ap (λ (found : Option Format). unwrap_or found Y8)
          (through-format steady meanings nodes derived operation node is own suited.0 suited.1 (window_formats windows)
          ∙ ap (format_through first mask) made-suits.0
          ∙ ap (λ (b : Bool). cond b (Some first) None) suits)
          ∙ base-format

      module _ (mask : Window) (mask-is : mask ≡ get_or windows own mask) where
        pub mask-suits : is_mask_of mask.format base.format ≡ true
        mask-suits =
            ap (λ (f : Format). is_mask_of mask.format f) (sym base-format)
            ∙ ap (λ (f : Format). is_mask_of f (slice_index_or (window_formats windows) 0 Y8)) (sym (format-at windows own mask last-there mask-is))
            ∙ made-suits.1

        -- ---- samples

        -- what the operation through a mask means is a mixture of what the windows show with what it gives by itself
        mixture : (u v c : ℕ) → nodes.value node (window_images windows) u v c
            ≡ blended (max_sample base.format) (at (window_image base) u v c) (at (result_of_windows meanings operation (take own windows)) u v c) (at (window_image mask) u v 0)
        mixture u v c =
            let images = window_images windows in
            let made = result_of meanings operation in
            let first = image-at windows 0 base (omega (arith, last-there)) base-is in
            let last = image-at windows own mask last-there mask-is in
            ap (λ (m : Meanings (Filter Op)). m.value node images u v c) derived
            ∙ ap (λ (f : Filter Op). filter_value meanings f images u v c) is
            ∙ ap (λ n. blended (max_sample (input_image images 0).format) (at (input_image images 0) u v c) (at (made (take n images)) u v c) (at (input_image images n) u v 0)) suited.1
            ∙ ap (λ (image : Image). blended (max_sample image.format) (at image u v c) (at (made (take own images)) u v c) (at (input_image images own) u v 0)) first
            ∙ ap (λ (image : Image). blended (max_sample base.format) (at (window_image base) u v c) (at (made (take own images)) u v c) (at image u v 0)) last
            ∙ ap (λ (its : List Image). blended (max_sample base.format) (at (window_image base) u v c) (at (made its) u v c) (at (window_image mask) u v 0)) (take-map window_image own windows)

        pub mixed-result : (out : Rectangle) (made : Image) → Includes (result_box nodes node boxes) out → made ≡ cut (result_of_windows meanings operation (take own windows)) out
            → image_from_fn made.box base.format (λ u v. blended_pixel base.format (at (window_image base) u v) (at made u v) (at (window_image mask) u v 0))
            ≡ cut (result_of_windows nodes node windows) out
        mixed-result out made inside cuts =
            let result = result_of_windows nodes node windows in
            let box : result.box ≡ result_box nodes node boxes = ap (result_box nodes node) (boxes-shown windows ∙ sym same) in
            ap (λ (image : Image). image_from_fn image.box base.format (λ u v. blended_pixel base.format (at (window_image base) u v) (at image u v) (at (window_image mask) u v 0))) cuts
            ∙ generated_equal out base.format
            (λ u v. blended_pixel base.format (at (window_image base) u v) (at (cut (result_of_windows meanings operation (take own windows)) out) u v) (at (window_image mask) u v 0))
            (at result)
            (λ u v c there known.
            ap (λ n. blended (max_sample base.format) (at (window_image base) u v c) n (at (window_image mask) u v 0)) (at-cut (result_of_windows meanings operation (take own windows)) out u v c there)
            ∙ sym (mixture u v c)
            ∙ sym (at-image_from_fn result.box result.format (nodes.value node (window_images windows)) u v c
            (subst (λ (r : Rectangle). Inside u v r) (sym box) (inside u v there))
            (subst (λ (f : Format). c < channels f) (sym mixed-format) known)))
            ∙ ap (λ (f : Format). image_from_fn out f (at result)) (sym mixed-format)
