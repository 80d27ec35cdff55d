-- Windows that operations are applied to.
use Rattle.std.proofs.Common.{◌≡◌, ℕ, zero, suc, ◌<◌, List, [], ◌∷◌, All, map, length, get_or, Some, refl, ap, ◌∙◌, arith}
use Rattle.std.specs.Prelude.{slice_get}
use Rattle.plane_rect.specs.Rectangle.{Includes, Rectangle}
use Rattle.pixel_formats.specs.declared.format.Format.{Format}
use Rattle.model_images.specs.Image.{Image, at, image_from_fn}
use Rattle.model_images.specs.Paint.{cut, no_image}
use Rattle.model_images.proofs.Laws.{generated_equal}
use Rattle.model_graphs.specs.Laws.{IsLocal}
use Rattle.model_graphs.specs.Meanings.{Meanings, boxes_of, formats_of, result_box, result_format, result_of}
use Rattle.model_graphs.specs.Windows.{AreWindowsOf, IsWholeWindow, Window}
use Rattle.model_graphs.proofs.WindowLaws.{windows-give}
use Rattle.op_contracts.specs.Applying.{result_of_windows, window_bounds, window_formats, window_images}

-- lists that are equal member by member
each-equal : {X : Type 0} (f : Image → X) (g : Window → X) (images : List Image) (windows : List Window) → length windows ≡ length images
    → ((i : ℕ) (image : Image) (window : Window) → slice_get images i ≡ Some image → slice_get windows i ≡ Some window → g window ≡ f image)
    → map g windows ≡ map f images
each-equal f g [] [] count same = refl
each-equal f g [] (window ∷ windows) count same = absurd (omega (arith, count))
each-equal f g (image ∷ images) [] count same = absurd (omega (arith, count))
each-equal {X} f g (image ∷ images) (window ∷ windows) count same =
    ap (λ (x : X). x ∷ map g windows) (same 0 image window refl refl)
    ∙ ap (λ (xs : List X). f image ∷ xs) (each-equal f g images windows (omega (arith, count)) (λ i. same (suc i)))

-- the image and the window of a number
pub get-there : {X : Type 0} (xs : List X) (i : ℕ) (d : X) → i < length xs → slice_get xs i ≡ Some (get_or xs i d)
get-there [] i d below = absurd (omega (arith, below))
get-there (x ∷ xs) zero d below = refl
get-there (x ∷ xs) (suc i) d below = get-there xs i d (omega (arith, below))

pub got-below : {X : Type 0} (xs : List X) (i : ℕ) (x : X) → slice_get xs i ≡ Some x → i < length xs
got-below [] i x e = absurd (cc e)
got-below (y ∷ xs) zero x e = omega arith
got-below (y ∷ xs) (suc i) x e = omega (arith, got-below xs i x e)

-- the boxes and the formats of what windows show
pub boxes-shown : (windows : List Window) → boxes_of (window_images windows) ≡ window_bounds windows
boxes-shown [] = refl
boxes-shown (window ∷ windows) = ap (λ (boxes : List Rectangle). window.bounds ∷ boxes) (boxes-shown windows)

pub formats-shown : (windows : List Window) → formats_of (window_images windows) ≡ window_formats windows
formats-shown [] = refl
formats-shown (window ∷ windows) = ap (λ (formats : List Format). window.format ∷ formats) (formats-shown windows)

module _ {Op : Type 0} (meanings : Meanings Op) (operation : Op) (images : List Image) (windows : List Window) (part : Rectangle)
    (are : AreWindowsOf meanings operation images windows part) where
  pub its-bounds : window_bounds windows ≡ boxes_of images
  its-bounds = each-equal (λ (image : Image). image.box) (λ (window : Window). window.bounds) images windows are.count
      (λ i image window e f. (are.each i image window e f).0.bounds)

  pub its-formats : window_formats windows ≡ formats_of images
  its-formats = each-equal (λ (image : Image). image.format) (λ (window : Window). window.format) images windows are.count
      (λ i image window e f. (are.each i image window e f).0.format)

  image-there : (i : ℕ) (d : Image) → i < length windows → slice_get images i ≡ Some (get_or images i d)
  image-there i d below = get-there images i d (omega (arith, below, are.count))

  pub its-whole : All IsWholeWindow windows
  its-whole i d below = (are.each i (get_or images i no_image) (get_or windows i d) (image-there i no_image below) (get-there windows i d below)).1

  pub its-required : (i : ℕ) (window : Window) → slice_get windows i ≡ Some window → Includes window.need (meanings.required operation (boxes_of images) i part)
  its-required i window e =
      (are.each i (get_or images i no_image) window (image-there i no_image (got-below windows i window e)) e).2

  pub its-result : IsLocal meanings → Includes (result_box meanings operation (boxes_of images)) part
      → cut (result_of_windows meanings operation windows) part ≡ cut (result_of meanings operation images) part
  its-result local inside =
      ap (λ (formats : List Format). image_from_fn part (result_format meanings operation formats) (at (result_of_windows meanings operation windows)))
      (formats-shown windows ∙ its-formats)
      ∙ generated_equal part (result_of meanings operation images).format (at (result_of_windows meanings operation windows)) (at (result_of meanings operation images))
      (λ u v c there known. windows-give meanings operation images windows part local inside are u v c there)
