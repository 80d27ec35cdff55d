-- Parts of images that are cut.
use Rattle.std.proofs.Common.{◌≡◌, List, [], ◌∷◌, length, get_or, sym, arith}
use Rattle.plane_rect.specs.Rectangle.{Includes, Rectangle, meet}
use Rattle.model_images.specs.Image.{at}
use Rattle.model_images.specs.Paint.{cut}
use Rattle.model_images.proofs.Laws.{at-image_from_fn, generated_equal}
use Rattle.model_graphs.specs.Meanings.{result_box}
use Rattle.model_graphs.specs.Windows.{Window, window_image}
use Rattle.op_contracts.specs.Applying.{result_of_windows, window_bounds}
use Rattle.test_kit.specs.Cutting.{cutting}
use Rattle.test_kit.specs.declared.cutting.CutTo.{CutTo}

-- a part of the result is that part of the only input
pub part-of_input : (op : CutTo) (windows : List Window) (d : Window) (out : Rectangle) → length windows ≡ 1
    → Includes (result_box cutting op (window_bounds windows)) out
    → cut (window_image (get_or windows 0 d)) out ≡ cut (result_of_windows cutting op windows) out
part-of_input op [] d out one inside = absurd (omega (arith, one))
part-of_input op (window ∷ []) d out one inside =
    generated_equal out window.format (at (window_image window)) (at (result_of_windows cutting op (window ∷ [])))
    (λ u v c there known. sym (at-image_from_fn (meet op.rect window.bounds) window.format (at (window_image window)) u v c (inside u v there) known))
part-of_input op (window ∷ other ∷ windows) d out one inside = absurd (omega (arith, one))
