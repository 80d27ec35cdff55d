use Rattle.std.proofs.Common.{◌≡◌, ℕ, ◌<◌, Some}
use Rattle.std.specs.Prelude.{slice_get}
use Rattle.plane_rect.specs.Rectangle.{Includes}
use Rattle.model_graphs.specs.Windows.{Window}
use Rattle.test_kit.proofs.part.have_required.Given as goal

-- the windows up to here are needed at what the part requires of them
abbrev pub invariant-loop-input : goal.invariant-loop-input
invariant-loop-input g l =
    (i : ℕ) (window : Window) → i < l.input → slice_get l.fn.windows i ≡ Some window
    → Includes window.need (g.K.Op.OpMeaning.meanings.required l.fn.op l.fn.boxes i l.fn.out)
