use Rattle.std.proofs.Common.{◌≡◌, ℕ, ◌*◌, ◌/◌, ◌<◌, List, length, get_or, sym, ap, ◌∙◌, arith}
use Rattle.std.proofs.lemmas.Nat.{div_below}
use Rattle.model_operations.proofs.WindowLaws.{length-window}
use Rattle.model_operations.specs.Windows.{window_side}
use Rattle.plain_images.proofs.WindowSamples.{window-at}
use Rattle.plain_images.proofs.windows.Window.get.Goals as goal

pub overflow_add-row : goal.overflow_add-row
overflow_add-row c =
    let w = c.self.inside in
    let side = window_side w.radius in
    let long : length c.args.self.now ≡ side * side =
    ap length (sym c.self.view_is) ∙ length-window w.radius w.picture.now w.policy w.column w.row w.channel in
    let row : c.args.index / side < side = div_below c.args.index side side (omega arith) (omega (arith, c.requires, long)) in
    record { fits = omega (arith, row, c.self.invariant) }

pub returns : goal.returns
returns c =
    let w = c.self.inside in
    let side = window_side w.radius in
    let long : length c.args.self.now ≡ side * side =
    ap length (sym c.self.view_is) ∙ length-window w.radius w.picture.now w.policy w.column w.row w.channel in
    c.read_before.ensures.value
    ∙ sym (window-at w.radius w.picture.now w.policy w.column w.row w.channel c.args.index (omega (arith, c.requires, long)))
    ∙ ap (λ (xs : List ℕ). get_or xs c.args.index 0) c.self.view_is
