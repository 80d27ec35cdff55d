use Rattle.std.proofs.Common.{◌≡◌, ap, ◌∙◌}
use Rattle.pixel_formats.specs.declared.format.Format.{Format}
use Rattle.model_images.specs.FromRaw.{image_from_raw}
use Rattle.model_graphs.specs.Windows.{Window, window_image}
use Rattle.patch_abyss.proofs.FirstPixels.{HasFirstPixels-all}
use Rattle.op_contracts.proofs.window.Window.inner_part.Goals as goal

pub returns-in-Some : goal.returns-in-Some
returns-in-Some c =
    let window = c.args.self.now in
    let part = c.args.part in
    let format : c.self.inside.format ≡ window.format = ap (λ (w : Window). w.format) c.self.view_is in
    c.from_vec.ensures
    ∙ ap (λ (f : Format). image_from_raw part f c.in-Some.bytes.items) format
    ∙ HasFirstPixels-all (window_image window) part c.in-Some.bytes.items (rw c.in-Some.is at c.in_ok-bytes.ensures)
