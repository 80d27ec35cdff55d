use Rattle.std.proofs.Common.{◌≡◌, ◌+◌, ◌*◌, sym, ap, ◌∙◌}
use Rattle.plane_rect.specs.Rectangle.{Rectangle, spanning}
use Rattle.model_images.specs.Abyss.{abyss_at}
use Rattle.model_images.specs.FromRaw.{image_from_raw}
use Rattle.model_images.specs.Image.{Image, image_from_fn}
use Rattle.model_images.specs.Paint.{cut}
use Rattle.model_images.specs.Raw.{raw}
use Rattle.model_graphs.specs.Windows.{Window, window_image}
use Rattle.area_ops.specs.Grown.{counted_part, near_part}
use Rattle.area_ops.proofs.Near.{counted-height, counted-width, part-near}
use Rattle.area_ops.proofs.Padded.{InLimits-grown, all-made, grown-made}
use Rattle.area_ops.proofs.grown.grown_part.Goals.{After-near_part-near, After-rect}
use Rattle.area_ops.proofs.grown.grown_part.Goals as goal

-- the positions of the part that are read, and the part's own box
near : (c : After-near_part-near) → c.near_part-near.result ≡ near_part c.args.radius c.args.window.now.bounds c.args.out.now
near c = c.near_part-near.ensures ∙ ap (λ (w : Window). near_part c.args.radius w.bounds c.args.out.now) c.window.view_is

box : (c : After-rect) → c.near_part-near.result ≡ near_part c.args.radius c.args.window.now.bounds c.args.out.now
    → c.rect.result ≡ near_part c.args.radius c.args.window.now.bounds c.args.out.now
box c is = c.rect.ensures.value ∙ ap (λ (i : Image). i.box) c.in_ok-part.ensures ∙ is

pub counted_part-counted-requires-clause-part : goal.counted_part-counted-requires-clause-part
counted_part-counted-requires-clause-part c =
    let path = goal.at.counted_part-counted-requires-clause-part c in
    part-near c.args.radius c.args.window.now.bounds c.args.out.now c.requires.near c.rect.result (box path.After-rect (near path.After-near_part-near))

pub moved_patch-moved-requires-clause-width : goal.moved_patch-moved-requires-clause-width
moved_patch-moved-requires-clause-width c =
    let path = goal.at.moved_patch-moved-requires-clause-width c in
    ap (λ (r : Rectangle). r.width) c.counted_part-counted.ensures
    ∙ counted-width c.args.radius c.args.window.now.bounds c.args.out.now c.requires.near c.rect.result (box path.After-rect (near path.After-near_part-near))
    ∙ ap (λ (r : Rectangle). r.width) c.rect.ensures.value

pub moved_patch-moved-requires-clause-height : goal.moved_patch-moved-requires-clause-height
moved_patch-moved-requires-clause-height c =
    let path = goal.at.moved_patch-moved-requires-clause-height c in
    ap (λ (r : Rectangle). r.height) c.counted_part-counted.ensures
    ∙ counted-height c.args.radius c.args.window.now.bounds c.args.out.now c.requires.near c.rect.result (box path.After-rect (near path.After-near_part-near))
    ∙ ap (λ (r : Rectangle). r.height) c.rect.ensures.value

pub fetch-requires : goal.fetch-requires
fetch-requires c =
    let out = c.args.out.now in
    let grown : c.spanning-grown.result ≡ spanning 0 0 (out.width + 2 * c.args.radius) (out.height + 2 * c.args.radius) =
    c.spanning-grown.ensures ∙ ap (λ (r : Rectangle). spanning 0 0 (r.width + 2 * c.args.radius) (r.height + 2 * c.args.radius)) c.out.view_is in
    InLimits-grown c.args.radius (window_image c.args.window.now) c.args.abyss out c.requires.policy c.requires.near
    c.spanning-grown.result grown c.requires.radius c.requires.columns c.requires.rows

pub returns-then-is_all_near : goal.returns-then-is_all_near
returns-then-is_all_near c =
    let window = c.args.window.now in
    let is = near (goal.at.returns-then-is_all_near c).After-near_part-near in
    all-made c.args.radius (window_image window) c.args.abyss c.args.out.now c.requires.policy c.requires.near c.in_ok-part.part c.padded_bytes.result
    (c.in_ok-part.ensures ∙ ap (cut (window_image window)) is)
    (sym (ap (λ (r : Rectangle). r.width) is) ∙ c.is_all_near.ensures.columns c.if-is_all_near.true)
    (sym (ap (λ (r : Rectangle). r.height) is) ∙ c.is_all_near.ensures.rows c.if-is_all_near.true)
    c.padded_bytes.ensures

pub returns : goal.returns
returns c =
    let window = c.args.window.now in
    let out = c.args.out.now in
    let radius = c.args.radius in
    let grown : c.spanning-grown.result ≡ spanning 0 0 (out.width + 2 * radius) (out.height + 2 * radius) =
    c.spanning-grown.ensures ∙ ap (λ (r : Rectangle). spanning 0 0 (r.width + 2 * radius) (r.height + 2 * radius)) c.out.view_is in
    let part = c.in_ok-part.part in
    let moved = c.moved_patch-moved.result in
    let is_part : part ≡ cut (window_image window) (near_part radius window.bounds out) =
    c.in_ok-part.ensures ∙ ap (cut (window_image window)) (near (goal.at.returns c).After-near_part-near) in
    let is_moved : moved ≡ image_from_raw (counted_part radius out part.box) part.format (raw part part.box) =
    c.moved_patch-moved.ensures
    ∙ ap (λ (r : Rectangle). image_from_raw r part.format (raw part part.box)) (c.counted_part-counted.ensures ∙ ap (counted_part radius out) c.rect.ensures.value) in
    grown-made radius (window_image window) c.args.abyss out c.requires.policy c.requires.near part moved c.in_ok-read.read c.padded_bytes-2.result
    is_part is_moved (c.in_ok-read.ensures ∙ ap (λ (r : Rectangle). image_from_fn r moved.format (abyss_at moved c.args.abyss)) grown) c.padded_bytes-2.ensures
