use Rattle.std.proofs.Common.{◌≡◌, sym, ap, ◌∙◌, arith, refl}
use Rattle.plane_rect.specs.Rectangle.{Rectangle}
use Rattle.model_graphs.specs.Windows.{Window, window_image}
use Rattle.patch_abyss.proofs.TilesOfPatches.{some_positions}
use Rattle.area_ops.proofs.Squares.{count-made, few-columns, nothing-made, part-made, result-near}
use Rattle.area_ops.proofs.part.area_part.Goals as goal

pub returns-then-is_empty : goal.returns-then-is_empty
returns-then-is_empty c =
    let window = c.args.window.now in
    nothing-made c.args.kind c.args.radius c.args.abyss (window_image window) c.args.out c.requires.area c.requires.part
    c.window.inside.format c.zero.result (ap (λ (w : Window). w.format) c.window.view_is) (c.is_empty.ensures.positions.0 c.if-is_empty.true) c.zero.ensures

pub grown_part-requires-clause-near : goal.grown_part-requires-clause-near
grown_part-requires-clause-near c =
    let some = some_positions c.args.out (sym c.if-is_empty.false ∙ c.is_empty.ensures.value) in
    result-near c.args.kind c.args.radius c.args.abyss c.args.window.now.bounds c.args.out c.requires.part some.0 some.1

pub invariant_of-area : goal.invariant_of-area
invariant_of-area c =
    let some = some_positions c.args.out (sym c.if-is_empty.false ∙ c.is_empty.ensures.value) in
    let few = few-columns c.requires.tile.0 c.args.out c.requires.tile.1 some.0 some.1 in
    let width : c.out.inside.w ≡ c.args.out.width = ap (λ (r : Rectangle). r.width) c.out.view_is in
    let height : c.out.inside.h ≡ c.args.out.height = ap (λ (r : Rectangle). r.height) c.out.view_is in
    record {
      radius_in_range = c.requires.area.0.1;
      some_columns = omega (arith, width, some.0);
      few_columns = omega (arith, width, few.0);
      some_rows = omega (arith, height, some.1);
      few_rows = omega (arith, height, few.1);
    }

pub from_vec-requires-clause-count : goal.from_vec-requires-clause-count
from_vec-requires-clause-count c =
    count-made c.args.out c.window.inside.format c.out.inside.w c.out.inside.h _
    (ap (λ (r : Rectangle). r.width) c.out.view_is) (ap (λ (r : Rectangle). r.height) c.out.view_is) c.in_ok-bytes.ensures.count

pub returns : goal.returns
returns c =
    let window = c.args.window.now in
    c.from_vec.ensures
    ∙ part-made c.args.kind c.args.radius c.args.abyss (window_image window) c.args.out c.requires.area c.requires.part
    c.window.inside.format c.args.radius c.out.inside.w c.out.inside.h c.deref_mut.result.now c.in_ok-read.read.items c.in_ok-bytes.bytes.items
    (ap (λ (w : Window). w.format) c.window.view_is) refl (ap (λ (r : Rectangle). r.width) c.out.view_is) (ap (λ (r : Rectangle). r.height) c.out.view_is)
    c.deref_mut.ensures.value c.in_ok-read.ensures c.in_ok-bytes.ensures.part
