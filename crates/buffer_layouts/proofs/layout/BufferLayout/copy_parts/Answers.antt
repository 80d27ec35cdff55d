use Rattle.std.proofs.Common.{◌≡◌, of_z, sym, to_z, w64, ◌∙◌}
use Rattle.std.proofs.lemmas.Int.{to_z-of_z}
use Rattle.plane_rect.specs.Rectangle.{shifted}
use Rattle.buffer_layouts.proofs.Answering.{copy_by_views, no_copy_target}
use Rattle.buffer_layouts.proofs.layout.BufferLayout.copy_parts.Goals as goal

pub returns-in_default-view-clause-refused : goal.returns-in_default-view-clause-refused
returns-in_default-view-clause-refused c =
    no_copy_target c.args.self.now.layout c.args.from c.args.to c.args.rect (shifted c.args.dx c.args.dy c.args.rect) c.in-Some.source
    (sym c.view.ensures.value ∙ c.in-Some.is) (sym c.view-2.ensures.value ∙ c.in_default-view.is)

pub returns-in-Ok-clause-carried_out : goal.returns-in-Ok-clause-carried_out
returns-in-Ok-clause-carried_out c =
    let x : to_z w64 (of_z w64 c.args.dx) ≡ c.args.dx = to_z-of_z w64 c.args.dx c.ranges.dx in
    let y : to_z w64 (of_z w64 c.args.dy) ≡ c.args.dy = to_z-of_z w64 c.args.dy c.ranges.dy in
    copy_by_views c.args.self.now.layout c.args.from c.args.to c.args.rect (shifted c.args.dx c.args.dy c.args.rect) c.in-Some.source c.in-Some-view.target
    (sym c.view.ensures.value ∙ c.in-Some.is) (sym c.view-2.ensures.value ∙ c.in-Some-view.is) ∙ (rw (x, y) at c.in-Ok.ensures.carried_out)

pub returns-in-Ok-clause-parts : goal.returns-in-Ok-clause-parts
returns-in-Ok-clause-parts c =
    let x : to_z w64 (of_z w64 c.args.dx) ≡ c.args.dx = to_z-of_z w64 c.args.dx c.ranges.dx in
    let y : to_z w64 (of_z w64 c.args.dy) ≡ c.args.dy = to_z-of_z w64 c.args.dy c.ranges.dy in
    record {
      source = sym c.view.ensures.value ∙ c.in-Some.is;
      target = sym c.view-2.ensures.value ∙ c.in-Some-view.is;
      moved = rw (x, y) at c.in-Ok.ensures.moved;
    }

pub returns-in-Err-clause-refused : goal.returns-in-Err-clause-refused
returns-in-Err-clause-refused c =
    let x : to_z w64 (of_z w64 c.args.dx) ≡ c.args.dx = to_z-of_z w64 c.args.dx c.ranges.dx in
    let y : to_z w64 (of_z w64 c.args.dy) ≡ c.args.dy = to_z-of_z w64 c.args.dy c.ranges.dy in
    copy_by_views c.args.self.now.layout c.args.from c.args.to c.args.rect (shifted c.args.dx c.args.dy c.args.rect) c.in-Some.source c.in-Some-view.target
    (sym c.view.ensures.value ∙ c.in-Some.is) (sym c.view-2.ensures.value ∙ c.in-Some-view.is) ∙ (rw (x, y) at c.in-Err.ensures.refused)
