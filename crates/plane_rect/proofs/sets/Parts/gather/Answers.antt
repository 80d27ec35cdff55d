use Rattle.std.proofs.Common.{◌≡◌, ◌+◌, set, get_or, ap, sym, arith, ◌∙◌, rules, filter, take, length}
use Rattle.plane_rect.specs.declared.sets.Parts.{Parts}
use Rattle.plane_rect.specs.Rectangle.{Rectangle, has_positions}
use Rattle.plane_rect.specs.Parts.{parts_of}
use Rattle.plane_rect.proofs.Gathered.{gathered_more, gathered_same, length-gathered}
use Rattle.plane_rect.proofs.sets.Parts.gather.Goals as goal
use Rattle.plane_rect.proofs.sets.Parts.gather.Goals.{then-not-is_empty, else-not-is_empty}

pub bounds-gathered-gathered : goal.bounds-gathered-gathered
bounds-gathered-gathered c =
    let count : c.loop-rectangle.gathered.count ≡ length (filter has_positions (take c.loop-rectangle.rectangle-index c.args.rectangles)) = ap (λ (p : Parts). p.count) c.loop-rectangle.invariant in
    omega (arith, length-gathered c.args.rectangles c.loop-rectangle.rectangle-index)

-- the parts with one more
abbrev put : Parts → Rectangle → Parts
put p r = record { count = p.count + 1; parts = set p.parts p.count r }

pub loop-rectangle-preserved : goal.loop-rectangle-preserved
loop-rectangle-preserved c = elim c.if-not-is_empty.branch [
  | then-not-is_empty w ↦
      let more = gathered_more c.args.rectangles c.loop-rectangle.rectangle-index c.rectangle-item.result (search rules) c.loop-rectangle-test.true (sym c.is_empty.ensures.value ∙ w.if-not-is_empty.true) in
      w.gathered-is ∙ ap (λ (p : Parts). put p (get_or c.args.rectangles c.loop-rectangle.rectangle-index c.rectangle-item.result)) c.loop-rectangle.invariant ∙ sym more
  | else-not-is_empty w ↦
      let same = gathered_same c.args.rectangles c.loop-rectangle.rectangle-index c.rectangle-item.result (search rules) c.loop-rectangle-test.true (sym c.is_empty.ensures.value ∙ w.if-not-is_empty.false) in
      w.gathered-is ∙ c.loop-rectangle.invariant ∙ ap parts_of (sym same)
]
