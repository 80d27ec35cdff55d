use Rattle.std.proofs.Common.{sym, ap, ◌∙◌}
use Rattle.scene_hub.proofs.BookSteps.{takes_pen}
use Rattle.scene_hub.proofs.scene_list.new_pen.Goals as goal

pub compare_exchange-requires : goal.compare_exchange-requires
compare_exchange-requires g c =
    let base = c.requires in
    let offer = c.plain-offer.ensures in
    let pen = c.no_pen-pen.ensures in (
      ap (λ w. w.tracked) base,
      sym (ap (λ w. w.book) base),
      pen.0 ∙ sym (ap (λ w. w.book) base),
      offer.0,
      rw (ap (λ w. w.key) base, pen.1, offer.3) (takes_pen c.args.log.now.log c.plain-offer.result.ask),
    )
