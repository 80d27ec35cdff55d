use Rattle.std.proofs.Common.{◌≡◌, sym, ap, ◌∙◌}
use Rattle.scene_hub.proofs.BookSteps.{begins_list}
use Rattle.scene_hub.proofs.scene_list.SceneList.begin.Goals as goal

pub compare_exchange-requires : goal.compare_exchange-requires
compare_exchange-requires g c =
    let opened = c.open-log.ensures in
    let base = c.tracked-base.ensures in
    let key : c.tracked-base.result.key ≡ 0 = ap (λ w. w.key) base.0 ∙ ap (λ p. p.key) opened.4 in
    let book : c.tracked-base.result.book ≡ c.open-log.result.0.book = ap (λ w. w.book) base.0 ∙ opened.2 in
    let offer = c.plain-offer.ensures in
    let pen = c.no_pen-pen.ensures in (
      ap (λ w. w.tracked) base.0,
      sym book,
      pen.0 ∙ sym book,
      offer.0,
      rw (key, pen.1, offer.3) (begins_list c.open-log.result.0.log c.plain-offer.result.ask),
    )
